-- Break: the bss end moves; pages past it go, and new ones come in as 0.
use Prim.Native.Nat.{ℕ, ◌-◌, ◌%◌, ◌≤◌, ◌<◌}
use native.Mathlib.Omega.{arith}
use mathlib.Core.Path.{◌≡◌, refl, sym, ap, ◌∙◌, subst, fun_ext}
use mathlib.Core.Bool.{Bool, true, false, not, ◌&&◌}
use Rattle.std.specs.Prelude.{Option, None, Some}
use mathlib.Core.List.{List, [], ◌∷◌}
use lib.ListN.{get_or}
use borrow.Author.Tests.{lt-ltb, le-ltb}
use Rattle.spec.proofs.Bools.{split, clash, within-means, within-test, within-not}
use Rattle.spec.specs.Tests.{◌below◌, within, ◌⇒◌else◌}
use Rattle.spec.specs.Numbers.{limit, page_down, page_up, zero_page}
use Rattle.spec.specs.Book.{valid, free, range, segment, used, stack, bss_segment, perm_at, page_count, proc_at}
use Rattle.spec.specs.Sound.{Shape}
use Rattle.spec.specs.Frames.{Cell, Mem, Store, pages_of, place, release}
use Rattle.spec.specs.Segment.{moved}
use Rattle.spec.specs.Machine.{moved_to}
use Rattle.spec.specs.World.{State, taken, view, brk}
use Rattle.spec.specs.History.{perm_in}
use Rattle.spec.specs.declared.UserSegment.{UserSegment}
use Rattle.spec.specs.declared.Proc.{Proc}
use Rattle.spec.specs.declared.Setup.{Setup}
use Rattle.spec_laws.proofs.Lists.{by_order}
use Rattle.spec_laws.proofs.Shape.{shape-made, shape-image, shape-bss, shape-used}
use Rattle.spec_laws.proofs.Pieces.{outside_low, perm-past, perm-there, tail-same, within-page}
use Rattle.spec_laws.proofs.Pages.{cell_or}
use Rattle.spec_laws.proofs.Contents.{length-zero, zero-byte}
use Rattle.spec_laws.proofs.Release.{free-release}
use Rattle.spec_laws.proofs.OwnPieces.{image-high}
use Rattle.spec_history.proofs.Passed.{Good, good-setup}
use Rattle.spec_history.proofs.Accepted.{Moves}
use Rattle.spec_history.proofs.OneState.{known, living-shape, pages}
use Rattle.spec_history.proofs.Stored.{Stored, Proper, stored-release, stored-place}
use Rattle.spec_history.proofs.Change.{Exact, holds, Change, stored-self, change-set}

-- ---- the record

-- the record with its bss end moved
abbrev moved_proc : Proc → ℕ → Proc
moved_proc p top = record { segments = p.segments; text = p.text; bss = range p.bss.start top }

moved-shape : (setup : Setup) (p : Proc) (image : List UserSegment) → Shape setup p image → (top : ℕ) → p.bss.start ≤ top → top % 4096 ≡ 0 → top ≤ limit setup → Shape setup (moved_proc p top) image
moved-shape setup p image h top l z u =
    let b = shape-bss setup p image h in
    shape-made setup (moved_proc p top) image h.segments h.at_most (shape-image setup p image h) (record { start = b.start; order = l; aligned = z; low = u; past = b.past })

-- ---- permissions

-- no segment of a record lies between its bss and limit
above-segments : (setup : Setup) (p : Proc) (image : List UserSegment) → Shape setup p image → (a : ℕ) → page_up p.bss.start ≤ a → a < limit setup → perm_at (used p.segments) a ≡ None
above-segments setup p image h a l u =
    let b = shape-bss setup p image h in
    ap (λ (gs : List UserSegment). perm_at gs a) (shape-used setup p image h)
    ∙ perm-past image (stack setup ∷ []) a (image-high setup setup.utzero image (shape-image setup p image h) a (omega (arith, b.past)))
    ∙ perm-there (stack setup) [] a (outside_low (stack setup) a (omega arith))

-- an address that lies in neither range lies below both ends or below none
same-below : (x y a : ℕ) → within x y a ≡ false → within y x a ≡ false → (a below x) ≡ (a below y)
same-below x y a q t =
    by_order a x
    (λ l. by_order a y (λ k. lt-ltb a x l ∙ sym (lt-ltb a y k)) (λ k. clash (within y x a) (within-test y x a k l) t))
    (λ l. by_order a y (λ k. clash (within x y a) (within-test x y a l k) q) (λ k. le-ltb a x l ∙ sym (le-ltb a y k)))

moved-exact : (setup : Setup) (p : Proc) (image : List UserSegment) → Shape setup p image → (top : ℕ) → page_up p.bss.start ≤ top → top ≤ limit setup → (mem : Mem) → Exact (holds setup p mem) → Exact (moved_to top (holds setup p mem))
moved-exact setup p image h top l u mem e a =
    split (within end top a)
    (λ q.
    let r = within-means end top a q in
    rw q (sym (perm-past (used p.segments) (bss_segment (range start top) ∷ []) a (above-segments setup p image h a (omega (arith, order, r.0)) (omega (arith, r.1)))
    ∙ rw (within-test (page_up start) top a (omega (arith, order, r.0)) r.1))))
    (λ q.
    split (within top end a)
    (λ t.
    let r = within-means top end a t in
    rw (q, t) (sym (perm-past (used p.segments) (bss_segment (range start top) ∷ []) a (above-segments setup p image h a (omega (arith, r.0)) (omega (arith, r.1, h.bss-end.1)))
    ∙ rw (within-not (page_up start) top a (λ x y. omega (arith, r.0))))))
    (λ t. rw (q, t) (e a ∙ tail-same (used p.segments) (bss_segment p.bss ∷ []) (bss_segment (range start top) ∷ []) a (ap (λ (b : Bool). not (a below page_up start) && b ⇒ Some 3 else None) (same-below end top a q t)))))
  where
    start : ℕ
    start = p.bss.start

    end : ℕ
    end = p.bss.end

    order : page_up start ≤ end
    order = omega (arith, h.bss-order, h.bss-end.0)

-- ---- frames and book

nothing : (c : Option Cell) → perm_in c ≡ None → c ≡ None
nothing None e = refl
nothing (Some c) e = absurd (let z : ◌≡◌ {A = ℕ} 0 1 = cc in omega arith)

pub break-change : (s : State) → Good s → (n addr : ℕ) → valid n ≡ true → taken s n ≡ true → Moves s.setup (view s n).bss addr (free s.store.book)
    → Change s (brk s n (proc_at s.procs n) (page_up addr)) n (moved_to (page_up addr) (view s n))
break-change s g n addr v t h =
    change-set s g n v (place m₁ n (pages_of zero_page gs)) (moved_proc p top) (moved end top mem)
    (subst (Stored s.setup s.store (place m₁ n (pages_of zero_page gs)) n) (fun_ext seen)
    (stored-place s.setup s.store m₁ n mem₁ released v zero_page gs (record { start = low.0; end = top-aligned; apart = λ a q. refl }, tt) proper (λ a q z e. length-zero a) new enough))
    (let w = (known s g).whole.each (n - 1) in record { segments = w.segments; text = w.text })
    (λ l. (image, moved-shape s.setup p image shape top (omega (arith, h.above-start)) top-aligned h.low))
    (moved-exact s.setup p image shape top (omega (arith, h.above-start)) h.low mem (λ a. pages s g n a v))
  where
    p : Proc
    p = proc_at s.procs n

    mem : Mem
    mem = (view s n).mem

    end : ℕ
    end = p.bss.end

    top : ℕ
    top = page_up addr

    image : List UserSegment
    image = (living-shape s g n v t).0

    shape : Shape s.setup p image
    shape = (living-shape s g n v t).1

    top-aligned : top % 4096 ≡ 0
    top-aligned = omega arith

    low : (end % 4096 ≡ 0) × (end ≤ limit s.setup)
    low = shape.bss-end

    gs : List UserSegment
    gs = segment end top 3 ∷ []

    m₁ : Store
    m₁ = release s.store n (within top end)

    mem₁ : Mem
    mem₁ a = within top end (page_down a) ⇒ None else mem a

    released : Stored s.setup s.store m₁ n mem₁
    released = stored-release s.setup s.store s.store n mem (stored-self s g n) v (within top end)

    -- an address of a new page
    between : (a q : ℕ) → perm_at gs a ≡ Some q → (q ≡ 3) × (end ≤ a) × (a < top)
    between a q e =
        split (within end top a)
        (λ w. let r = within-means end top a w in let z : Some 3 ≡ Some q = rw w at e in (cc, r.0, r.1))
        (λ w. let z : None ≡ Some q = rw w at e in absurd (let y : ◌≡◌ {A = ℕ} 0 1 = cc in omega arith))

    proper : Proper s.setup gs
    proper a q e =
        let r = between a q e in
        (omega (arith, r.0), omega (arith, r.0), omega (arith, r.1, shape.bss-start, shape.bss-order), omega (arith, r.2, h.low, good-setup s g))

    -- was not there
    new : (a q : ℕ) → a % 4096 ≡ 0 → perm_at gs a ≡ Some q → mem₁ a ≡ None
    new a q z e = gone (within top end (page_down a))
      where
        r : (q ≡ 3) × (end ≤ a) × (a < top)
        r = between a q e

        unmapped : mem a ≡ None
        unmapped =
            nothing (mem a) (pages s g n a v
            ∙ perm-past (used p.segments) (bss_segment p.bss ∷ []) a (above-segments s.setup p image shape a (omega (arith, r.1, shape.bss-order, low.0)) (omega (arith, r.2, h.low)))
            ∙ rw (within-not (page_up p.bss.start) end a (λ x y. omega (arith, r.1))))

        gone : (b : Bool) → (b ⇒ None else mem a) ≡ None
        gone true = refl
        gone false = unmapped

    enough : page_count gs ≤ free m₁.book
    enough = omega (arith, free-release s.store n (within top end) v (known s g).facts.mappings, h.room, low.0)

    seen : (a : ℕ) → cell_or (perm_at gs a) (get_or (zero_page (page_down a)) (a % 4096) 0) (mem₁ a) ≡ moved end top mem a
    seen a = rw (zero-byte (page_down a) (a % 4096), within-page top end a top-aligned low.0) (go (within end top a))
      where
        go : (b : Bool) → cell_or (b ⇒ Some 3 else None) 0 (within top end a ⇒ None else mem a) ≡ (b ⇒ Some (record { perm = 3; byte = 0 }) else within top end a ⇒ None else mem a)
        go true = refl
        go false = refl
