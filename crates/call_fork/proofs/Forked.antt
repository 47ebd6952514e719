-- A fork: the parent's pages, copied piece after piece, are the pages that the specification places.
use Prim.Native.Nat.{ℕ, zero, suc, ◌+◌, ◌-◌, ◌<◌}
use native.Mathlib.Omega.{arith}
use mathlib.Core.Path.{◌≡◌, refl, sym, ap, subst, fun_ext, ◌∙◌}
use mathlib.Core.Bool.{true}
use Rattle.std.specs.Prelude.{Some}
use mathlib.Core.List.{List, [], ◌∷◌, ◌++◌, append_assoc, append-nil}
use lib.ListN.{length, get_or, take, replicate}
use borrow.Author.Tests.{eq-eqb, ne_eqb}
use Rattle.spec.specs.Tests.{◌is◌}
use Rattle.spec.specs.Book.{valid, frame_of, zero_segment, stack, bss_segment, in_segment, perm_at, used, proc_at, pieces_of, data_only}
use Rattle.spec.specs.Sound.{ImageSegment, Shape, Sound}
use Rattle.spec.specs.Frames.{Store, pages_of, place, frame_bytes}
use Rattle.spec.specs.declared.Setup.{Setup}
use Rattle.spec.specs.declared.UserSegment.{UserSegment}
use Rattle.spec.specs.declared.Proc.{Proc}
use Rattle.spec.specs.declared.Procs.{Procs}
use Rattle.spec.proofs.Bools.{split, within-test}
use Rattle.spec.proofs.Lists.{take_next}
use Rattle.spec_laws.proofs.Lists.{Each, each_map, each_append, each_same}
use Rattle.spec_laws.proofs.Frame.{frame-perm}
use Rattle.spec_laws.proofs.Place.{place-append}
use Rattle.spec_laws.proofs.Pages.{pages-append}
use Rattle.spec_laws.proofs.Record as record-laws
use Rattle.spec_laws.proofs.Shape.{each-image, shape-image, shape-used}
use Rattle.spec_laws.proofs.OwnPieces.{shape_pieces}
use Rattle.pagealloc.specs.Lent.{Mapped}
use Rattle.call_fork.specs.Lent.{Copyable, Kept}
use Rattle.call_fork.proofs.Told.{kept_self, kept-both}

-- ---- data

pub data-append : (gs hs : List UserSegment) → data_only (gs ++ hs) ≡ data_only gs ++ data_only hs
data-append [] hs = refl
data-append (g ∷ gs) hs = split (g.perm is 3) (λ q. rw q (ap (λ (x : List UserSegment). g ∷ x) (data-append gs hs))) (λ q. rw q (data-append gs hs))

-- one place more: data, or not
pub data-more : (gs : List UserSegment) (i : ℕ) → i < length gs → (get_or gs i zero_segment).perm ≡ 3 → data_only (take (i + 1) gs) ≡ data_only (take i gs) ++ get_or gs i zero_segment ∷ []
data-more gs i l e =
    ap data_only (take_next gs i zero_segment l) ∙ data-append (take i gs) (get_or gs i zero_segment ∷ [])
    ∙ ap (λ (x : List UserSegment). data_only (take i gs) ++ x) (rw (eq-eqb (get_or gs i zero_segment).perm 3 e) refl)

pub data-less : (gs : List UserSegment) (i : ℕ) → i < length gs → ((get_or gs i zero_segment).perm ≡ 3 → ⊥) → data_only (take (i + 1) gs) ≡ data_only (take i gs)
data-less gs i l ne =
    ap data_only (take_next gs i zero_segment l) ∙ data-append (take i gs) (get_or gs i zero_segment ∷ [])
    ∙ ap (λ (x : List UserSegment). data_only (take i gs) ++ x) (rw (ne_eqb (get_or gs i zero_segment).perm 3 ne) refl) ∙ append-nil (data_only (take i gs))

-- unused places are no data
none-data : (k : ℕ) → data_only (replicate k zero_segment) ≡ []
none-data zero = refl
none-data (suc k) = none-data k

pub data-own : {setup : Setup} (p : Proc) (image : List UserSegment) → Shape setup p image → data_only (p.segments ++ bss_segment p.bss ∷ []) ≡ data_only (pieces_of p)
data-own {setup} p image shape =
    let zeros = replicate (15 - length image) zero_segment in
    let bss = bss_segment p.bss ∷ [] in
    data-append p.segments bss
    ∙ ap (λ (x : List UserSegment). x ++ data_only bss)
    (ap data_only (shape.segments ∙ sym (append_assoc image (stack setup ∷ []) zeros)) ∙ data-append (image ++ stack setup ∷ []) zeros
    ∙ ap (λ (x : List UserSegment). data_only (image ++ stack setup ∷ []) ++ x) (none-data (15 - length image)) ∙ append-nil (data_only (image ++ stack setup ∷ []))
    ∙ ap data_only (sym (shape-used setup p image shape)))
    ∙ sym (data-append (used p.segments) bss)

-- ---- copies so far

-- pages that a process has stay mapped while they stay in their frames
pub mapped-still : (m t : Store) (n low high : ℕ) → Kept m t n → Mapped m.book n low high → Mapped t.book n low high
mapped-still m t n low high e h page z l u = let k = h page z l u in (k.0, e.same page ∙ k.1)

-- what has been placed for the child: copies of the pages of gs, while the parent's pages stay
pub record Copied (m₀ m : Store) (parent child : ℕ) (gs : List UserSegment) : Type 0 where
  pub made : m ≡ place m₀ child (pages_of (λ a. frame_bytes m₀.frames (frame_of m₀.book parent a)) gs)
  pub kept : Kept m₀ m parent

pub copied_none : (m : Store) (parent child : ℕ) → Copied m m parent child []
unfolding place
copied_none m parent child = record { made = refl; kept = kept_self m parent }

-- the pages of the parent, in either store
pub bytes_same : (m t : Store) (n : ℕ) (gs : List UserSegment) → Kept m t n
    → pages_of (λ a. frame_bytes t.frames (frame_of t.book n a)) gs ≡ pages_of (λ a. frame_bytes m.frames (frame_of m.book n a)) gs
bytes_same m t n gs c = ap (λ (f : ℕ → List ℕ). pages_of f gs) (fun_ext (λ a. c.bytes a))

pub copied_some : (m₀ m t : Store) (parent child : ℕ) (gs hs : List UserSegment) → Copied m₀ m parent child gs
    → t ≡ place m child (pages_of (λ a. frame_bytes m.frames (frame_of m.book parent a)) hs) → Kept m t parent → Copied m₀ t parent child (gs ++ hs)
copied_some m₀ m t parent child gs hs c e k = record {
  made = e ∙ ap (place m child) (bytes_same m₀ m parent hs c.kept)
      ∙ ap (λ (x : Store). place x child (pages_of f₀ hs)) c.made
      ∙ sym (ap (place m₀ child) (pages-append f₀ gs hs) ∙ place-append m₀ child (pages_of f₀ gs) (pages_of f₀ hs));
  kept = kept-both m₀ m t parent c.kept k;
}
  where
    f₀ : ℕ → List ℕ
    f₀ a = frame_bytes m₀.frames (frame_of m₀.book parent a)

pub copied_more : (m₀ m t : Store) (parent child : ℕ) (gs : List UserSegment) (g : UserSegment) → Copied m₀ m parent child gs
    → t ≡ place m child (pages_of (λ a. frame_bytes m.frames (frame_of m.book parent a)) (g ∷ [])) → Kept m t parent → Copied m₀ t parent child (gs ++ g ∷ [])
copied_more m₀ m t parent child gs g c e k = copied_some m₀ m t parent child gs (g ∷ []) c e k

-- ---- a living process's pieces can be copied

each_both : {A : Type 0} (P Q : A → Type 0) (xs : List A) → Each P xs → Each Q xs → Each (λ x. P x × Q x) xs
each_both P Q [] p q = tt
each_both P Q (x ∷ xs) p q = ((p.0, q.0), each_both P Q xs p.1 q.1)

each-parts : {A : Type 0} (P : A → Type 0) (xs ys : List A) → Each P (xs ++ ys) → Each P xs × Each P ys
each-parts P [] ys e = (tt, e)
each-parts P (x ∷ xs) ys e = let r = each-parts P xs ys e.1 in ((e.0, r.0), r.1)

-- an address of one of them has a permission
abbrev Found : List UserSegment → UserSegment → Type 0
Found gs g = (a : ℕ) → in_segment a g ≡ true → (q : ℕ) × (perm_at gs a ≡ Some q)

each-found : (gs : List UserSegment) → Each (Found gs) gs
each-found [] = tt
each-found (g ∷ gs) = (
  λ a i. (g.perm, rw i),
  each_map (Found gs) (Found (g ∷ gs)) (λ h f a i. split (in_segment a g) (λ s. (g.perm, rw s)) (λ s. let r = f a i in (r.0, rw s r.1))) gs (each-found gs),
)

module _ {setup : Setup} (book : List ℕ) (ps : Procs) (whole : record-laws.Whole ps) (sound : Sound setup book ps) (n : ℕ) (v : valid n ≡ true) (image : List UserSegment) (shape : Shape setup (proc_at ps n) image) where
  abbrev p : Proc
  p = proc_at ps n

  abbrev bss : UserSegment
  bss = bss_segment p.bss

  abbrev ends : List UserSegment
  ends = stack setup ∷ bss ∷ []

  found-mapped : (g : UserSegment) → Found (image ++ ends) g → Mapped book n g.range.start g.range.end
  found-mapped g h page z l u =
      let r = h page (within-test g.range.start g.range.end page l u) in
      frame-perm book n page r.0 (sound.exact n page v z ∙ ap (λ (gs : List UserSegment). perm_at gs page) (shape_pieces setup p image shape) ∙ r.1)

  found : Each (Found (image ++ ends)) image × Each (Found (image ++ ends)) ends
  found = each-parts (Found (image ++ ends)) image ends (each-found (image ++ ends))

  of_image : Each (Copyable book n) image
  of_image =
      each_map (λ g. ImageSegment setup g × Found (image ++ ends) g) (Copyable book n)
      (λ g h. record { start = h.0.aligned.0; end = h.0.aligned.1; high = omega (arith, h.0.between.1, sound.accepted); mapped = found-mapped g h.1 }) image
      (each_both (ImageSegment setup) (Found (image ++ ends)) image (each-image setup setup.utzero image (shape-image setup p image shape)) found.0)

  of_zero : Copyable book n zero_segment
  of_zero = record { start = refl; end = refl; high = omega arith; mapped = λ page z l u. absurd (omega arith) }

  pub copyable-segments : Each (Copyable book n) p.segments
  copyable-segments =
      subst (Each (Copyable book n)) (sym shape.segments)
      (each_append (Copyable book n) image (stack setup ∷ replicate (15 - length image) zero_segment) of_image
      (record { start = omega (arith, sound.accepted); end = omega (arith, sound.accepted); high = omega (arith, sound.accepted); mapped = found-mapped (stack setup) found.1.0 }, each_same (Copyable book n) zero_segment of_zero (15 - length image)))

  pub copyable-bss : Copyable book n bss
  copyable-bss = record { start = omega arith; end = shape.bss-end.0; high = omega (arith, shape.bss-end.1, sound.accepted); mapped = found-mapped bss found.1.1.0 }
