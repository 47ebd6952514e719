-- The parts of a record that has the shape of a living process's, or is a dead one's: aligned, disjoint, and giving an address what the
-- record's pieces give it.
use Prim.Native.Nat.{ℕ, zero, suc, ◌+◌, ◌-◌, ◌%◌, ◌<◌, ◌≤◌}
use native.Mathlib.Omega.{arith}
use native.Mathlib.Nat.{not-suc-le-zero, le_of_suc-le-suc}
use mathlib.Core.Path.{◌≡◌, refl, sym, ap, ◌∙◌}
use mathlib.Core.Bool.{true, false}
use Rattle.std.specs.Prelude.{None, Some}
use mathlib.Core.List.{List, [], ◌∷◌, ◌++◌, append_assoc}
use lib.ListN.{length, get_or, replicate, length-append, get_or-append}
use lib.Seq.{get_or_at}
use borrow.Author.Tests.{ne_eqb}
use Rattle.spec.specs.Tests.{◌is◌}
use Rattle.spec.specs.Numbers.{max_top, SetupOk}
use Rattle.spec.specs.Book.{segment, zero_segment, zero_proc, lives, stack, bss_segment, in_segment, perm_at, pieces_of}
use Rattle.spec.specs.Sound.{ImageSegment, Shape}
use Rattle.spec.specs.declared.UserSegment.{UserSegment}
use Rattle.spec.specs.declared.Proc.{Proc}
use Rattle.spec.proofs.Bools.{split, clash, within-means}
use Rattle.spec.specs.declared.Setup.{Setup}
use Rattle.spec_laws.proofs.Lists.{by_order, Each, each_map, each_append, each_at, each_same}
use Rattle.spec_laws.proofs.Record.{WholeProc, dead-zero}
use Rattle.spec_laws.proofs.Shape.{Image, image_end, Bss, each-image, shape-image, shape-bss}
use Rattle.spec_laws.proofs.Pieces.{outside_low, outside_high, perm-here, perm-there, Pieces, tail-same}
use Rattle.spec_laws.proofs.Exact.{some-none}
use Rattle.spec_laws.proofs.Facts.{Shaped}
use Rattle.sound_plan.specs.Plan.{seat, part}
use Rattle.sound_plan.proofs.Laying.{part-segment, part-bss}
use Rattle.spec_laws.proofs.OwnPieces.{zero-apart, image-apart, stack-bss-apart, stack-bss-low, shape_pieces}

-- ---- what holds of each segment of a list

pub each-made : (P : UserSegment → Type 0) (gs : List UserSegment) → ((j : ℕ) → j < length gs → P (get_or gs j zero_segment)) → Each P gs
each-made P [] f = tt
each-made P (g ∷ gs) f = (f 0 (omega arith), each-made P gs (λ j h. f (suc j) (omega arith)))

-- ---- addresses in disjoint segments

-- one that some segment holds has a permission, that of the only one
pub perm_at_lem : (gs : List UserSegment) (a q : ℕ) → perm_at gs a ≡ Some q → (j : ℕ) × (j < length gs) × (in_segment a (get_or gs j zero_segment) ≡ true) × ((get_or gs j zero_segment).perm ≡ q)
perm_at_lem [] a q e = some-none None q e refl
perm_at_lem (g ∷ gs) a q e =
    split (in_segment a g)
    (λ i. let s : Some g.perm ≡ Some q = rw i at e in let w : g.perm ≡ q = cc in (0, omega arith, i, w))
    (λ i. let r = perm_at_lem gs a q (rw i at e) in (suc r.0, omega (arith, r.1), r.2, r.3))

pub at-perm : (gs : List UserSegment) → Pieces gs → (j a : ℕ) → j < length gs → in_segment a (get_or gs j zero_segment) ≡ true → perm_at gs a ≡ Some (get_or gs j zero_segment).perm
at-perm [] d j a h i = absurd (not-suc-le-zero h)
at-perm (g ∷ gs) d zero a h i = perm-here g gs a i
at-perm (g ∷ gs) d (suc j) a h i =
    let r = at-perm gs d.1 j a (le_of_suc-le-suc h) i in
    split (in_segment a g) (λ k. some-none (perm_at gs a) _ r (d.0.apart a k)) (λ k. perm-there g gs a k ∙ r)

pub at_one : (gs : List UserSegment) → Pieces gs → (j k a : ℕ) → j < length gs → k < length gs → in_segment a (get_or gs j zero_segment) ≡ true → in_segment a (get_or gs k zero_segment) ≡ true → j ≡ k
at_one [] d j k a h l x y = absurd (not-suc-le-zero h)
at_one (g ∷ gs) d zero zero a h l x y = refl
at_one (g ∷ gs) d zero (suc k) a h l x y = some-none (perm_at gs a) _ (at-perm gs d.1 k a (le_of_suc-le-suc l) y) (d.0.apart a x)
at_one (g ∷ gs) d (suc j) zero a h l x y = some-none (perm_at gs a) _ (at-perm gs d.1 j a (le_of_suc-le-suc h) x) (d.0.apart a y)
at_one (g ∷ gs) d (suc j) (suc k) a h l x y = ap suc (at_one gs d.1 j k a (le_of_suc-le-suc h) (le_of_suc-le-suc l) x y)

-- unused places hold nothing
zero-holds : (a : ℕ) → in_segment a zero_segment ≡ false
zero-holds a = outside_high zero_segment a (omega arith)

perm-zeros : (k : ℕ) (gs : List UserSegment) (a : ℕ) → perm_at (replicate k zero_segment ++ gs) a ≡ perm_at gs a
perm-zeros zero gs a = refl
perm-zeros (suc k) gs a = perm-there zero_segment (replicate k zero_segment ++ gs) a (zero-holds a) ∙ perm-zeros k gs a

apart-zeros : (k : ℕ) (gs : List UserSegment) → Pieces gs → Pieces (replicate k zero_segment ++ gs)
apart-zeros zero gs d = d
apart-zeros (suc k) gs d = (record { start = refl; end = refl; apart = λ a i. clash (in_segment a zero_segment) i (zero-holds a) }, apart-zeros k gs d)

-- ---- the parts of a record

-- a part: page-aligned, below the top, and where it has pages from UTZERO up to UADDRTOP
pub record Part (setup : Setup) (g : UserSegment) : Type 0 where
  pub ordered : g.range.start ≤ g.range.end
  pub high : g.range.end ≤ max_top
  pub start-page : g.range.start % 4096 ≡ 0
  pub end-page : g.range.end % 4096 ≡ 0
  pub low : g.range.start < g.range.end → setup.utzero ≤ g.range.start
  pub inside : g.range.start < g.range.end → g.range.end ≤ setup.uaddrtop

-- a segment that has pages has a permission, and none has a larger number
pub record Perm (g : UserSegment) : Type 0 where
  pub high : g.perm ≤ 3
  pub low : g.range.start < g.range.end → 1 ≤ g.perm

zero-part : (setup : Setup) → Part setup zero_segment
zero-part setup = record { ordered = omega arith; high = omega arith; start-page = refl; end-page = refl; low = λ h. absurd (omega arith); inside = λ h. absurd (omega arith) }

image-part : (setup : Setup) (ok : SetupOk setup) (g : UserSegment) → ImageSegment setup g → Part setup g
image-part setup ok g h = record { ordered = omega (arith, h.some-page); high = omega (arith, h.between.1); start-page = h.aligned.0; end-page = h.aligned.1; low = λ q. h.between.0; inside = λ q. omega (arith, h.between.1) }

image-parts : (setup : Setup) (ok : SetupOk setup) (end : ℕ) (image : List UserSegment) → Image setup end image → Each (Part setup) image
image-parts setup ok end image h = each_map (ImageSegment setup) (Part setup) (image-part setup ok) image (each-image setup end image h)

-- its places, and the bss
abbrev pub parts : Proc → List UserSegment
parts p = p.segments ++ bss_segment p.bss ∷ []

pub parts-long : (p : Proc) → length p.segments ≡ 16 → length (parts p) ≡ 17
parts-long p w = length-append p.segments (bss_segment p.bss ∷ []) ∙ ap (λ (k : ℕ). k + 1) w

pub part-is : (p : Proc) → length p.segments ≡ 16 → (j : ℕ) → j < 17 → part p j ≡ seat (get_or (parts p) j zero_segment)
part-is p w j h =
    by_order j 16
    (λ l. sym (part-segment p j l) ∙ ap seat (sym (get_or-append p.segments (bss_segment p.bss ∷ []) zero_segment j (omega arith))))
    (λ l. let e : j ≡ 16 = omega arith in
    rw e (sym (part-bss p) ∙ ap seat (sym (get_or_at p.segments (bss_segment p.bss) [] zero_segment 16 w))))

-- an empty part at the top
abbrev pub top : UserSegment
top = segment max_top max_top 0

seat-each : (P : UserSegment → Type 0) → P top → (g : UserSegment) → P g → P (seat g)
seat-each P t g e = split (g.perm is 0) (λ q. rw q t) (λ q. rw q e)

pub each_part : (P : UserSegment → Type 0) → P top → (p : Proc) → length p.segments ≡ 16 → Each P (parts p) → (j : ℕ) → j < 17 → P (part p j)
each_part P t p w e j h = rw (part-is p w j h) (seat-each P t (get_or (parts p) j zero_segment) (each_at P zero_segment (parts p) e j (rw (parts-long p w) h)))

pub record Parts (setup : Setup) (p : Proc) : Type 0 where
  pub each : Each (Part setup) (parts p)
  pub apart : Pieces (parts p)
  pub same : (a : ℕ) → perm_at (parts p) a ≡ perm_at (pieces_of p) a

-- of a dead process's record
dead-parts : (setup : Setup) → Parts setup zero_proc
dead-parts setup = record {
  each = each_append (Part setup) (replicate 16 zero_segment) (bss_segment zero_proc.bss ∷ []) (each_same (Part setup) zero_segment (zero-part setup) 16)
      (record { ordered = omega arith; high = omega arith; start-page = refl; end-page = refl; low = λ h. absurd (omega arith); inside = λ h. absurd (omega arith) }, tt);
  apart = apart-zeros 16 (bss_segment zero_proc.bss ∷ []) zero-apart;
  same = λ a. perm-zeros 16 (bss_segment zero_proc.bss ∷ []) a;
}

module _ (setup : Setup) (ok : SetupOk setup) where
  -- of a living one's
  module _ (p : Proc) (image : List UserSegment) (h : Shape setup p image) where
    abbrev zeros : ℕ
    zeros = 15 - length image

    abbrev last : List UserSegment
    last = bss_segment p.bss ∷ []

    are : parts p ≡ image ++ stack setup ∷ (replicate zeros zero_segment ++ last)
    are = ap (λ (l : List UserSegment). l ++ last) h.segments ∙ append_assoc image (stack setup ∷ replicate zeros zero_segment) last

    bss : Bss setup (image_end setup.utzero image) p.bss
    bss = shape-bss setup p image h

    after : (a : ℕ) → perm_at (stack setup ∷ (replicate zeros zero_segment ++ last)) a ≡ perm_at (stack setup ∷ last) a
    after a = tail-same (stack setup ∷ []) (replicate zeros zero_segment ++ last) last a (perm-zeros zeros last a)

    stack-part : Part setup (stack setup)
    stack-part = record { ordered = omega arith; high = omega arith; start-page = omega arith; end-page = omega arith; low = λ q. omega arith; inside = λ q. omega arith }

    bss-part : Part setup (bss_segment p.bss)
    bss-part = let b = bss in record { ordered = omega arith; high = omega arith; start-page = omega arith; end-page = b.aligned; low = λ q. omega arith; inside = λ q. omega arith }

    living-parts : Parts setup p
    living-parts = record {
      each = rw are (each_append (Part setup) image (stack setup ∷ (replicate zeros zero_segment ++ last)) (image-parts setup ok setup.utzero image (shape-image setup p image h))
          (stack-part, each_append (Part setup) (replicate zeros zero_segment) last (each_same (Part setup) zero_segment (zero-part setup) zeros) (bss-part, tt)));
      apart = rw are (image-apart setup setup.utzero image (stack setup ∷ (replicate zeros zero_segment ++ last)) (shape-image setup p image h)
          (record { start = omega arith; end = omega arith; apart = λ a i. perm-zeros zeros last a ∙ (stack-bss-apart setup ok (image_end setup.utzero image) p.bss bss).0.apart a i }, apart-zeros zeros last (stack-bss-apart setup ok (image_end setup.utzero image) p.bss bss).1)
          (λ a l. after a ∙ stack-bss-low setup ok (image_end setup.utzero image) p.bss bss a l));
      same = λ a. ap (λ (l : List UserSegment). perm_at l a) are ∙ tail-same image (stack setup ∷ (replicate zeros zero_segment ++ last)) (stack setup ∷ last) a (after a)
          ∙ ap (λ (l : List UserSegment). perm_at l a) (sym (shape_pieces setup p image h));
    }

  pub parts-of : (p : Proc) → WholeProc p → (lives p ≡ true → Shaped setup p) → Parts setup p
  parts-of p w shape =
      split (lives p)
      (λ l. let s = shape l in living-parts p s.0 s.1)
      (λ l. rw (dead-zero p w l) (dead-parts setup))

-- ---- an address in a place, and in a part

pub place-gives : (setup : Setup) (p : Proc) → WholeProc p → Parts setup p → (j a : ℕ) → j < 16 → in_segment a (get_or p.segments j zero_segment) ≡ true → perm_at (pieces_of p) a ≡ Some (get_or p.segments j zero_segment).perm
place-gives setup p w f j a h i =
    let e : get_or (parts p) j zero_segment ≡ get_or p.segments j zero_segment = get_or-append p.segments (bss_segment p.bss ∷ []) zero_segment j (omega (arith, w.segments)) in
    sym (f.same a) ∙ at-perm (parts p) f.apart j a (omega (arith, parts-long p w.segments)) (rw e i) ∙ ap (λ (g : UserSegment). Some g.perm) e

-- a part that holds an address is the place itself
holds-seat : (g : UserSegment) (a : ℕ) → in_segment a (seat g) ≡ true → seat g ≡ g
holds-seat g a i =
    split (g.perm is 0)
    (λ q. clash (in_segment a top) (rw q at i) (top-holds a))
    (λ q. rw q refl)
  where
    top-holds : (a : ℕ) → in_segment a top ≡ false
    top-holds a = by_order a max_top (outside_low top a) (outside_high top a)

seat-holds : (g : UserSegment) (a : ℕ) → Perm g → in_segment a g ≡ true → seat g ≡ g
seat-holds g a p i =
    let h = within-means g.range.start g.range.end a i in
    let l = p.low (omega (arith, h.0, h.1)) in
    rw (ne_eqb g.perm 0 (λ z. omega arith)) refl

module _ (setup : Setup) where
  module _ (p : Proc) (w : WholeProc p) (f : Parts setup p) (perms : Each Perm (parts p)) where
    long : (j : ℕ) → j < 17 → j < length (parts p)
    long j h = rw (parts-long p w.segments) h

    -- the place, where its part holds an address
    holds : (j a : ℕ) → j < 17 → in_segment a (part p j) ≡ true → part p j ≡ get_or (parts p) j zero_segment
    holds j a h i = let e = part-is p w.segments j h in e ∙ holds-seat (get_or (parts p) j zero_segment) a (rw e at i)

    pub part_gives : (j a : ℕ) → j < 17 → in_segment a (part p j) ≡ true → perm_at (pieces_of p) a ≡ Some (part p j).perm
    part_gives j a h i =
        let e = holds j a h i in
        sym (f.same a) ∙ at-perm (parts p) f.apart j a (long j h) (rw e at i) ∙ ap (λ (g : UserSegment). Some g.perm) (sym e)

    pub gives_part : (a q : ℕ) → perm_at (pieces_of p) a ≡ Some q → (j : ℕ) × (j < 17) × (in_segment a (part p j) ≡ true) × ((part p j).perm ≡ q)
    gives_part a q e =
        let r = perm_at_lem (parts p) a q (f.same a ∙ e) in
        let h : r.0 < 17 = rw (parts-long p w.segments) at r.1 in
        let s = part-is p w.segments r.0 h ∙ seat-holds (get_or (parts p) r.0 zero_segment) a (each_at Perm zero_segment (parts p) perms r.0 r.1) r.2 in
        (r.0, h, rw s r.2, rw s r.3)

    pub part-one : (j k a : ℕ) → j < 17 → k < 17 → in_segment a (part p j) ≡ true → in_segment a (part p k) ≡ true → j ≡ k
    part-one j k a h l x y =
        at_one (parts p) f.apart j k a (long j h) (long k l) (rw (holds j a h x) at x) (rw (holds k a l y) at y)
