-- The pieces of a living record: its image's segments, the stack and the bss, in the record's order and in a start's.
use Prim.Native.Nat.{ℕ, ◌≤◌, ◌<◌}
use native.Mathlib.Omega.{arith}
use mathlib.Core.Path.{◌≡◌, refl, sym, ap, ◌∙◌}
use mathlib.Core.Bool.{true, false}
use Rattle.std.specs.Prelude.{None, Some}
use mathlib.Core.List.{List, [], ◌∷◌, ◌++◌, append_assoc}
use Rattle.spec.proofs.Bools.{split, within-means}
use Rattle.spec.specs.Numbers.{page_up, SetupOk}
use Rattle.spec.specs.Book.{stack, bss_segment, in_segment, perm_at, zero_proc, pieces_of}
use Rattle.spec.specs.Sound.{ImageSegment, Shape}
use Rattle.spec.specs.declared.VirtRange.{VirtRange}
use Rattle.spec.specs.declared.UserSegment.{UserSegment}
use Rattle.spec.specs.declared.Proc.{Proc}
use Rattle.spec.specs.declared.Setup.{Setup}
use Rattle.spec_laws.proofs.Lists.{Each, each_map, each_append}
use Rattle.spec_laws.proofs.Shape.{Image, image_end, Bss, each-image, image-top, shape-image, shape-bss, shape-used}
use Rattle.spec_laws.proofs.Pieces.{Piece, Pieces, outside_low, outside_high, perm-here, perm-there, perm-past, perm-between}

-- ---- the image

module _ (setup : Setup) where
  -- below its first address an image has nothing, nor from its end on
  image-low : (end : ℕ) (image : List UserSegment) → Image setup end image → (a : ℕ) → a < end → perm_at image a ≡ None
  image-low end [] h a l = refl
  image-low end (g ∷ image) h a l = rw (outside_low g a (omega (arith, h.1))) (image-low g.range.end image h.2 a (omega (arith, h.0.some-page, h.1)))

  pub image-high : (end : ℕ) (image : List UserSegment) → Image setup end image → (a : ℕ) → image_end end image ≤ a → perm_at image a ≡ None
  image-high end [] h a l = refl
  image-high end (g ∷ image) h a l = rw (outside_high g a (omega (arith, image-top setup g.range.end image h.2))) (image-high g.range.end image h.2 a l)

  -- an image and pieces above it
  pub image-apart : (end : ℕ) (image rest : List UserSegment) → Image setup end image → Pieces rest → ((a : ℕ) → a < image_end end image → perm_at rest a ≡ None) → Pieces (image ++ rest)
  image-apart end [] rest h r low = r
  image-apart end (g ∷ image) rest h r low = (
    record {
      start = h.0.aligned.0;
      end = h.0.aligned.1;
      apart = λ a i.
          let w = within-means g.range.start g.range.end a i in
          let t = image-top setup g.range.end image h.2 in
          perm-past image rest a (image-low g.range.end image h.2 a w.1) ∙ low a (omega (arith, w.1));
    },
    image-apart g.range.end image rest h.2 r low,
  )

module _ (setup : Setup) (ok : SetupOk setup) where
  -- the bss and the stack lie above the image, in either order
  module _ (end : ℕ) (bss : VirtRange) (h : Bss setup end bss) where
    bss-no-stack : (a : ℕ) → in_segment a (stack setup) ≡ true → in_segment a (bss_segment bss) ≡ false
    bss-no-stack a i = outside_high (bss_segment bss) a (omega (arith, (within-means (stack setup).range.start (stack setup).range.end a i).0, h.low))

    stack-no-bss : (a : ℕ) → in_segment a (bss_segment bss) ≡ true → in_segment a (stack setup) ≡ false
    stack-no-bss a i = outside_low (stack setup) a (omega (arith, (within-means (page_up bss.start) bss.end a i).1, h.low))

    low-bss : (a : ℕ) → a < end → in_segment a (bss_segment bss) ≡ false
    low-bss a l = outside_low (bss_segment bss) a (omega (arith, h.past))

    low-stack : (a : ℕ) → a < end → in_segment a (stack setup) ≡ false
    low-stack a l = outside_low (stack setup) a (omega (arith, h.past, h.order, h.aligned, h.low))

    stack-piece : (gs : List UserSegment) → ((a : ℕ) → in_segment a (stack setup) ≡ true → perm_at gs a ≡ None) → Piece (stack setup) gs
    stack-piece gs f = record { start = omega arith; end = omega arith; apart = f }

    bss-piece : (gs : List UserSegment) → ((a : ℕ) → in_segment a (bss_segment bss) ≡ true → perm_at gs a ≡ None) → Piece (bss_segment bss) gs
    bss-piece gs f = record { start = omega arith; end = h.aligned; apart = f }

    pub stack-bss-apart : Pieces (stack setup ∷ bss_segment bss ∷ [])
    stack-bss-apart = (stack-piece (bss_segment bss ∷ []) (λ a i. perm-there (bss_segment bss) [] a (bss-no-stack a i)), (bss-piece [] (λ a i. refl), tt))

    pub bss-stack-apart : Pieces (bss_segment bss ∷ stack setup ∷ [])
    bss-stack-apart = (bss-piece (stack setup ∷ []) (λ a i. perm-there (stack setup) [] a (stack-no-bss a i)), (stack-piece [] (λ a i. refl), tt))

    pub stack-bss-low : (a : ℕ) → a < end → perm_at (stack setup ∷ bss_segment bss ∷ []) a ≡ None
    stack-bss-low a l = rw (low-stack a l, low-bss a l)

    pub bss-stack-low : (a : ℕ) → a < end → perm_at (bss_segment bss ∷ stack setup ∷ []) a ≡ None
    bss-stack-low a l = rw (low-bss a l, low-stack a l)

    pub swap-stack : (a : ℕ) → perm_at (bss_segment bss ∷ stack setup ∷ []) a ≡ perm_at (stack setup ∷ bss_segment bss ∷ []) a
    swap-stack a =
        split (in_segment a (stack setup))
        (λ i. perm-there (bss_segment bss) (stack setup ∷ []) a (bss-no-stack a i) ∙ perm-here (stack setup) [] a i ∙ sym (perm-here (stack setup) (bss_segment bss ∷ []) a i))
        (λ i. rw i)

-- ---- the whole record

-- a living record's pieces are its image's segments, the stack and the bss
pub shape_pieces : (setup : Setup) (p : Proc) (image : List UserSegment) → Shape setup p image → pieces_of p ≡ image ++ stack setup ∷ bss_segment p.bss ∷ []
shape_pieces setup p image h = ap (λ (x : List UserSegment). x ++ bss_segment p.bss ∷ []) (shape-used setup p image h) ∙ append_assoc image (stack setup ∷ []) (bss_segment p.bss ∷ [])

-- they are aligned and disjoint
pub own-pieces : (setup : Setup) (ok : SetupOk setup) (p : Proc) (image : List UserSegment) → Shape setup p image → Pieces (pieces_of p)
own-pieces setup ok p image h =
    let b = shape-bss setup p image h in
    rw (shape_pieces setup p image h)
    (image-apart setup setup.utzero image (stack setup ∷ bss_segment p.bss ∷ []) (shape-image setup p image h) (stack-bss-apart setup ok (image_end setup.utzero image) p.bss b) (stack-bss-low setup ok (image_end setup.utzero image) p.bss b))

-- a dead record has an empty bss alone, which gives nothing
pub zero-apart : Pieces (pieces_of zero_proc)
zero-apart = (record { start = refl; end = refl; apart = λ a i. refl }, tt)

pub zero-pieces : (a : ℕ) → perm_at (pieces_of zero_proc) a ≡ None
zero-pieces a = perm-there (bss_segment zero_proc.bss) [] a (outside_high (bss_segment zero_proc.bss) a (omega arith))

-- a living process's pages lie in user memory
image-between : (setup : Setup) (ok : SetupOk setup) (end : ℕ) (image : List UserSegment) (bss : VirtRange) → Image setup end image → Bss setup (image_end end image) bss
    → (a q : ℕ) → perm_at (image ++ stack setup ∷ bss_segment bss ∷ []) a ≡ Some q → (setup.utzero ≤ a) × (a < setup.uaddrtop)
image-between setup ok end image bss i h =
    perm-between setup.utzero setup.uaddrtop (image ++ stack setup ∷ bss_segment bss ∷ []) (each_append _ image (stack setup ∷ bss_segment bss ∷ []) each ((omega arith, omega arith), ((omega (arith, h.start), omega (arith, h.low)), tt)))
  where
    each : Each (λ g. (setup.utzero ≤ g.range.start) × (g.range.end ≤ setup.uaddrtop)) image
    each = each_map (ImageSegment setup) (λ g. (setup.utzero ≤ g.range.start) × (g.range.end ≤ setup.uaddrtop)) (λ g s. (s.between.0, omega (arith, s.between.1))) image (each-image setup end image i)

pub shape-between : (setup : Setup) (ok : SetupOk setup) (p : Proc) (image : List UserSegment) → Shape setup p image → (a q : ℕ) → perm_at (pieces_of p) a ≡ Some q → (setup.utzero ≤ a) × (a < setup.uaddrtop)
shape-between setup ok p image h a q e = image-between setup ok setup.utzero image p.bss (shape-image setup p image h) (shape-bss setup p image h) a q (ap (λ (x : List UserSegment). perm_at x a) (sym (shape_pieces setup p image h)) ∙ e)
