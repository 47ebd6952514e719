-- A living process's record: what the test of its segments says, and the shape that soundness states.
use Prim.Native.Nat.{ℕ, zero, suc, ◌+◌, ◌-◌, ◌%◌, ◌≤◌, ◌<◌}
use native.Mathlib.Omega.{arith}
use native.Mathlib.Nat.{not-suc-le-zero, le_of_suc-le-suc}
use mathlib.Core.Path.{◌≡◌, refl, ap, ap₂, ◌∙◌}
use mathlib.Core.Bool.{Bool, true, false, not, ◌&&◌, and-false}
use mathlib.Core.List.{List, [], ◌∷◌, ◌++◌}
use lib.ListN.{length, get_or, replicate, length-append, length-replicate}
use borrow.Author.Tests.{eqb-true, ltb-true, eq-eqb, lt-ltb, le-ltb}
use Rattle.spec.proofs.Bools.{split, clash, both, not-below, living-ok, dead-ok}
use Rattle.spec.specs.Tests.{◌is◌, ◌below◌, ◌above◌, all}
use Rattle.spec.specs.Numbers.{limit, page_up}
use Rattle.spec.specs.Book.{same_segment, zero_segment, unused, used, stack}
use Rattle.spec.specs.Sound.{bss_ok, segments_ok, ImageSegment, Shape}
use Rattle.spec.specs.declared.VirtRange.{VirtRange}
use Rattle.spec.specs.declared.UserSegment.{UserSegment}
use Rattle.spec.specs.declared.Proc.{Proc}
use Rattle.spec.specs.declared.Setup.{Setup}
use Rattle.spec_laws.proofs.Lists.{Each, each_at}
use Rattle.spec_laws.proofs.Record.{same-is, is_same, all_are, all_same}

-- ---- a living record's segments

-- segments of an image from `end` on: page-aligned, non-empty, ascending, disjoint, between UTZERO and limit
abbrev pub Image : (setup : Setup) → ℕ → List UserSegment → Type 0
Image setup end [] = Unit {0}
Image setup end (g ∷ gs) = ImageSegment setup g × (end ≤ g.range.start) × Image setup g.range.end gs

-- where the last of them ends
abbrev pub image_end : ℕ → List UserSegment → ℕ
image_end end [] = end
image_end end (g ∷ gs) = image_end g.range.end gs

-- the bss above them
pub record Bss (setup : Setup) (end : ℕ) (b : VirtRange) : Type 0 where
  pub start : setup.utzero ≤ b.start
  pub order : b.start ≤ b.end
  pub aligned : b.end % 4096 ≡ 0
  pub low : b.end ≤ limit setup
  pub past : end ≤ page_up b.start

and₅ : (a b c d e : Bool) → (a && b && c && d && e) ≡ true → (a ≡ true) × (b ≡ true) × (c ≡ true) × (d ≡ true) × (e ≡ true)
and₅ true true true true e h = (refl, refl, refl, refl, h)
and₅ true true true false e h = clash false h refl
and₅ true true false d e h = clash false h refl
and₅ true false c d e h = clash false h refl
and₅ false b c d e h = clash false h refl

pub bss-means : (setup : Setup) (end : ℕ) (b : VirtRange) → bss_ok setup end b ≡ true → Bss setup end b
bss-means setup end b e =
    let t = and₅ (not (b.start below setup.utzero)) (not (b.start above b.end)) (b.end % 4096 is 0) (not (b.end above limit setup)) (not (page_up b.start below end)) e in
    record { start = not-below b.start setup.utzero t.0; order = not-below b.end b.start t.1; aligned = eqb-true _ _ t.2; low = not-below (limit setup) b.end t.3; past = not-below _ end t.4 }

bss-test : (setup : Setup) (end : ℕ) (b : VirtRange) → Bss setup end b → bss_ok setup end b ≡ true
bss-test setup end b h = rw (le-ltb b.start setup.utzero h.start, le-ltb b.end b.start h.order, eq-eqb (b.end % 4096) 0 h.aligned, le-ltb (limit setup) b.end h.low, le-ltb (page_up b.start) end h.past)

and₆ : (a b c d e f : Bool) → (a && b && c && d && e && f) ≡ true → (a ≡ true) × (b ≡ true) × (c ≡ true) × (d ≡ true) × (e ≡ true) × (f ≡ true)
and₆ a b c d e f h =
    let p = both (a && b && c && d && e) f h in
    let q = and₅ a b c d e p.0 in
    (q.0, q.1, q.2, q.3, q.4, p.1)

module _ (setup : Setup) where
  -- the test of a segment that is not the stack, and of those after it
  pub image-first : (end : ℕ) (bss : VirtRange) (g : UserSegment) (gs : List UserSegment) → setup.utzero ≤ end → same_segment g (stack setup) ≡ false → segments_ok setup end bss (g ∷ gs) ≡ true
      → ImageSegment setup g × (end ≤ g.range.start) × (segments_ok setup g.range.end bss gs ≡ true)
  image-first end bss g gs u q e =
      let t = and₆ (g.range.start % 4096 is 0) (g.range.end % 4096 is 0) (g.range.start below g.range.end) (not (g.range.start below end)) (not (g.range.end above limit setup)) (segments_ok setup g.range.end bss gs) (dead-ok (same_segment g (stack setup)) _ _ e q) in
      let l = not-below g.range.start end t.3 in (
        record { aligned = (eqb-true _ _ t.0, eqb-true _ _ t.1); some-page = ltb-true _ _ t.2; between = (omega arith, not-below (limit setup) g.range.end t.4) },
        l,
        t.5,
      )

  -- an image's segment is not the stack
  image-not-stack : (g : UserSegment) → ImageSegment setup g → same_segment g (stack setup) ≡ false
  image-not-stack g h =
      split (same_segment g (stack setup))
      (λ q. absurd (let e = ap (λ (x : UserSegment). x.range.end) (same-is g (stack setup) q) in omega (arith, h.between.1)))
      (λ q. q)

  -- the test passes exactly on an image's segments, the stack, and zeros
  pub record Layout (end : ℕ) (bss : VirtRange) (segs image : List UserSegment) : Type 0 where
    pub zeros : ℕ
    pub segments : segs ≡ image ++ stack setup ∷ replicate zeros zero_segment
    pub ascends : Image setup end image
    pub bss-ok : Bss setup (image_end end image) bss

  layout-means : (end : ℕ) (bss : VirtRange) (segs : List UserSegment) → setup.utzero ≤ end → segments_ok setup end bss segs ≡ true → (image : List UserSegment) × Layout end bss segs image
  layout-means end bss [] u e = clash false e refl
  layout-means end bss (g ∷ gs) u e =
      split (same_segment g (stack setup))
      (λ q.
      let p = both (all unused gs) (bss_ok setup end bss) (living-ok (same_segment g (stack setup)) _ _ e q) in
      ([], record { zeros = length gs; segments = ap₂ ◌∷◌ (same-is g (stack setup) q) (all_are unused zero_segment (λ h. same-is h zero_segment) gs p.0); ascends = tt; bss-ok = bss-means setup end bss p.1 }))
      (λ q.
      let t = image-first end bss g gs u q e in
      let r = layout-means g.range.end bss gs (omega (arith, t.0.some-page, t.1)) t.2 in
      (g ∷ r.0, record { zeros = r.1.zeros; segments = ap (λ (x : List UserSegment). g ∷ x) r.1.segments; ascends = (t.0, t.1, r.1.ascends); bss-ok = r.1.bss-ok }))

  layout-test : (end : ℕ) (bss : VirtRange) (image : List UserSegment) (zeros : ℕ) → Image setup end image → Bss setup (image_end end image) bss
      → segments_ok setup end bss (image ++ stack setup ∷ replicate zeros zero_segment) ≡ true
  layout-test end bss [] zeros i b = rw (is_same (stack setup), all_same unused zero_segment refl zeros) (bss-test setup end bss b)
  layout-test end bss (g ∷ image) zeros i b =
      rw (image-not-stack g i.0, eq-eqb (g.range.start % 4096) 0 i.0.aligned.0, eq-eqb (g.range.end % 4096) 0 i.0.aligned.1, lt-ltb g.range.start g.range.end i.0.some-page, le-ltb g.range.start end i.1, le-ltb (limit setup) g.range.end i.0.between.1)
      (layout-test g.range.end bss image zeros i.2 b)

  -- ---- the shape that soundness states, by places in the list

  pub each-image : (end : ℕ) (image : List UserSegment) → Image setup end image → Each (ImageSegment setup) image
  each-image end [] h = tt
  each-image end (g ∷ image) h = (h.0, each-image g.range.end image h.2)

  image-each : (end : ℕ) (image : List UserSegment) → Image setup end image → (i : ℕ) → i < length image → ImageSegment setup (get_or image i zero_segment)
  image-each end image h i l = each_at (ImageSegment setup) zero_segment image (each-image end image h) i l

  image-ascends : (end : ℕ) (image : List UserSegment) → Image setup end image → (i : ℕ) → i + 1 < length image → (get_or image i zero_segment).range.end ≤ (get_or image (i + 1) zero_segment).range.start
  image-ascends end [] h i l = absurd (not-suc-le-zero l)
  image-ascends end (g ∷ []) h i l = absurd (omega arith)
  image-ascends end (g ∷ k ∷ image) h zero l = h.2.1
  image-ascends end (g ∷ k ∷ image) h (suc i) l = let q : suc i + 1 ≡ suc (i + 1) = omega arith in rw q (image-ascends g.range.end (k ∷ image) h.2 i (omega arith))

  -- none ends above the last
  pub image-top : (end : ℕ) (image : List UserSegment) → Image setup end image → end ≤ image_end end image
  image-top end [] h = omega arith
  image-top end (g ∷ image) h = let t = image-top g.range.end image h.2 in omega (arith, h.0.some-page, h.1)

  image-below : (end : ℕ) (image : List UserSegment) → Image setup end image → (i : ℕ) → i < length image → (get_or image i zero_segment).range.end ≤ image_end end image
  image-below end [] h i l = absurd (not-suc-le-zero l)
  image-below end (g ∷ image) h zero l = image-top g.range.end image h.2
  image-below end (g ∷ image) h (suc i) l = image-below g.range.end image h.2 i (le_of_suc-le-suc l)

  by-places : (end : ℕ) (image : List UserSegment) → ((i : ℕ) → i < length image → ImageSegment setup (get_or image i zero_segment))
      → ((i : ℕ) → i + 1 < length image → (get_or image i zero_segment).range.end ≤ (get_or image (i + 1) zero_segment).range.start)
      → (0 < length image → end ≤ (get_or image 0 zero_segment).range.start) → Image setup end image
  by-places end [] each asc first = tt
  by-places end (g ∷ []) each asc first = (each 0 (omega arith), first (omega arith), tt)
  by-places end (g ∷ k ∷ image) each asc first = (
    each 0 (omega arith),
    first (omega arith),
    by-places g.range.end (k ∷ image) (λ i l. each (suc i) (omega arith))
        (λ i l. let q : suc i + 1 ≡ suc (i + 1) = omega arith in rw q at (asc (suc i) (omega arith))) (λ l. asc 0 (omega arith)),
  )

end_below : (end top : ℕ) (image : List UserSegment) → end ≤ top → ((i : ℕ) → i < length image → (get_or image i zero_segment).range.end ≤ top) → image_end end image ≤ top
end_below end top [] l h = l
end_below end top (g ∷ image) l h = end_below g.range.end top image (h 0 (omega arith)) (λ i k. h (suc i) (omega arith))

module _ (setup : Setup) where
  pub shape-made : (p : Proc) (image : List UserSegment) → p.segments ≡ image ++ stack setup ∷ replicate (15 - length image) zero_segment → length image ≤ 15
      → Image setup setup.utzero image → Bss setup (image_end setup.utzero image) p.bss → Shape setup p image
  shape-made p image e l i b = record {
    segments = e;
    at_most = l;
    each = image-each setup setup.utzero image i;
    ascending = image-ascends setup setup.utzero image i;
    bss-start = b.start;
    bss-order = b.order;
    bss-end = (b.aligned, b.low);
    bss-above = λ k h. let t = image-below setup setup.utzero image i k h in omega (arith, b.past);
  }

  shape_of : (p : Proc) (image : List UserSegment) → length p.segments ≡ 16 → Layout setup setup.utzero p.bss p.segments image → Shape setup p image
  shape_of p image w h =
      shape-made p image (h.segments ∙ ap (λ (k : ℕ). image ++ stack setup ∷ replicate k zero_segment) zeros) (omega (arith, count)) h.ascends h.bss-ok
    where
      count : length image + suc h.zeros ≡ 16
      count = omega (arith, ap length h.segments, length-append image (stack setup ∷ replicate h.zeros zero_segment), length-replicate h.zeros zero_segment)

      zeros : h.zeros ≡ 15 - length image
      zeros = omega (arith, count)

  pub shape-image : (p : Proc) (image : List UserSegment) → Shape setup p image → Image setup setup.utzero image
  shape-image p image h = by-places setup setup.utzero image h.each h.ascending (λ l. (h.each 0 l).between.0)

  pub shape-bss : (p : Proc) (image : List UserSegment) → Shape setup p image → Bss setup (image_end setup.utzero image) p.bss
  shape-bss p image h = record {
    start = h.bss-start;
    order = h.bss-order;
    aligned = h.bss-end.0;
    low = h.bss-end.1;
    past = end_below setup.utzero (page_up p.bss.start) image (omega (arith, h.bss-start)) h.bss-above;
  }

  -- the test of a whole record is its shape
  pub segments-shape : (p : Proc) → length p.segments ≡ 16 → segments_ok setup setup.utzero p.bss p.segments ≡ true → (image : List UserSegment) × Shape setup p image
  segments-shape p w e = let r = layout-means setup setup.utzero p.bss p.segments (omega arith) e in (r.0, shape_of p r.0 w r.1)

  pub shape-segments : (p : Proc) (image : List UserSegment) → Shape setup p image → segments_ok setup setup.utzero p.bss p.segments ≡ true
  shape-segments p image h = rw h.segments (layout-test setup setup.utzero p.bss image (15 - length image) (shape-image p image h) (shape-bss p image h))

  -- ---- recorded segments

  image-used : (g : UserSegment) → ImageSegment setup g → unused g ≡ false
  image-used g h = split (unused g) (λ q. absurd (let e = ap (λ (x : UserSegment). x.range.end) (same-is g zero_segment q) in omega (arith, h.some-page))) (λ q. q)

none-used : (gs : List UserSegment) → all unused gs ≡ true → used gs ≡ []
none-used [] e = refl
none-used (g ∷ gs) e = rw (both (unused g) (all unused gs) e).0

-- the stack is data, so that its place is used
stack-used : (setup : Setup) → unused (stack setup) ≡ false
stack-used setup = and-false ((stack setup).range.start is 0 && (stack setup).range.end is 0)

-- those before the unused places are the image's and the stack
used-image : (setup : Setup) (end : ℕ) (image : List UserSegment) (zeros : ℕ) → Image setup end image → used (image ++ stack setup ∷ replicate zeros zero_segment) ≡ image ++ stack setup ∷ []
used-image setup end [] zeros i = rw (stack-used setup) (ap (λ (x : List UserSegment). stack setup ∷ x) (none-used (replicate zeros zero_segment) (all_same unused zero_segment refl zeros)))
used-image setup end (g ∷ image) zeros i = rw (image-used setup g i.0) (ap (λ (x : List UserSegment). g ∷ x) (used-image setup g.range.end image zeros i.2))

pub shape-used : (setup : Setup) (p : Proc) (image : List UserSegment) → Shape setup p image → used p.segments ≡ image ++ stack setup ∷ []
shape-used setup p image h = ap used h.segments ∙ used-image setup setup.utzero image (15 - length image) (shape-image setup p image h)
