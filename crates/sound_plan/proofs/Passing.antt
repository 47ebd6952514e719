-- The check's test of a record and the specification's: they differ in the segments' permissions alone.
use Prim.Native.Nat.{ℕ, ◌%◌, ◌<◌, ◌≤◌}
use native.Mathlib.Omega.{arith}
use mathlib.Core.Path.{◌≡◌, refl}
use mathlib.Core.Bool.{true, false, not, ◌&&◌}
use mathlib.Core.List.{List, [], ◌∷◌}
use lib.ListN.{length}
use borrow.Author.Tests.{ltb-true, le-ltb}
use Rattle.spec.specs.Tests.{◌is◌, ◌below◌, ◌above◌, all}
use Rattle.spec.specs.Numbers.{limit, SetupOk}
use Rattle.spec.specs.Book.{same_segment, zero_segment, unused, lives, stack, bss_segment}
use Rattle.spec.specs.Sound.{bss_ok, segments_ok}
use Rattle.spec.specs.declared.VirtRange.{VirtRange}
use Rattle.spec.specs.declared.UserSegment.{UserSegment}
use Rattle.spec.specs.declared.Proc.{Proc}
use Rattle.spec.proofs.Bools.{split, clash, both, and-test, not-true, or-fact, or-test, not-false, not-below}
use Rattle.spec.specs.declared.Setup.{Setup}
use Rattle.spec_laws.proofs.Lists.{Each, each_append, each_same}
use Rattle.spec_laws.proofs.Record.{WholeProc, same-is, all_are, dead-zero}
use Rattle.spec_laws.proofs.Shape.{segments-shape, shape-segments}
use Rattle.spec_laws.proofs.Facts.{Shaped}
use Rattle.sound_records.specs.Records.{image_ok, image_test, shaped, passes}
use Rattle.sound_plan.specs.Plan.{part, Small, SmallParts}
use Rattle.sound_plan.proofs.Parts.{each_part, top, Part, Perm, parts, Parts, parts-of}
use Rattle.sound_plan.proofs.Laying.{part-segment, part-bss}

-- what soundness says of it
abbrev pub Mapped : UserSegment → Type 0
Mapped g = g.range.start < g.range.end → (1 ≤ g.perm) × (g.perm ≤ 3)

pub top_part : (setup : Setup) → Part setup top
top_part setup = record { ordered = omega arith; high = omega arith; start-page = refl; end-page = refl; low = λ h. absurd (omega arith); inside = λ h. absurd (omega arith) }

pub top-perm : Perm top
top-perm = record { high = omega arith; low = λ h. absurd (omega arith) }

zero-perm : Perm zero_segment
zero-perm = record { high = omega arith; low = λ h. absurd (omega arith) }

unused-perms : (gs : List UserSegment) → all unused gs ≡ true → Each Perm gs
unused-perms gs e = rw (all_are unused zero_segment (λ g. same-is g zero_segment) gs e) (each_same Perm zero_segment zero-perm (length gs))

module _ (setup : Setup) where
  pub perm-means : (low : ℕ) (g : UserSegment) → image_test setup low g ≡ true → (image_ok setup low g ≡ true) × Perm g
  perm-means low g e =
      let p = both (image_ok setup low g && not (g.perm below 1)) (not (g.perm above 3)) e in
      let q = both (image_ok setup low g) (not (g.perm below 1)) p.0 in
      (q.0, record { high = not-below 3 g.perm p.1; low = λ h. not-below g.perm 1 q.1 })

  some-page : (low : ℕ) (g : UserSegment) → image_ok setup low g ≡ true → g.range.start < g.range.end
  some-page low g e =
      let p = both (g.range.start % 4096 is 0 && g.range.end % 4096 is 0 && g.range.start below g.range.end && not (g.range.start below low)) (not (g.range.end above limit setup)) e in
      let q = both (g.range.start % 4096 is 0 && g.range.end % 4096 is 0 && g.range.start below g.range.end) (not (g.range.start below low)) p.0 in
      ltb-true _ _ (both (g.range.start % 4096 is 0 && g.range.end % 4096 is 0) (g.range.start below g.range.end) q.0).1

  -- a list of segments that passes the check passes the specification's test, and has permissions
  pub shaped-means : (low : ℕ) (bss : VirtRange) (gs : List UserSegment) → shaped setup low bss gs ≡ true → (segments_ok setup low bss gs ≡ true) × Each Perm gs
  shaped-means low bss [] e = clash false e refl
  shaped-means low bss (g ∷ gs) e =
      split (same_segment g (stack setup))
      (λ q.
      let t : (all unused gs && bss_ok setup low bss) ≡ true = rw q at e in
      let s = same-is g (stack setup) q in
      (rw q t, (record { high = rw s (omega arith); low = λ h. rw s (omega arith) }, unused-perms gs (both (all unused gs) (bss_ok setup low bss) t).0)))
      (λ q.
      let t = both (image_test setup low g) (shaped setup g.range.end bss gs) (rw q at e) in
      let i = perm-means low g t.0 in
      let r = shaped-means g.range.end bss gs t.1 in
      (rw q (and-test (image_ok setup low g) (segments_ok setup g.range.end bss gs) i.0 r.0), (i.1, r.1)))

  -- and one that passes the specification's and has permissions passes the check
  pub shaped-test : (low : ℕ) (bss : VirtRange) (gs : List UserSegment) → Each Mapped gs → segments_ok setup low bss gs ≡ true → shaped setup low bss gs ≡ true
  shaped-test low bss [] m e = e
  shaped-test low bss (g ∷ gs) m e =
      split (same_segment g (stack setup))
      (λ q. let t : (all unused gs && bss_ok setup low bss) ≡ true = rw q at e in rw q t)
      (λ q.
      let t = both (image_ok setup low g) (segments_ok setup g.range.end bss gs) (rw q at e) in
      let x = m.0 (some-page low g t.0) in
      rw q (and-test (image_test setup low g) (shaped setup g.range.end bss gs)
      (rw (t.0, le-ltb g.perm 1 x.0, le-ltb 3 g.perm x.1))
      (shaped-test g.range.end bss gs m.1 t.1)))

  -- ---- a record

  pub pass_shape : (p : Proc) → WholeProc p → passes setup p ≡ true → lives p ≡ true → Shaped setup p
  pass_shape p w e l =
      split (shaped setup setup.utzero p.bss p.segments)
      (λ q. segments-shape setup p w.segments (shaped-means setup.utzero p.bss p.segments q).0)
      (λ q. clash (lives p) l (not-true (lives p) (or-fact (shaped setup setup.utzero p.bss p.segments) (not (lives p)) e q)))

  pub shape-pass : (p : Proc) → (lives p ≡ true → Shaped setup p) → (lives p ≡ true → Each Mapped p.segments) → passes setup p ≡ true
  shape-pass p shape mapped =
      split (lives p)
      (λ l. let s = shape l in rw (shaped-test setup.utzero p.bss p.segments (mapped l) (shape-segments setup p s.0 s.1)))
      (λ l. or-test (shaped setup setup.utzero p.bss p.segments) (not (lives p)) (λ q. not-false (lives p) l))

  pub pass-perms : (p : Proc) → WholeProc p → passes setup p ≡ true → Each Perm (parts p)
  pass-perms p w e =
      each_append Perm p.segments (bss_segment p.bss ∷ [])
      (split (shaped setup setup.utzero p.bss p.segments)
      (λ q. (shaped-means setup.utzero p.bss p.segments q).1)
      (λ q. rw (dead-zero p w (not-true (lives p) (or-fact (shaped setup setup.utzero p.bss p.segments) (not (lives p)) e q))) (each_same Perm zero_segment zero-perm 16)))
      (record { high = omega arith; low = λ h. omega arith }, tt)

-- its parts, and that their tags and bases don't wrap
pub pass-parts : (setup : Setup) (ok : SetupOk setup) (p : Proc) → WholeProc p → passes setup p ≡ true → Parts setup p
pass-parts setup ok p w e = parts-of setup ok p w (pass_shape setup p w e)

pub small-parts : (setup : Setup) (ok : SetupOk setup) (p : Proc) → WholeProc p → passes setup p ≡ true → SmallParts p
small-parts setup ok p w e = record { segments = λ j h. rw (part-segment p j h) (small j (omega arith)); bss = rw (part-bss p) (small 16 (omega arith)) }
  where
    small : (j : ℕ) → j < 17 → Small (part p j)
    small j h =
        let x = each_part (Part setup) (top_part setup) p w.segments (pass-parts setup ok p w e).each j h in
        let y = each_part Perm top-perm p w.segments (pass-perms setup p w e) j h in
        record { ordered = x.ordered; high = x.high; perm-high = y.high }
