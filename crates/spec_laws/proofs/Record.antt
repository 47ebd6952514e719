-- Process records: what their types say, and what a dead one is.
use Prim.Native.Nat.{ℕ, zero, suc, ◌-◌}
use mathlib.Core.Path.{◌≡◌, refl, ap, ap₂, ◌∙◌}
use mathlib.Core.Bool.{Bool, true, false, ◌&&◌}
use mathlib.Core.List.{List, [], ◌∷◌}
use lib.Dec.{eqb, ltb}
use lib.ListN.{length, get_or, set, replicate, length-set, get_or-eq_default}
use lib.Seq.{get_or-set_same, get_or-set_other}
use borrow.Author.Tests.{eqb-true, eqb-false, ltb-true, ltb-false, eq-eqb}
use Rattle.spec.proofs.Bools.{split, both, and-test, un_not, all-at, all-test}
use Rattle.spec.specs.Tests.{◌is◌, all}
use Rattle.spec.specs.Book.{range, segment, same_segment, zero_segment, zero_proc, unused, lives}
use Rattle.spec.specs.World.{State, set_proc}
use Rattle.spec.specs.History.{typed}
use Rattle.spec.specs.declared.UserSegment.{UserSegment}
use Rattle.spec.specs.declared.Proc.{Proc}
use Rattle.spec.specs.declared.Procs.{Procs}

-- ---- array lengths

-- what a record's type says
pub record WholeProc (p : Proc) : Type 0 where
  pub segments : length p.segments ≡ 16
  pub text : length p.text ≡ 28

-- what the records' type says
pub record Whole (ps : Procs) : Type 0 where
  pub records : length ps.all ≡ 16
  pub each : (i : ℕ) → WholeProc (get_or ps.all i zero_proc)

pub zero-whole : WholeProc zero_proc
zero-whole = record { segments = refl; text = refl }

abbrev whole_test : Proc → Bool
whole_test p = length p.segments is 16 && length p.text is 28

-- the premise of demand 3 says it
pub typed-whole : (s : State) → typed s ≡ true → Whole s.procs
typed-whole s e = record { records = eqb-true _ _ t.0; each = each }
  where
    t : ((length s.procs.all is 16) ≡ true) × (all whole_test s.procs.all ≡ true)
    t = both (length s.procs.all is 16) (all whole_test s.procs.all) e

    each : (i : ℕ) → WholeProc (get_or s.procs.all i zero_proc)
    each i =
        split (ltb i (length s.procs.all))
        (λ q.
        let w = both (length (get_or s.procs.all i zero_proc).segments is 16) (length (get_or s.procs.all i zero_proc).text is 28) (all-at whole_test zero_proc s.procs.all t.1 i (ltb-true _ _ q)) in
        record { segments = eqb-true _ _ w.0; text = eqb-true _ _ w.1 })
        (λ q. rw (get_or-eq_default s.procs.all zero_proc (ltb-false _ _ q)) zero-whole)

pub whole_typed : (s : State) → Whole s.procs → typed s ≡ true
whole_typed s w =
    and-test (length s.procs.all is 16) (all whole_test s.procs.all) (eq-eqb _ _ w.records)
    (all-test whole_test zero_proc s.procs.all (λ k h. and-test (length (get_or s.procs.all k zero_proc).segments is 16) (length (get_or s.procs.all k zero_proc).text is 28) (eq-eqb _ _ (w.each k).segments) (eq-eqb _ _ (w.each k).text)))

-- and a whole record set keeps it
pub whole_set : (ps : Procs) (n : ℕ) (p : Proc) → Whole ps → WholeProc p → Whole (set_proc ps n p)
whole_set ps n p w v = record { records = length-set ps.all (n - 1) p ∙ w.records; each = each }
  where
    each : (i : ℕ) → WholeProc (get_or (set ps.all (n - 1) p) i zero_proc)
    each i =
        split (eqb i (n - 1))
        (λ q. rw (eqb-true i (n - 1) q) (split (ltb (n - 1) (length ps.all))
        (λ l. rw (get_or-set_same ps.all (n - 1) p zero_proc (ltb-true _ _ l)) v)
        (λ l. rw (get_or-eq_default (set ps.all (n - 1) p) zero_proc {n = n - 1} (rw (length-set ps.all (n - 1) p) (ltb-false _ _ l))) zero-whole)))
        (λ q. rw (get_or-set_other ps.all (n - 1) i p zero_proc (eqb-false _ _ q)) (w.each i))

-- ---- unused places and dead records

-- the test of two segments tells
pub same-is : (g h : UserSegment) → same_segment g h ≡ true → g ≡ h
same-is g h e =
    let p = both (g.range.start is h.range.start && g.range.end is h.range.end) (g.perm is h.perm) e in
    let q = both (g.range.start is h.range.start) (g.range.end is h.range.end) p.0 in
    let x = eqb-true _ _ q.0 in
    let y = eqb-true _ _ q.1 in
    let z = eqb-true _ _ p.1 in
    λ i. segment (x i) (y i) (z i)

pub is_same : (g : UserSegment) → same_segment g g ≡ true
is_same g = rw (eq-eqb g.range.start _ refl, eq-eqb g.range.end _ refl, eq-eqb g.perm _ refl)

-- a list whose elements all equal one is so many of it
pub all_are : {A : Type 0} (t : A → Bool) (d : A) → ((x : A) → t x ≡ true → x ≡ d) → (l : List A) → all t l ≡ true → l ≡ replicate (length l) d
all_are t d f [] e = refl
all_are t d f (x ∷ l) e = let p = both (t x) (all t l) e in ap₂ ◌∷◌ (f x p.0) (all_are t d f l p.1)

pub all_same : {A : Type 0} (t : A → Bool) (d : A) → t d ≡ true → (k : ℕ) → all t (replicate k d) ≡ true
all_same t d e zero = refl
all_same t d e (suc k) = and-test (t d) (all t (replicate k d)) e (all_same t d e k)

-- a dead record is the zero record
pub dead-zero : (p : Proc) → WholeProc p → lives p ≡ false → p ≡ zero_proc
dead-zero p w e =
    let a₃ = both (all unused p.segments && all (λ b. b is 0) p.text && p.bss.start is 0) (p.bss.end is 0) (un_not _ e) in
    let a₂ = both (all unused p.segments && all (λ b. b is 0) p.text) (p.bss.start is 0) a₃.0 in
    let a₁ = both (all unused p.segments) (all (λ b. b is 0) p.text) a₂.0 in
    let s : p.segments ≡ replicate 16 zero_segment = all_are unused zero_segment (λ g. same-is g zero_segment) p.segments a₁.0 ∙ ap (λ (k : ℕ). replicate k zero_segment) w.segments in
    let t : p.text ≡ replicate 28 0 = all_are (λ b. b is 0) 0 (λ b. eqb-true b 0) p.text a₁.1 ∙ ap (λ (k : ℕ). replicate k 0) w.text in
    let x = eqb-true p.bss.start 0 a₂.1 in
    let y = eqb-true p.bss.end 0 a₃.1 in
    λ i. record { segments = s i; text = t i; bss = range (x i) (y i) }

pub zero-dead : lives zero_proc ≡ false
zero-dead = refl
