-- Ranks and their words, over any tags and bases; sums; and a count by a list of all that passes.
use Prim.Native.Nat.{ℕ, zero, suc, ◌+◌, ◌-◌, ◌*◌, ◌<◌, ◌≤◌}
use native.Mathlib.Omega.{arith}
use native.Mathlib.Numerals.{add-one}
use mathlib.Core.Path.{◌≡◌, refl}
use lib.Dec.{leb, eqb}
use borrow.Author.Tests.{leb-true, leb-false, eqb-true, eqb-false, le-leb, lt-leb}
use Rattle.spec.proofs.Bools.{split}
use Rattle.sound_plan.specs.Plan.{sum_to, nth_of}

-- ---- sums

pub sum-none : (f : ℕ → ℕ) → sum_to f 0 ≡ 0
unfolding sum_to
sum-none f = refl

pub sum_more : (f : ℕ → ℕ) (k : ℕ) → sum_to f (k + 1) ≡ sum_to f k + f k
unfolding sum_to
sum_more f k = rw (add-one k) refl

-- ---- ranks

module _ (base : ℕ → ℕ) where
  -- bases that don't fall from one to the next don't fall at all
  pub base-up : (s : ℕ) → ((k : ℕ) → k < s → base k ≤ base (k + 1)) → (k : ℕ) → k ≤ s → base k ≤ base s
  base-up zero up k h = let e : k ≡ 0 = omega arith in rw e (omega arith)
  base-up (suc s) up k h =
      split (eqb k (suc s))
      (λ q. let e = eqb-true k (suc s) q in rw e (omega arith))
      (λ q. let ne = eqb-false k (suc s) q in
      let a = base-up s (λ i l. up i (omega arith)) k (omega arith) in
      let b : base s ≤ base (suc s) = rw (add-one s) at (up s (omega arith)) in
      omega arith)

  -- each rank is of a part
  pub nth-find : (s t : ℕ) → base 0 ≡ 0 → t < base s → (k : ℕ) × (r : ℕ) × (k < s) × (base k + r ≡ t) × (t < base (k + 1))
  nth-find zero t z h = absurd (omega arith)
  nth-find (suc s) t z h =
      split (leb (base s) t)
      (λ q. let l = leb-true (base s) t q in (s, t - base s, omega arith, omega arith, rw (add-one s) h))
      (λ q. let l = leb-false (base s) t q in
      let f = nth-find s t z (omega arith) in
      (f.0, f.1, omega (arith, f.2), f.3, f.4))

  -- the word of rank r in part k
  pub nth-at : (tag : ℕ → ℕ) (s : ℕ) → ((k : ℕ) → k < s → base k ≤ base (k + 1)) → (k r : ℕ) → k < s → base k + r < base (k + 1)
      → nth_of tag base s (base k + r) ≡ tag k + 4096 * r
  unfolding nth_of
  nth-at tag zero up k r h l = absurd (omega arith)
  nth-at tag (suc s) up k r h l =
      split (eqb k s)
      (λ q. let e = eqb-true k s q in
      let d : base s + r - base s ≡ r = omega arith in
      rw e (rw (le-leb (base s) (base s + r) (omega arith), d) refl))
      (λ q. let ne = eqb-false k s q in
      let up' : (k : ℕ) → k < s → base k ≤ base (k + 1) = λ i l. up i (omega arith) in
      let a = base-up s up' (k + 1) (omega arith) in
      rw (lt-leb (base s) (base k + r) (omega arith)) (nth-at tag s up' k r (omega arith) l))
