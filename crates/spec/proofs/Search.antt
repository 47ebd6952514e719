-- Laws of a search for the highest number that passes a test, which finds free frames and the frames of pages.
use Prim.Native.Nat.{ℕ, zero, suc, ◌<◌}
use native.Mathlib.Omega.{arith}
use native.Mathlib.Nat.{not-suc-le-zero}
use mathlib.Core.Path.{◌≡◌, refl, ap₂}
use mathlib.Core.Bool.{Bool, true, false}
use Rattle.std.specs.Prelude.{Option, None, Some}
use lib.Dec.{eqb}
use borrow.Author.Tests.{eqb-true}
use Rattle.spec.specs.Tests.{◌⇒◌else◌}
use Rattle.spec.specs.Book.{highest}
use Rattle.spec.proofs.Bools.{split, before_last}

-- what is found is below the bound and passes
pub hit : (t : ℕ → Bool) (c k : ℕ) → highest t c ≡ Some k → (k < c) × (t k ≡ true)
hit t zero k e = absurd (let w : ◌≡◌ {A = ℕ} 0 1 = cc in omega arith)
hit t (suc c) k e =
    split (t c)
    (λ q. let s : Some c ≡ Some k = rw q at e in let w : c ≡ k = cc in (omega arith, rw w at q))
    (λ q. let r = hit t c k (rw q at e) in (omega (arith, r.0), r.1))

-- where nothing is found, nothing passes
pub miss : (t : ℕ → Bool) (c : ℕ) → highest t c ≡ None → (k : ℕ) → k < c → t k ≡ false
miss t zero e k h = absurd (not-suc-le-zero h)
miss t (suc c) e k h =
    split (t c)
    (λ q. let s : Some c ≡ None = rw q at e in absurd (let w : ◌≡◌ {A = ℕ} 0 1 = cc in omega arith))
    (λ q. split (eqb k c)
    (λ same. rw (eqb-true k c same) q)
    (λ other. miss t c (rw q at e) k (before_last k c h other)))

pub highest-none : (t : ℕ → Bool) (c : ℕ) → ((k : ℕ) → k < c → t k ≡ false) → highest t c ≡ None
highest-none t zero h = refl
highest-none t (suc c) h = rw (h c (omega arith)) (highest-none t c (λ k l. h k (omega arith)))

pub highest-ext : (t u : ℕ → Bool) (c : ℕ) → ((k : ℕ) → k < c → t k ≡ u k) → highest t c ≡ highest u c
highest-ext t u zero h = refl
highest-ext t u (suc c) h = ap₂ (λ (b : Bool) (r : Option ℕ). b ⇒ Some c else r) (h c (omega arith)) (highest-ext t u c (λ k l. h k (omega arith)))
