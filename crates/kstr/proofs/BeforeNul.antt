-- The count of the bytes before a NUL: at a NUL, past a byte that is none, and what it says of each byte.
use Prim.Native.Nat.{ℕ, zero, suc, ◌+◌, ◌≤◌, ◌<◌}
use native.Mathlib.Omega.{arith}
use native.Mathlib.Numerals.{add-one}
use mathlib.Core.Path.{◌≡◌, refl, ap, ◌∙◌}
use mathlib.Core.List.{List, [], ◌∷◌}
use lib.ListN.{length, get_or, drop, drop_of_length-le}
use lib.Seq.{drop-cons}
use borrow.Author.Tests.{eqb-true, eq-eqb, ne_eqb}
use Rattle.spec.specs.Tests.{◌is◌}
use Rattle.spec.proofs.Bools.{split}
use Rattle.kstr.specs.Nul.{to_nul}

pub nul-here : (s : List ℕ) (i : ℕ) → i < length s → get_or s i 0 ≡ 0 → to_nul (drop i s) ≡ 0
nul-here s i h e = ap to_nul (drop-cons s i 0 h) ∙ rw (eq-eqb (get_or s i 0) 0 e)

pub nul-next : (s : List ℕ) (i : ℕ) → i < length s → (get_or s i 0 ≡ 0 → ⊥) → to_nul (drop i s) ≡ suc (to_nul (drop (i + 1) s))
nul-next s i h e = rw (add-one i) (ap to_nul (drop-cons s i 0 h) ∙ rw (ne_eqb (get_or s i 0) 0 e))

pub nul-end : (s : List ℕ) (i : ℕ) → length s ≤ i → to_nul (drop i s) ≡ 0
nul-end s i h = ap to_nul (drop_of_length-le s h)

-- what the count says
pub nul-most : (s : List ℕ) → to_nul s ≤ length s
nul-most [] = omega arith
nul-most (x ∷ s) = split (x is 0) (λ q. rw q (omega arith)) (λ q. rw q (omega (arith, nul-most s)))

pub nul-before : (s : List ℕ) (i : ℕ) → i < to_nul s → get_or s i 0 ≡ 0 → ⊥
nul-before [] i h e = omega arith
nul-before (x ∷ s) zero h e = omega (arith, rw (eq-eqb x 0 e) at h)
nul-before (x ∷ s) (suc i) h e = split (x is 0) (λ q. omega (arith, rw q at h)) (λ q. nul-before s i (omega (arith, rw q at h)) e)

pub nul-at : (s : List ℕ) → to_nul s < length s → get_or s (to_nul s) 0 ≡ 0
nul-at [] h = refl
nul-at (x ∷ s) h = split (x is 0) (λ q. rw q (eqb-true x 0 q)) (λ q. rw q (nul-at s (omega (arith, rw q at h))))
