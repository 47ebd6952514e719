-- Checks in order, as a list of tests and numbers: the first test that holds gives its number, and if none holds, what follows.
use mathlib.Core.Path.{◌≡◌, refl, sym}
use mathlib.Core.Bool.{Bool, true, false, not}
use mathlib.Core.List.{List, [], ◌∷◌}
use Prim.Native.Nat.{ℕ, ◌<◌}
use lib.ListN.{length, get_or}
use borrow.Author.Tests.{eqb-true, eqb-false, not-true}
use Rattle.spec.specs.Tests.{◌is◌, ◌isnt◌, ◌⇒◌else◌, ◌or_else◌, all}
use Rattle.spec.proofs.Bools.{split, both, all-at}

abbrev pub checks : List (Bool × ℕ) → ℕ → ℕ
checks [] x = x
checks ((t, n) ∷ l) x = t ⇒ n else checks l x

-- no number is 0, and no test holds
abbrev pub numbered : List (Bool × ℕ) → Bool
numbered l = all (λ r. r.1 isnt 0) l

abbrev pub passed : List (Bool × ℕ) → Bool
passed l = all (λ r. not r.0) l

-- checks that give 0 were passed, and so was what follows
pub passes : (l : List (Bool × ℕ)) (x : ℕ) → numbered l ≡ true → checks l x ≡ 0 → (passed l ≡ true) × (x ≡ 0)
passes [] x h e = (refl, e)
passes ((true, n) ∷ l) x h e = absurd (eqb-false n 0 (not-true _ (both (n isnt 0) (numbered l) h).0) e)
passes ((false, n) ∷ l) x h e = passes l x (both (n isnt 0) (numbered l) h).1 e

-- checks that were passed come to what follows
pub through : (l : List (Bool × ℕ)) (x : ℕ) → passed l ≡ true → checks l x ≡ x
through [] x h = refl
through ((true, n) ∷ l) x h = let z : ◌≡◌ {A = Bool} true false = sym h in cc
through ((false, n) ∷ l) x h = through l x h

-- checks that were not passed give the same number, whatever follows
pub stops : (l : List (Bool × ℕ)) (x y : ℕ) → (checks l x ≡ x → ⊥) → checks l y ≡ checks l x
stops [] x y h = absurd (h refl)
stops ((true, n) ∷ l) x y h = refl
stops ((false, n) ∷ l) x y h = stops l x y h

-- of checks that were passed no test held
pub failed : (l : List (Bool × ℕ)) → passed l ≡ true → (k : ℕ) → k < length l → (get_or l k (true, 0)).0 ≡ false
failed l h k lt = not-true _ (all-at (λ r. not r.0) (true, 0) l h k lt)

-- where one number or else another comes to 0, both are 0
pub or-else : (a b : ℕ) → (a or_else b) ≡ 0 → (a ≡ 0) × (b ≡ 0)
or-else a b e = split (a is 0) (λ q. (eqb-true a 0 q, rw q at e)) (λ q. absurd (eqb-false a 0 q (rw q at e)))
