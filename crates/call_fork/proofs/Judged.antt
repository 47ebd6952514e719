-- The number that a fork with a lent list is refused with, as it is found.
use Prim.Native.Nat.{ℕ, ◌≤◌, ◌<◌}
use native.Mathlib.Omega.{arith}
use mathlib.Core.Path.{◌≡◌, refl, sym, ap, ap₂, ◌∙◌}
use mathlib.Core.Bool.{Bool, true, false, not, ◌&&◌, ◌||◌}
use borrow.Author.Tests.{eqb-true, eqb-false, lt-ltb, le-ltb}
use Rattle.spec.specs.Tests.{◌is◌, ◌isnt◌, ◌below◌, ◌⇒◌else◌, ◌or_else◌}
use Rattle.spec.specs.Flags.{flags_ok}
use Rattle.spec.specs.Numbers.{setup_ok, setup_error}
use Rattle.spec.specs.Book.{valid, free}
use Rattle.spec.specs.Frames.{sized}
use Rattle.spec.specs.Machine.{copied}
use Rattle.spec.specs.World.{State, sound, taken, view}
use Rattle.spec.proofs.Bools.{split}
use Rattle.spec.proofs.Chain.{number-first, number-next}
use Rattle.call_front.specs.Numbers.{number_error, fork_error}
use Rattle.call_fork.specs.ByList.{list_error, fork_number}

-- ---- the numbers that come first are at most 39

-- over the tests' outcomes
abbrev pub first_of : (z u g d v w t f : Bool) → ℕ
first_of z u g d v w t f = (not (z && true) ⇒ 1 else (not u ⇒ 38 else not g ⇒ 39 else 0) or_else not d ⇒ 2 else not v ⇒ 3 else 0) or_else (not w ⇒ 3 else not t ⇒ 4 else not (not f) ⇒ 5 else 0)

first-most : (z u g d v w t f : Bool) → first_of z u g d v w t f ≤ 39
first-most false u g d v w t f = omega arith
first-most true false g d v w t f = omega arith
first-most true true false d v w t f = omega arith
first-most true true true false v w t f = omega arith
first-most true true true true false w t f = omega arith
first-most true true true true true false t f = omega arith
first-most true true true true true true false f = omega arith
first-most true true true true true true true true = omega arith
first-most true true true true true true true false = omega arith

fork-most : (s : State) (n child : ℕ) → fork_error s n child ≤ 39
unfolding setup_error number_error fork_error
fork-most s n child = first-most (sized s.store) (setup_ok s.setup) (flags_ok s.setup.flags) (sound s) (valid n) (valid child) (taken s n) (taken s child)

-- ---- the list's 2, behind 1, 38 and 39

below-38 : (k : ℕ) → k ≤ 39 → (k below 38) ≡ not (k is 38 || k is 39)
below-38 k h =
    split (k is 38)
    (λ p. rw (p, le-ltb k 38 (omega (arith, eqb-true k 38 p))))
    (λ p. split (k is 39)
    (λ q. rw (p, q, le-ltb k 38 (omega (arith, eqb-true k 39 q))))
    (λ q. rw (p, q, lt-ltb k 38 (let a : k ≡ 38 → ⊥ = eqb-false k 38 p in let b : k ≡ 39 → ⊥ = eqb-false k 39 q in omega arith))))

in-turn : (a v x y : Bool) → ((v && not a) && not (x || y)) ≡ (((not a && not x) && not y) && v)
in-turn true true x y = refl
in-turn true false x y = refl
in-turn false true true y = refl
in-turn false true false true = refl
in-turn false true false false = refl
in-turn false false true y = refl
in-turn false false false true = refl
in-turn false false false false = refl

module _ (s : State) (n child : ℕ) (alike : Bool) where
  pub list-checked : (l e : ℕ) (torn : Bool) → e ≡ fork_error s n child → torn ≡ (valid n && not alike)
      → l ≡ (torn && not (e is 1 || (e is 38 || e is 39)) ⇒ 2 else e) → l ≡ list_error s n child alike
  unfolding list_error
  list-checked l e torn first t h =
      h ∙ ap₂ (λ (b : Bool) (k : ℕ). b && not (k is 1 || (k is 38 || k is 39)) ⇒ 2 else k) t first
      ∙ ap (λ (b : Bool). b ⇒ 2 else fork_error s n child) (in-turn alike (valid n) (fork_error s n child is 1) (fork_error s n child is 38 || fork_error s n child is 39)
      ∙ ap (λ (b : Bool). ((not alike && fork_error s n child isnt 1) && b) && valid n) (sym (below-38 (fork_error s n child) (fork-most s n child))))

  -- where there is none, none came first
  pub list-none : list_error s n child alike ≡ 0 → fork_error s n child ≡ 0
  unfolding list_error
  list-none h = split (((not alike && fork_error s n child isnt 1) && fork_error s n child below 38) && valid n) (λ q. absurd (let z : ◌≡◌ {A = ℕ} 2 0 = rw q at h in omega arith)) (λ q. rw q at h)

  -- then 33
  module _ (e : ℕ) (listed : e ≡ list_error s n child alike) where
    pub list-given : (e ≡ 0 → ⊥) → e ≡ fork_number s n child alike
    unfolding fork_number
    list-given ne = number-first e (list_error s n child alike) _ listed ne

    pub too_few : e ≡ 0 → free s.store.book < copied (view s n) → 33 ≡ fork_number s n child alike
    unfolding fork_number
    too_few z h = number-next e (list_error s n child alike) _ 33 listed z (rw (lt-ltb (free s.store.book) (copied (view s n)) h))

    pub enough : e ≡ 0 → copied (view s n) ≤ free s.store.book → 0 ≡ fork_number s n child alike
    unfolding fork_number
    enough z h = number-next e (list_error s n child alike) _ 0 listed z (rw (le-ltb (free s.store.book) (copied (view s n)) h))
