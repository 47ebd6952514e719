-- Steps through a chain of tests, `test ⇒ answer else rest`: the answer of a test that holds, and the rest after one that does not.
use mathlib.Core.Path.{◌≡◌, ◌∙◌, sym, ap}
use mathlib.Core.Bool.{Bool, true, false, not}
use Prim.Native.Nat.{ℕ, ◌+◌, ◌-◌, ◌<◌, ◌≤◌}
use native.Mathlib.Omega.{arith}
use lib.Dec.{eqb, ltb}
use borrow.Author.Tests.{lt-ltb, le-ltb, eq-eqb, ne_eqb}
use Rattle.spec.specs.Tests.{◌⇒◌else◌, ◌or_else◌}

pub here : {A : Type 0} (t : Bool) (a b r : A) → t ≡ true → r ≡ a → r ≡ (t ⇒ a else b)
here true a b r e h = h
here false a b r e h = let z : ◌≡◌ {A = Bool} true false = sym e in cc

pub past : {A : Type 0} (t : Bool) (a b r : A) → t ≡ false → r ≡ b → r ≡ (t ⇒ a else b)
past true a b r e h = let z : ◌≡◌ {A = Bool} true false = e in cc
past false a b r e h = h

pub isnt-holds : (a b : ℕ) → (a ≡ b → ⊥) → not (eqb a b) ≡ true
isnt-holds a b h = ap not (ne_eqb a b h)

pub isnt-fails : (a b : ℕ) → a ≡ b → not (eqb a b) ≡ false
isnt-fails a b h = ap not (eq-eqb a b h)

-- a test of a callee's result a, of which its contract says that it is a'
pub is-through : (a a' b : ℕ) → a ≡ a' → a ≡ b → eqb a' b ≡ true
is-through a a' b e h = eq-eqb a' b (sym e ∙ h)

pub isnt-through : (a a' b : ℕ) → a ≡ a' → (a ≡ b → ⊥) → eqb a' b ≡ false
isnt-through a a' b e h = ne_eqb a' b (λ g. h (e ∙ g))

pub isnt-holds-through : (a a' b : ℕ) → a ≡ a' → (a ≡ b → ⊥) → not (eqb a' b) ≡ true
isnt-holds-through a a' b e h = ap not (isnt-through a a' b e h)

pub isnt-fails-through : (a a' b : ℕ) → a ≡ a' → a ≡ b → not (eqb a' b) ≡ false
isnt-fails-through a a' b e h = ap not (is-through a a' b e h)

pub not-holds : (a a' : Bool) → a ≡ a' → not a ≡ true → not a' ≡ true
not-holds a a' e h = ap not (sym e) ∙ h

pub not-fails : (a a' : Bool) → a ≡ a' → not a ≡ false → not a' ≡ false
not-fails a a' e h = ap not (sym e) ∙ h

pub true-through : (a a' : Bool) → a ≡ a' → a ≡ true → a' ≡ true
true-through a a' e h = sym e ∙ h

pub false-through : (a a' : Bool) → a ≡ a' → a ≡ false → a' ≡ false
false-through a a' e h = sym e ∙ h

-- a sum weighed against a bound by two tests that cannot wrap: `a > n`, then `b > n - a`
pub sum-above-1 : (a b n : ℕ) → n < a → ltb n (a + b) ≡ true
sum-above-1 a b n h = lt-ltb n (a + b) (omega arith)

pub sum-above-2 : (a b n : ℕ) → a ≤ n → n - a < b → ltb n (a + b) ≡ true
sum-above-2 a b n g h = lt-ltb n (a + b) (omega arith)

pub sum-within : (a b n : ℕ) → a ≤ n → b ≤ n - a → ltb n (a + b) ≡ false
sum-within a b n g h = le-ltb n (a + b) (omega arith)

-- of two numbers the first that isn't 0; e is what was found for the first
pub number-first : (e a b : ℕ) → e ≡ a → (e ≡ 0 → ⊥) → e ≡ (a or_else b)
number-first e a b h ne = past (eqb a 0) b a e (isnt-through e a 0 h ne) h

pub number-next : (e a b r : ℕ) → e ≡ a → e ≡ 0 → r ≡ b → r ≡ (a or_else b)
number-next e a b r h z g = here (eqb a 0) b a r (is-through e a 0 h z) g

-- for tests of the function's own numbers
pub ruleset chain = (here, past, isnt-holds, isnt-fails, eq-eqb, ne_eqb, lt-ltb, le-ltb, sum-above-1, sum-above-2, sum-within)

-- for tests of what callees answer too: dearer, since the callee's answer stands in no goal
pub ruleset calls = (chain, is-through, isnt-through, isnt-holds-through, isnt-fails-through, not-holds, not-fails, true-through, false-through)
