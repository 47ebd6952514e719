-- Laws of tests: how a test that passed, or did not, is taken apart.
use Prim.Native.Nat.{ℕ, zero, suc, ◌≤◌, ◌<◌}
use native.Mathlib.Omega.{arith}
use native.Mathlib.Nat.{not-suc-le-zero}
use mathlib.Core.Path.{◌≡◌, refl, sym, ◌∙◌}
use mathlib.Core.Bool.{Bool, true, false, not, ◌&&◌, ◌||◌}
use mathlib.Core.List.{List, [], ◌∷◌}
use lib.Dec.{eqb, leb, ltb}
use lib.ListN.{length, get_or}
pub use borrow.Author.Tests.{not-true, not-false as un_not}
use borrow.Author.Tests.{eqb-true, eqb-false, leb-true, leb-false, ltb-true, ltb-false, lt-ltb, le-ltb}
use Rattle.spec.specs.Tests.{◌above◌, ◌below◌, within, ◌⇒◌else◌, all, all_below, any_below}

-- either way
pub split : {P : Type 0} (b : Bool) → (b ≡ true → P) → (b ≡ false → P) → P
split true f g = f refl
split false f g = g refl

pub clash : {P : Type 0} (b : Bool) → b ≡ true → b ≡ false → P
clash b p q = absurd (let z : true ≡ false = sym p ∙ q in let w : ◌≡◌ {A = ℕ} 0 1 = cc in omega arith)

-- and
pub both : (a b : Bool) → (a && b) ≡ true → (a ≡ true) × (b ≡ true)
both true b e = (refl, e)
both false b e = clash false e refl

pub and-test : (a b : Bool) → a ≡ true → b ≡ true → (a && b) ≡ true
and-test a b x y = rw (x, y)

-- or
pub neither : (a b : Bool) → (a || b) ≡ false → (a ≡ false) × (b ≡ false)
neither true b e = clash true refl e
neither false b e = (refl, e)

pub or-fact : (a b : Bool) → (a || b) ≡ true → a ≡ false → b ≡ true
or-fact true b e h = clash true refl h
or-fact false b e h = e

pub or-first : (a b : Bool) → (a || b) ≡ true → b ≡ false → a ≡ true
or-first true b e h = refl
or-first false b e h = clash b e h

pub or-test : (a b : Bool) → (a ≡ false → b ≡ true) → (a || b) ≡ true
or-test true b f = refl
or-test false b f = f refl

-- not
pub not-false : (b : Bool) → b ≡ false → not b ≡ true
not-false b e = rw e

-- a choice
pub living-ok : (b : Bool) (x y : Bool) → (b ⇒ x else y) ≡ true → b ≡ true → x ≡ true
living-ok true x y e h = e
living-ok false x y e h = clash true refl (sym h)

pub dead-ok : (b : Bool) (x y : Bool) → (b ⇒ x else y) ≡ true → b ≡ false → y ≡ true
dead-ok true x y e h = clash true refl h
dead-ok false x y e h = e

-- orders
pub not-above : (a b : ℕ) → a ≤ b → (a above b) ≡ false
not-above a b h = le-ltb b a h

pub not-below : (a b : ℕ) → not (a below b) ≡ true → b ≤ a
not-below a b e = ltb-false a b (not-true (ltb a b) e)

-- the code's `a <= b` is the definitions' `not (b below a)`
pub at_most : (a b : ℕ) → leb a b ≡ not (b below a)
at_most a b = split (leb a b) (λ q. rw (q, le-ltb b a (leb-true a b q))) (λ q. rw (q, lt-ltb b a (leb-false a b q)))

pub within-means : (low high a : ℕ) → within low high a ≡ true → (low ≤ a) × (a < high)
within-means low high a e =
    let p = both (not (a below low)) (a below high) e in
    (not-below a low p.0, ltb-true a high p.1)

pub within-test : (low high a : ℕ) → low ≤ a → a < high → within low high a ≡ true
within-test low high a l h = rw (le-ltb a low l, lt-ltb a high h)

pub within-not : (low high a : ℕ) → (low ≤ a → a < high → ⊥) → within low high a ≡ false
within-not low high a out = split (within low high a) (λ q. let r = within-means low high a q in absurd (out r.0 r.1)) (λ q. q)

-- two tests that pass alike
pub same_test : (a b : Bool) → (a ≡ true → b ≡ true) → (b ≡ true → a ≡ true) → a ≡ b
same_test true b f g = sym (f refl)
same_test false true f g = g refl
same_test false false f g = refl

-- of the numbers below suc c those that aren't c are below c
pub before_last : (i c : ℕ) → i < suc c → eqb i c ≡ false → i < c
before_last i c h q = less (eqb-false i c q)
  where
    less : (i ≡ c → ⊥) → i < c
    less ne = omega arith

-- every number below a count, some number, and every element of a list
pub below_at : (c : ℕ) (t : ℕ → Bool) → all_below c t ≡ true → (i : ℕ) → i < c → t i ≡ true
below_at zero t e i h = absurd (not-suc-le-zero h)
below_at (suc c) t e i h =
    let p = both (t c) (all_below c t) e in
    split (eqb i c) (λ q. rw (eqb-true i c q) p.0) (λ q. below_at c t p.1 i (before_last i c h q))

pub below-test : (c : ℕ) (t : ℕ → Bool) → ((i : ℕ) → i < c → t i ≡ true) → all_below c t ≡ true
below-test zero t f = refl
below-test (suc c) t f = and-test (t c) (all_below c t) (f c (omega arith)) (below-test c t (λ i l. f i (omega arith)))

pub some_at : (c : ℕ) (t : ℕ → Bool) → any_below c t ≡ true → (i : ℕ) × (i < c) × (t i ≡ true)
some_at zero t e = clash false e refl
some_at (suc c) t e =
    split (t c) (λ q. (c, omega arith, q)) (λ q. let r = some_at c t (or-fact (t c) (any_below c t) e q) in (r.0, omega (arith, r.1), r.2))

pub some-test : (c : ℕ) (t : ℕ → Bool) (i : ℕ) → i < c → t i ≡ true → any_below c t ≡ true
some-test zero t i h e = absurd (not-suc-le-zero h)
some-test (suc c) t i h e =
    split (eqb i c) (λ q. rw (← eqb-true i c q, e)) (λ q. or-test (t c) (any_below c t) (λ z. some-test c t i (before_last i c h q) e))

pub all-at : {A : Type 0} (t : A → Bool) (d : A) (l : List A) → all t l ≡ true → (k : ℕ) → k < length l → t (get_or l k d) ≡ true
all-at t d [] e k h = absurd (not-suc-le-zero h)
all-at t d (x ∷ l) e zero h = (both (t x) (all t l) e).0
all-at t d (x ∷ l) e (suc k) h = all-at t d l (both (t x) (all t l) e).1 k (omega arith)

pub all-test : {A : Type 0} (t : A → Bool) (d : A) (l : List A) → ((k : ℕ) → k < length l → t (get_or l k d) ≡ true) → all t l ≡ true
all-test t d [] f = refl
all-test t d (x ∷ l) f = and-test (t x) (all t l) (f 0 (omega arith)) (all-test t d l (λ k h. f (suc k) (omega arith)))
