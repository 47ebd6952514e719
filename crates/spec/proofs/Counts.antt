-- Laws of counting the numbers below a bound that pass a test: free frames, mappings of a frame, frames held alone.
use Prim.Native.Nat.{ℕ, zero, suc, ◌+◌, ◌<◌}
use native.Mathlib.Omega.{arith}
use native.Mathlib.Nat.{not-suc-le-zero}
use mathlib.Core.Path.{◌≡◌, refl, sym, ap, ap₂, ◌∙◌}
use mathlib.Core.Bool.{Bool, true, false}
use lib.Dec.{eqb}
use borrow.Author.Tests.{eqb-true, eqb-false}
use Rattle.spec.specs.Tests.{◌⇒◌else◌}
use Rattle.spec.specs.Book.{count_below}
use Rattle.spec.proofs.Bools.{split, before_last}

abbrev more : Bool → ℕ → ℕ
more b k = b ⇒ k + 1 else k

pub count-ext : (t u : ℕ → Bool) (c : ℕ) → ((k : ℕ) → k < c → t k ≡ u k) → count_below t c ≡ count_below u c
count-ext t u zero h = refl
count-ext t u (suc c) h = ap₂ more (h c (omega arith)) (count-ext t u c (λ k l. h k (omega arith)))

pub count_none : (t : ℕ → Bool) (c : ℕ) → ((k : ℕ) → k < c → t k ≡ false) → count_below t c ≡ 0
count_none t zero h = refl
count_none t (suc c) h = rw (h c (omega arith)) (count_none t c (λ k l. h k (omega arith)))

-- where none is counted, none passes
pub none-counted : (t : ℕ → Bool) (c : ℕ) → count_below t c ≡ 0 → (k : ℕ) → k < c → t k ≡ false
none-counted t zero e k l = absurd (not-suc-le-zero l)
none-counted t (suc c) e k l =
    split (t c)
    (λ q. let z : count_below t c + 1 ≡ 0 = rw q at e in absurd (omega arith))
    (λ q. split (eqb k c)
    (λ same. rw (eqb-true k c same) q)
    (λ other. none-counted t c (rw q at e) k (before_last k c l other)))

-- one number more passes
pub count-flip : (t u : ℕ → Bool) (c p : ℕ) → p < c → t p ≡ false → u p ≡ true → ((k : ℕ) → k < c → (k ≡ p → ⊥) → t k ≡ u k) → count_below u c ≡ count_below t c + 1
count-flip t u zero p l off on h = absurd (not-suc-le-zero l)
count-flip t u (suc c) p l off on h =
    split (eqb p c)
    (λ q.
    let e : p ≡ c = eqb-true p c q in
    rw (← e, off, on, count-ext t u p (λ k x. h k (omega arith) (λ z. omega arith))))
    (λ q.
    let ne = eqb-false p c q in
    ap (λ (b : Bool). more b (count_below u c)) (sym (h c (omega arith) (λ z. ne (sym z))))
    ∙ go (t c) (count_below u c) (count_below t c) (count-flip t u c p (before_last p c l q) off on (λ k x. h k (omega arith))))
  where
    go : (b : Bool) (x y : ℕ) → x ≡ y + 1 → more b x ≡ more b y + 1
    go true x y e = omega arith
    go false x y e = e

-- two tests that none passes both
pub count_add : (t u v : ℕ → Bool) (c : ℕ) → ((k : ℕ) → k < c → more (v k) 0 ≡ more (t k) 0 + more (u k) 0) → count_below v c ≡ count_below t c + count_below u c
count_add t u v zero h = omega arith
count_add t u v (suc c) h = go (v c) (t c) (u c) (h c (omega arith)) (count_add t u v c (λ k l. h k (omega arith)))
  where
    go : (x y z : Bool) → more x 0 ≡ more y 0 + more z 0 → count_below v c ≡ count_below t c + count_below u c
        → more x (count_below v c) ≡ more y (count_below t c) + more z (count_below u c)
    go true true true e f = absurd (omega arith)
    go true true false e f = omega arith
    go true false true e f = omega arith
    go true false false e f = absurd (omega arith)
    go false true z e f = absurd (omega arith)
    go false false true e f = absurd (omega arith)
    go false false false e f = f
