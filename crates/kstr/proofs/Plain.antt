-- Bytes without a NUL.
use Prim.Native.Nat.{ℕ, zero, suc, ◌+◌, ◌-◌, ◌≤◌, ◌<◌}
use native.Mathlib.Omega.{arith}
use native.Mathlib.Numerals.{add-one}
use mathlib.Core.Path.{◌≡◌, refl, sym, ap, ◌∙◌}
use mathlib.Core.Bool.{Bool, true, false, not, ◌&&◌, ◌||◌}
use mathlib.Core.List.{List, [], ◌∷◌}
use lib.ListN.{length, get_or, take, drop}
use lib.Seq.{take-add}
use Rattle.spec.specs.Tests.{◌is◌, ◌isnt◌, has}
use Rattle.spec.proofs.Bools.{neither}
use Rattle.spec.proofs.Lists.{any_append}
use Rattle.kstr.specs.Nul.{to_nul}

-- one test more, at the front of the others and behind them
front : (a b : Bool) → not (a || b) ≡ not a && not b
front true b = refl
front false b = refl

behind : (a b c : Bool) → not a && (b && c) ≡ b && (not a && c)
behind true true c = refl
behind true false c = refl
behind false b c = refl

-- the next byte
pub none-next : (s : List ℕ) (i : ℕ) → i < length s → get_or s i 0 isnt 0 && not (has 0 (take i s)) ≡ not (has 0 (take (i + 1) s))
none-next s i h = rw (add-one i) (along s i h)
  where
    along : (s : List ℕ) (i : ℕ) → i < length s → get_or s i 0 isnt 0 && not (has 0 (take i s)) ≡ not (has 0 (take (suc i) s))
    along [] i h = absurd (omega arith)
    along (x ∷ s) zero h = sym (front (x is 0) false)
    along (x ∷ s) (suc i) h =
        ap (λ (b : Bool). get_or s i 0 isnt 0 && b) (front (x is 0) (has 0 (take i s)))
        ∙ sym (behind (x is 0) (get_or s i 0 isnt 0) (not (has 0 (take i s))))
        ∙ ap (λ (b : Bool). not (x is 0) && b) (along s i (omega arith))
        ∙ sym (front (x is 0) (has 0 (take (suc i) s)))

-- the next block
pub none-block : (s : List ℕ) (k n : ℕ) → has 0 (take k s) ≡ false → has 0 (take (k + n - k) (drop k s)) ≡ false → has 0 (take (k + n) s) ≡ false
none-block s k n a b =
    let e : k + n - k ≡ n = omega arith in
    let none : has 0 (take n (drop k s)) ≡ false = rw e at b in
    rw (take-add k n s) (any_append (λ c. c is 0) (take k s) (take n (drop k s)) ∙ rw (a, none))

-- the first NUL stands behind them
pub nul-behind : (s : List ℕ) (k : ℕ) → k ≤ length s → has 0 (take k s) ≡ false → to_nul s ≡ k + to_nul (drop k s)
nul-behind s zero h e = omega arith
nul-behind [] (suc k) h e = absurd (omega arith)
nul-behind (x ∷ s) (suc k) h e =
    let f = neither (x is 0) (has 0 (take k s)) e in
    rw f.0 (omega (arith, nul-behind s k (omega arith) f.1))
