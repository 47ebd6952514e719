-- A search through lengths: what is left at each turn.
use Prim.Native.Nat.{ℕ, ◌+◌, ◌-◌, ◌≤◌, ◌<◌}
use native.Mathlib.Omega.{arith}
use mathlib.Core.Path.{◌≡◌, sym, ap, ◌∙◌}
use mathlib.Core.Bool.{false}
use mathlib.Core.List.{List}
use lib.Dec.{eqb}
use lib.ListN.{length, get_or, drop, drop_of_length-le}
use borrow.Author.Tests.{eqb-true, eqb-false, eq-eqb, ne_eqb}
use Rattle.spec.specs.Tests.{◌is◌, sum}
use Rattle.spec.proofs.Bools.{split}
use Rattle.spec.proofs.Lists.{drop-next}

pub sum-next : (l : List ℕ) (i : ℕ) → i < length l → sum (drop i l) ≡ get_or l i 0 + sum (drop (i + 1) l)
sum-next l i h = ap sum (drop-next l i 0 h)

pub sum-none : (l : List ℕ) (i : ℕ) → length l ≤ i → sum (drop i l) ≡ 0
sum-none l i h = ap sum (drop_of_length-le l h)

-- two tests of numbers that are equal together
same_test : (a b c d : ℕ) → (a ≡ b → c ≡ d) → (c ≡ d → a ≡ b) → eqb a b ≡ eqb c d
same_test a b c d f g = split (eqb c d) (λ q. eq-eqb a b (g (eqb-true c d q)) ∙ sym q) (λ q. ne_eqb a b (λ e. eqb-false c d q (f e)) ∙ sym q)

-- ---- whether lengths sum to a number: of what is left, the next length is taken

pub sum-turn : (l : List ℕ) (i left : ℕ) → i < length l → get_or l i 0 ≤ left → (sum (drop i l) is left) ≡ (sum (drop (i + 1) l) is left - get_or l i 0)
sum-turn l i left h k =
    rw (drop-next l i 0 h)
    (same_test (get_or l i 0 + sum (drop (i + 1) l)) left (sum (drop (i + 1) l)) (left - get_or l i 0) (λ e. omega arith) (λ e. omega arith))

pub sum_past : (l : List ℕ) (i left : ℕ) → i < length l → left < get_or l i 0 → (sum (drop i l) is left) ≡ false
sum_past l i left h k = rw (drop-next l i 0 h) (ne_eqb (get_or l i 0 + sum (drop (i + 1) l)) left (λ e. omega arith))

pub sum-end : (l : List ℕ) (i left : ℕ) → length l ≤ i → (sum (drop i l) is left) ≡ (left is 0)
sum-end l i left h = rw (drop_of_length-le l h) (same_test 0 left left 0 (λ e. omega arith) (λ e. omega arith))
