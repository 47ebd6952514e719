-- One line more behind the lines of a table's first rows.
-- Assumes nothing.
use mathlib.Core.Path.{◌≡◌, sym, ap, ◌∙◌}
use mathlib.Core.List.{List, [], ◌∷◌, ◌++◌, append_assoc, append-nil}
use Prim.Native.Nat.{ℕ, ◌+◌, ◌<◌}
use native.Mathlib.Omega.{arith}
use lib.ListN.{length, take, get_or}
use lib.Seq.{length-take-le}
use Rattle.spec.specs.FlagsText.{row_lines}
use Rattle.spec.proofs.Lists.{take_next}

module _ (line : ℕ → ℕ → List ℕ) where
  lines-behind : (codes : List ℕ) (row k c : ℕ) → row + length codes ≡ k → row_lines line row (codes ++ c ∷ []) ≡ row_lines line row codes ++ line k c
  lines-behind [] row k c e = let z : row ≡ k = omega arith in append-nil (line row c) ∙ ap (λ (n : ℕ). line n c) z
  lines-behind (x ∷ codes) row k c e =
      ap (λ (s : List ℕ). line row x ++ s) (lines-behind codes (row + 1) k c (omega arith)) ∙ sym (append_assoc (line row x) (row_lines line (row + 1) codes) (line k c))

  pub lines_next : (codes : List ℕ) (i : ℕ) → i < length codes → row_lines line 0 (take i codes) ++ line i (get_or codes i 0) ≡ row_lines line 0 (take (i + 1) codes)
  lines_next codes i h =
      let n : 0 + length (take i codes) ≡ i = omega (arith, length-take-le i codes (omega arith)) in
      sym (ap (row_lines line 0) (take_next codes i 0 h) ∙ lines-behind (take i codes) 0 i (get_or codes i 0) n)
