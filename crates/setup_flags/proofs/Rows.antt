-- A row's line at the front of bytes, and the rows read one after the other.
-- Assumes nothing.
use mathlib.Core.Path.{◌≡◌, refl}
use Rattle.std.specs.Prelude.{Some}
use mathlib.Core.List.{List, []}
use Prim.Native.Nat.{ℕ, suc, ◌+◌, ◌-◌, ◌<◌}
use native.Mathlib.Omega.{arith}
use lib.ListN.{length, take, drop, set}
use Rattle.spec.specs.FlagsText.{flag_line, code_at, read_rows, read_flags}
use Rattle.spec.proofs.Lists.{take-set}

-- ---- rows that are left

module _ (flags bytes : List ℕ) (row : ℕ) (h : row < 8) where
  one_less : 8 - row ≡ suc (8 - (row + 1))
  one_less = omega arith

  pub rows_more : (c : ℕ) → length flags ≡ 8 → Some c ≡ code_at row bytes
      → read_rows (row + 1) (8 - (row + 1)) (take (row + 1) (set flags row c)) (drop (length (flag_line row c)) bytes) ≡ read_rows row (8 - row) (take row flags) bytes
  rows_more c n e = rw (one_less, ← e, take-set flags row c (omega arith))

-- before the first row
pub rows-first : (bytes : List ℕ) → read_rows 0 8 [] bytes ≡ read_flags bytes
unfolding read_flags
rows-first bytes = refl
