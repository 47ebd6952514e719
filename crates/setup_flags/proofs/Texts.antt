-- What the program flags prints is the specification's text.
-- Assumes nothing.
use mathlib.Core.Path.{◌≡◌, ap, ◌∙◌}
use mathlib.Core.List.{List}
use Prim.Native.Nat.{ℕ}
use lib.ListN.{length}
use borrow.Author.Tests.{ne_eqb}
use native.Mathlib.Omega.{arith}
use mathlib.Core.Bool.{true}
use Rattle.spec.specs.Tests.{ascii, ◌above◌}
use Rattle.spec.specs.Flags.{flags_ok}
use Rattle.spec.proofs.Bools.{split}
use Rattle.spec.proofs.FlagsTexts.{written_back}
use Rattle.spec.specs.FlagsText.{table_line, row_lines, read_flags_file, table_text}

module _ (bytes : List ℕ) where
  -- a table that is read is accepted
  pub file_ok : (read_flags_file bytes).error ≡ 0 → flags_ok (read_flags_file bytes).flags ≡ true
  file_ok e =
      split (length bytes above 4096)
      (λ q. absurd (let w = rw q at e in omega arith))
      (λ q. rw q ((written_back bytes (rw q at e)).1))

  pub refused-text : (n : ℕ) → n ≡ (read_flags_file bytes).error → (n ≡ 0 → ⊥) → ascii "refused=39\n" ≡ table_text bytes
  unfolding table_text
  refused-text n e z = rw (← e, ne_eqb n 0 z)

  pub shown-text : (flags : List ℕ) → 0 ≡ (read_flags_file bytes).error → flags ≡ (read_flags_file bytes).flags → row_lines table_line 0 flags ≡ table_text bytes
  unfolding table_text
  shown-text flags z e = ap (row_lines table_line 0) e ∙ rw (← z)
