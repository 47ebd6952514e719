-- `flags_read::read_flags` meets its contract. The invariant: the codes of the rows passed, and what the rest comes to after them.
-- Assumes nothing.
use Rattle.std.proofs.Common.{◌≡◌, ◌-◌, length, take}
use Rattle.spec.specs.FlagsText.{read_rows, read_flags}
use Rattle.setup_flags.proofs.flags_read.read_flags.Given as goal

abbrev pub invariant-loop-row : goal.invariant-loop-row
invariant-loop-row l = (length l.flags ≡ 8) × (read_rows l.row (8 - l.row) (take l.row l.flags) l.rest ≡ read_flags l.bytes)
