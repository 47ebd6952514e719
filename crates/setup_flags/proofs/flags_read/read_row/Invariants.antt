-- `flags_read::read_row` meets its contract. The invariant: the bytes begin with the line of no code passed.
-- Assumes nothing.
use Rattle.std.proofs.Common.{◌≡◌, ◌<◌, ℕ, false}
use Rattle.spec.specs.FlagsText.{begins}
use Rattle.setup_flags.proofs.flags_read.read_row.Given as goal

abbrev pub invariant-loop-code : goal.invariant-loop-code
invariant-loop-code l = (k : ℕ) → k < l.code → begins l.row l.s k ≡ false
