-- `setup_read::count` meets its contract. The invariant: `i` digits are passed.
-- Assumes nothing.
use mathlib.Core.Path.{◌≡◌}
use Prim.Native.Nat.{◌+◌, ◌≤◌}
use lib.ListN.{length, drop}
use Rattle.spec.specs.SetupText.{digits}
use Rattle.setup.proofs.setup_read.count.Given as goal

abbrev pub invariant-loop-i : goal.invariant-loop-i
invariant-loop-i l = (l.i ≤ length l.s) × (length (digits l.s) ≡ l.i + length (digits (drop l.i l.s)))
