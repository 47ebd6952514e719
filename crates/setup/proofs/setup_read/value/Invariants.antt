-- `setup_read::value` meets its contract. The invariant: the number of the first `i` bytes, and what it is below.
-- Assumes nothing.
use mathlib.Core.Path.{◌≡◌}
use Prim.Native.Nat.{◌+◌, ◌*◌, ◌^◌, ◌≤◌}
use lib.ListN.{drop}
use Rattle.spec.specs.SetupText.{decimal_from}
use Rattle.setup.proofs.setup_read.value.Given as goal

abbrev pub invariant-loop-b : goal.invariant-loop-b
invariant-loop-b l = (l.n + 23 ≤ 23 * 10 ^ l.b-index) × (decimal_from 0 l.s ≡ decimal_from l.n (drop l.b-index l.s))
