-- `nul::no_nul` meets its contract: `ok` says it of the first `i` bytes.
use Prim.Native.Nat.{◌-◌, ◌≤◌}
use mathlib.Core.Path.{◌≡◌}
use mathlib.Core.Bool.{not}
use lib.ListN.{length, take}
use Rattle.spec.specs.Tests.{has}
use Rattle.kstr.proofs.nul.no_nul.Given as goal

abbrev pub invariant-loop-i : goal.invariant-loop-i
invariant-loop-i l = (l.i ≤ length l.s) × (l.ok ≡ not (has 0 (take l.i l.s)))

abbrev pub decreases-loop-i : goal.decreases-loop-i
decreases-loop-i l = length l.s - l.i
