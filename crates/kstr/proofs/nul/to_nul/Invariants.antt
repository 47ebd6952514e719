-- `nul::to_nul` meets its contract. The loop's invariant: none of the first `i` bytes is a NUL.
use mathlib.Core.Path.{◌≡◌}
use Prim.Native.Nat.{◌+◌, ◌-◌, ◌≤◌}
use lib.ListN.{length, drop}
use Rattle.kstr.specs.Nul.{to_nul}
use Rattle.kstr.proofs.nul.to_nul.Given as goal

abbrev pub invariant-loop-i : goal.invariant-loop-i
invariant-loop-i l = (l.i ≤ length l.s) × (to_nul l.s ≡ l.i + to_nul (drop l.i l.s))

abbrev pub decreases-loop-i : goal.decreases-loop-i
decreases-loop-i l = length l.s - l.i
