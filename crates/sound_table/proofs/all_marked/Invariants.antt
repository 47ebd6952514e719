-- `all_marked` meets its contract: `ok` is the test of the ranks of the words below j.
use Prim.Native.Nat.{◌*◌}
use mathlib.Core.Path.{◌≡◌}
use Rattle.spec.specs.Tests.{all_below}
use Rattle.sound_table.specs.Table.{marked}
use Rattle.sound_table.proofs.all_marked.Given as goal

abbrev pub invariant-loop-j : goal.invariant-loop-j
invariant-loop-j l = l.ok ≡ all_below (64 * l.j) (marked l.bits)
