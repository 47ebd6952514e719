-- `singles` meets its contract.
use Prim.Native.Nat.{◌-◌, ◌≤◌, ◌<◌}
use Rattle.sound_table.specs.Rows.{Masks, Singles}
use Rattle.sound_table.proofs.rows.singles.Given as goal

abbrev pub invariant-loop-i : goal.invariant-loop-i
invariant-loop-i l = (l.i ≤ l.count) × (l.last < 16) × Singles l.book l.words l.from l.i × Masks l.masks

abbrev pub decreases-loop-i : goal.decreases-loop-i
decreases-loop-i l = l.count - l.i
