-- `or_of` meets its contract.
use Rattle.sound_table.specs.Rows.{OrOf}
use Rattle.sound_table.proofs.rows.or_of.Given as goal

abbrev pub invariant-loop-i : goal.invariant-loop-i
invariant-loop-i g l = OrOf l.book l.at l.i l.a
