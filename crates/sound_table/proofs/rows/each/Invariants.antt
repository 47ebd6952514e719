-- `each` meets its contract.
use Rattle.sound_table.specs.Rows.{Singles}
use Rattle.sound_table.proofs.rows.each.Given as goal

abbrev pub invariant-loop-j : goal.invariant-loop-j
invariant-loop-j l = Singles l.book l.words l.from l.j
