-- `row_but` meets its contract.
use Prim.Native.Nat.{◌*◌}
use Rattle.sound_table.specs.Rows.{OrBut}
use Rattle.sound_table.proofs.rows.row_but.Given as goal

abbrev pub invariant-loop-i : goal.invariant-loop-i
invariant-loop-i l = OrBut l.book (17 * l.k) l.n l.i l.a
