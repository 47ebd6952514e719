-- `four_but` meets its contract.
use Prim.Native.Nat.{◌*◌}
use Rattle.sound_table.specs.Rows.{FourBut}
use Rattle.sound_table.proofs.rows.four_but.Given as goal

abbrev pub invariant-loop-i : goal.invariant-loop-i
invariant-loop-i l = FourBut l.book (17 * l.k) l.n l.i l.a
