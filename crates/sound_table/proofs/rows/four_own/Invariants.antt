-- `four_own` meets its contract.
use Prim.Native.Nat.{ℕ, ◌+◌, ◌<◌}
use Rattle.sound_table.specs.Rows.{Own}
use Rattle.sound_table.proofs.rows.four_own.Given as goal

abbrev pub invariant-loop-j : goal.invariant-loop-j
invariant-loop-j l = (i : ℕ) → i < l.j → Own l.book (l.k + i) l.n
