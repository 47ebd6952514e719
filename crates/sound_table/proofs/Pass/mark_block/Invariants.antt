-- `mark_block` meets its contract.
use Prim.Native.Nat.{◌+◌, ◌*◌}
use Rattle.sound_table.specs.Table.{Planned, Noted, FramedAll}
use Rattle.sound_table.proofs.Pass.mark_block.Given as goal

abbrev pub invariant-loop-i : goal.invariant-loop-i
invariant-loop-i l =
    Planned l.self.book.now l.self.plan.now.tags l.self.plan.now.bases (16 * (l.from + l.i)) × Noted l.self.book.now l.self.plan.now.tags l.self.plan.now.bases l.self.own l.self.pages l.notes.bits l.table (16 * (l.from + l.i)) × FramedAll l.self.book.now (l.from + l.i)
