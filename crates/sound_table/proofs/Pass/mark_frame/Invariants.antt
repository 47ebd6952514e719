-- `mark_frame` meets its contract.
use Rattle.sound_table.proofs.RowPass.{Row}
use Rattle.sound_table.proofs.Pass.mark_frame.Given as goal

abbrev pub invariant-loop-i : goal.invariant-loop-i
invariant-loop-i l = Row l.self.book.now l.self.plan.now.tags l.self.plan.now.bases l.self.own l.self.pages l.notes.bits l.table l.k l.i l.base l.seen
