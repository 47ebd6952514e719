-- `mark_all` meets its contract.
use Prim.Native.Nat.{◌*◌, ◌-◌, ◌≤◌, ◌<◌}
use mathlib.Core.Path.{◌≡◌}
use Rattle.spec.specs.Book.{frame_count}
use Rattle.sound_table.specs.Table.{Planned, Noted, FramedAll}
use Rattle.sound_table.proofs.Pass.mark_all.Given as goal

abbrev pub invariant-loop-k : goal.invariant-loop-k
invariant-loop-k l =
    (l.k ≤ l.frames) × (l.frames ≡ frame_count l.self.book.now) × Planned l.self.book.now l.self.plan.now.tags l.self.plan.now.bases (16 * l.k) × Noted l.self.book.now l.self.plan.now.tags l.self.plan.now.bases l.self.own l.self.pages l.notes.bits l.table (16 * l.k) × FramedAll l.self.book.now l.k × (l.last < 16)

abbrev pub decreases-loop-k : goal.decreases-loop-k
decreases-loop-k l = l.frames - l.k
