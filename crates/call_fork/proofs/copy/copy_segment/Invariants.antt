-- `copy::copy_segment` meets its contract. The loop's invariant: the pages before `page` are placed, no frame from `c` on is
-- free, the parent's pages stay in their frames with their bytes, and the lookup tells its frames.
use mathlib.Core.List.{List}
use Prim.Native.Nat.{ℕ, ◌-◌}
use Rattle.spec.specs.Book.{frame_of}
use Rattle.spec.specs.Frames.{Store, frame_bytes, store}
use Rattle.pagealloc.proofs.Placing.{Ran}
use Rattle.call_fork.specs.Lent.{Tells, Kept}
use Rattle.call_fork.proofs.copy.copy_segment.Given as goal

-- the parent's pages, as a store has them
abbrev pub pages : Store → ℕ → ℕ → List ℕ
pages m parent a = frame_bytes m.frames (frame_of m.book parent a)

abbrev pub invariant-loop-page : goal.invariant-loop-page
invariant-loop-page l =
    Ran (pages (store l.initial.frames l.initial.book) l.parent) l.recorded.perm l.child l.page-end l.initial.page (store l.initial.frames l.initial.book) (store l.frames l.book) l.page l.c
    × Kept (store l.initial.frames l.initial.book) (store l.frames l.book) l.parent × Tells l.book l.lookup l.parent

abbrev pub decreases-loop-page : goal.decreases-loop-page
decreases-loop-page l = l.page-end - l.page
