-- `copy::copy_segments` meets its contract. The invariant: the child has copies of the data pages of the segments passed, no frame from
-- `top` on is free, and the lookup tells the parent's pages, which stay in their frames.
use mathlib.Core.Path.{◌≡◌}
use lib.ListN.{length, take}
use Rattle.spec.specs.Book.{data_only}
use Rattle.spec.specs.Frames.{store}
use Rattle.pagealloc.specs.Lent.{Passed}
use Rattle.call_fork.specs.Lent.{Tells}
use Rattle.call_fork.proofs.Forked.{Copied}
use Rattle.call_fork.proofs.copy.copy_segments.Given as goal

abbrev pub invariant-loop-s : goal.invariant-loop-s
invariant-loop-s l = record {
  same_frames : length l.frames ≡ length l.initial.frames;
  same_book : length l.book ≡ length l.initial.book;
  copied : Copied (store l.initial.frames l.initial.book) (store l.frames l.book) l.parent l.child (data_only (take l.s-index l.segments));
  passed : Passed l.top l.book;
  tells : Tells l.book l.lookup l.parent;
}
