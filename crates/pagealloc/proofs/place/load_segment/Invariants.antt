-- `pagealloc::place::load_segment` meets its contract. The loop's invariant: the first `i` pages are placed, and no frame from
-- `c` on is free.
use Prim.Native.Nat.{◌+◌, ◌*◌}
use Rattle.spec.specs.Numbers.{page_bytes}
use Rattle.spec.specs.Frames.{store}
use Rattle.pagealloc.specs.Contents.{file_at}
use Rattle.pagealloc.proofs.Placing.{Ran}
use Rattle.pagealloc.proofs.place.load_segment.Given as goal

abbrev pub invariant-loop-i : goal.invariant-loop-i
invariant-loop-i l =
    Ran (page_bytes (file_at l.vaddr l.file)) l.recorded.perm l.owner l.range.end l.range.start (store l.initial.frames l.initial.book) (store l.frames l.book) (l.range.start + 4096 * l.i) l.c
