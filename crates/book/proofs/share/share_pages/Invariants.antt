-- `share_pages` meets its contract. The loop's invariant: the frames before `k` are shared, and the others as they were.
use Rattle.std.proofs.Common.{◌≡◌, length}
use Rattle.book.proofs.Shared.{shared}
use Rattle.book.proofs.share.share_pages.Given as goal

abbrev pub invariant-loop-k : goal.invariant-loop-k
invariant-loop-k l = (length l.book ≡ length l.initial.book) × (l.book ≡ shared l.parent l.child l.initial.book l.k)
