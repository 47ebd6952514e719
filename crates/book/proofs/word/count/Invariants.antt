-- `count` meets its contract. The loop's invariant: so many frames before `f` pass.
use Rattle.std.proofs.Common.{◌≡◌, ℕ, ◌<◌, ◌≤◌, Bool, get_or, []}
use Rattle.std.specs.Simd.{first_chunks}
use Rattle.spec.specs.Book.{frame_count, count_below}
use Rattle.book.proofs.word.count.Given as goal

abbrev pub invariant-loop-f : goal.invariant-loop-f
invariant-loop-f g l =
    (l.n ≤ l.f-index)
    × ((t : ℕ → Bool) → ((k : ℕ) (f : _) (b : Bool) → k < frame_count l.book → f.now ≡ get_or (first_chunks 17 (frame_count l.book) l.book) k [] → goal.F-post g l.test f b → b ≡ t k)
    → l.n ≡ count_below t l.f-index)
