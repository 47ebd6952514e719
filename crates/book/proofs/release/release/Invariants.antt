-- `release` meets its contract. The loop's invariant: the frames before `k` are released.
use Rattle.std.proofs.Common.{◌≡◌, ℕ, Bool, ◌<◌, ◌^◌, length}
use Rattle.book.proofs.Released.{released}
use Rattle.book.proofs.release.release.Given as goal

abbrev pub invariant-loop-k : goal.invariant-loop-k
invariant-loop-k g l =
    (length l.book ≡ length l.initial.book)
    × ((t : ℕ → Bool) → ((page : ℕ) (b : Bool) → page < 2 ^ 64 → goal.F-post g l.leaves page b → b ≡ t page) → l.book ≡ released l.owner t l.initial.book l.k)
