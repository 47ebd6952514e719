-- `buffer::pointers_into` meets its contract. The loop's invariant: the pointers from the next on, laid at their place, would complete the buffer.
use mathlib.Core.Path.{◌≡◌}
use Prim.Native.Nat.{◌+◌, ◌*◌}
use lib.ListN.{length, drop}
use Rattle.spec.specs.Tests.{sum}
use Rattle.spec.specs.Frames.{put}
use Rattle.exec_args.specs.Sizes.{pointers_by}
use Rattle.exec_args.proofs.buffer.pointers_into.Given as goal

abbrev pub invariant-loop-n : goal.invariant-loop-n
invariant-loop-n l =
    (l.at ≡ 8 * l.n-index) × (l.s + sum (drop l.n-index l.lengths) ≡ l.first + sum l.lengths + l.n-index) × (length l.buf ≡ length l.initial.buf)
    × (put l.initial.buf 0 (pointers_by l.first l.lengths) ≡ put l.buf (8 * l.n-index) (pointers_by l.s (drop l.n-index l.lengths)))
