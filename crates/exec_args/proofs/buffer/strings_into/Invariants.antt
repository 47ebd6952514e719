-- `buffer::strings_into` meets its contract. The loop's invariant: the strings from the next on, laid at their place, would complete the buffer.
use mathlib.Core.Path.{◌≡◌}
use Prim.Native.Nat.{◌+◌, ◌-◌}
use lib.ListN.{length, drop}
use Rattle.spec.specs.Tests.{sum}
use Rattle.spec.specs.Frames.{put}
use Rattle.spec.specs.Exec.{args_of, strings}
use Rattle.exec_args.proofs.buffer.strings_into.Given as goal

abbrev pub invariant-loop-n : goal.invariant-loop-n
invariant-loop-n l =
    (length l.rest ≡ sum (drop l.n-index l.lengths)) × (l.at + length l.rest + (length l.lengths - l.n-index) ≡ length l.bytes + length l.lengths) × (length l.buf ≡ length l.initial.buf)
    × (put l.initial.buf 0 (strings (args_of l.bytes l.lengths)) ≡ put l.buf l.at (strings (args_of l.rest (drop l.n-index l.lengths))))
