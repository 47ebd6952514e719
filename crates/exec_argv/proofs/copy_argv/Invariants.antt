-- `copy_argv` meets its contract. The loop's invariant: the strings of the first `count` arguments stand over the first `used` bytes of
-- the buffer, within the limit, and the definition goes on from them.
use Prim.Native.Nat.{◌-◌}
use Rattle.spec.specs.Numbers.{arg_limit}
use Rattle.spec.specs.Frames.{mem_of, store}
use Rattle.exec_argv.proofs.SoFar.{SoFar}
use Rattle.exec_argv.proofs.copy_argv.Given as goal

abbrev pub invariant-loop-s : goal.invariant-loop-s
invariant-loop-s l =
    SoFar l.pages.setup (mem_of (store l.frames l.pages.book.now) l.pages.number) l.argv l.initial.buf l.buf l.used l.count

abbrev pub decreases-loop-s : goal.decreases-loop-s
decreases-loop-s l = arg_limit l.pages.setup - l.count
