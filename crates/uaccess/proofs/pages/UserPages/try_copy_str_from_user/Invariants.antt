-- `try_copy_str_from_user` meets its contract. The loop's invariant: the first `n` bytes are copied, the others are as they
-- were, and the copy goes on from there.
use Prim.Native.Nat.{◌+◌, ◌-◌, ◌^◌, ◌≤◌, ◌<◌}
use mathlib.Core.Path.{◌≡◌}
use lib.ListN.{length}
use Rattle.spec.specs.Frames.{Mem, mem_of, store}
use Rattle.spec.specs.Access.{bytes_at, copy_str}
use Rattle.uaccess.proofs.StringCopy.{copy_from}
use Rattle.spec_laws.proofs.Overwrite.{mix}
use Rattle.uaccess.proofs.pages.UserPages.try_copy_str_from_user.Given as goal

abbrev pub invariant-loop-n : goal.invariant-loop-n
invariant-loop-n l =
    let mem : Mem = mem_of (store l.frames l.self.book.now) l.self.number in
    (l.n ≤ length l.dst) × (length l.dst ≡ length l.initial.dst) × (l.src + l.n < 2 ^ 64) × (l.dst ≡ mix (bytes_at mem l.src (length l.initial.dst)) l.initial.dst l.n) × (copy_str l.self.setup mem l.initial.dst l.src ≡ copy_from l.self.setup mem l.initial.dst l.src l.n)

abbrev pub decreases-loop-n : goal.decreases-loop-n
decreases-loop-n l = length l.dst - l.n
