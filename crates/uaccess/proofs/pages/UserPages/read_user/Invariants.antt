-- `read_user` meets its contract. The loop's invariant: the first `i` bytes are read, and the others as they were.
use Prim.Native.Nat.{◌-◌, ◌≤◌}
use mathlib.Core.Path.{◌≡◌}
use lib.ListN.{length}
use Rattle.spec.specs.Frames.{mem_of, store}
use Rattle.spec.specs.Access.{bytes_at}
use Rattle.spec_laws.proofs.Overwrite.{mix}
use Rattle.uaccess.proofs.pages.UserPages.read_user.Given as goal

abbrev pub invariant-loop-i : goal.invariant-loop-i
invariant-loop-i l = (l.i ≤ length l.buf) × (length l.buf ≡ length l.initial.buf) × (l.buf ≡ mix (bytes_at (mem_of (store l.frames l.self.book.now) l.self.number) l.addr (length l.initial.buf)) l.initial.buf l.i)

abbrev pub decreases-loop-i : goal.decreases-loop-i
decreases-loop-i l = length l.buf - l.i
