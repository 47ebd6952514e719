-- `write_user` meets its contract. The loop's invariant: the first `i` bytes are written.
use Prim.Native.Nat.{◌-◌, ◌≤◌}
use mathlib.Core.Path.{◌≡◌}
use lib.ListN.{length, take}
use Rattle.spec.specs.Frames.{pokes, store}
use Rattle.uaccess.proofs.pages.UserPages.write_user.Given as goal

abbrev pub invariant-loop-i : goal.invariant-loop-i
invariant-loop-i l = (l.i ≤ length l.bytes) × (length l.frames ≡ length l.initial.frames) × (store l.frames l.self.book.now ≡ pokes (store l.initial.frames l.self.book.now) l.self.number l.addr (take l.i l.bytes))

abbrev pub decreases-loop-i : goal.decreases-loop-i
decreases-loop-i l = length l.bytes - l.i
