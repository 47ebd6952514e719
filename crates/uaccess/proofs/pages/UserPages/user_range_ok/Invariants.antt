-- `user_range_ok` meets its contract. The loop's invariant: the addresses of the pages before `va` are allowed.
use Prim.Native.Nat.{ℕ, ◌-◌, ◌%◌, ◌≤◌}
use mathlib.Core.Path.{◌≡◌}
use mathlib.Core.List.{List}
use Rattle.spec.specs.Numbers.{page_down}
use Rattle.spec.specs.Frames.{mem_of, store}
use Rattle.uaccess.proofs.InRange.{Clear}
use Rattle.uaccess.proofs.pages.UserPages.user_range_ok.Given as goal

abbrev pub invariant-loop-va : goal.invariant-loop-va
invariant-loop-va l = (l.va % 4096 ≡ 0) × (page_down l.addr ≤ l.va) × ((frames : List ℕ) → Clear (mem_of (store frames l.self.book.now) l.self.number) l.write (page_down l.addr) l.va)

abbrev pub decreases-loop-va : goal.decreases-loop-va
decreases-loop-va l = l.end - l.va
