-- `buffer::pointers_behind` meets its contract. The loop's invariant: the strings are as they were, the next one begins at `from`, and the
-- pointers from it on, put at their place, would complete the buffer.
use mathlib.Core.Path.{◌≡◌}
use Prim.Native.Nat.{ℕ, ◌≤◌}
use mathlib.Core.List.{List}
use lib.ListN.{length, take}
use Rattle.exec_args.specs.Laid.{Standing}
use Rattle.exec_args.proofs.Behind.{Along}
use Rattle.exec_args.proofs.buffer.pointers_behind.Given as goal

abbrev pub invariant-loop-i : goal.invariant-loop-i
invariant-loop-i l =
    (l.from ≤ l.size) × (length l.buf ≡ length l.initial.buf)
    × ((args : List (List ℕ)) → Standing args (take l.size l.initial.buf) l.count → Along l.first l.size l.initial.buf args l.buf l.from l.i)
