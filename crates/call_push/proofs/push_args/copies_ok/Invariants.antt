-- `copies_ok` meets its contract. The loop's invariant: the copies of the arguments so far may be written, and the others' decide.
use Prim.Native.Nat.{ℕ, ◌+◌, ◌*◌, ◌-◌, ◌^◌, ◌<◌}
use mathlib.Core.Path.{◌≡◌}
use mathlib.Core.List.{List}
use lib.ListN.{length, drop}
use Rattle.spec.specs.Tests.{sum}
use Rattle.spec.specs.Frames.{Mem, mem_of, store}
use Rattle.spec.specs.Exec.{first_bad}
use Rattle.exec_args.specs.Sizes.{copies_by}
use Rattle.call_push.proofs.push_args.copies_ok.Given as goal

abbrev pub memory : List ℕ → List ℕ → ℕ → Mem
memory frames book number = mem_of (store frames book) number

abbrev pub invariant-loop-n : goal.invariant-loop-n
invariant-loop-n l =
    (l.at + sum (drop l.n-index l.lengths) + (length l.lengths - l.n-index) < 2 ^ 64) × (l.pointer + 8 * (length l.lengths - l.n-index) < 2 ^ 64)
    × ((frames : List ℕ) → first_bad l.pages.setup (memory frames l.pages.book.now l.pages.number) (copies_by l.s l.p l.lengths) ≡ first_bad l.pages.setup (memory frames l.pages.book.now l.pages.number) (copies_by l.at l.pointer (drop l.n-index l.lengths)))
