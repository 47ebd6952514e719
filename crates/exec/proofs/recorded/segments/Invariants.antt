-- `recorded::segments` meets its contract. The invariant: the program's recorded segments are those of the places so far, at most fifteen,
-- and those of the places that are left.
-- Assumes nothing.
use mathlib.Core.Path.{◌≡◌}
use mathlib.Core.List.{List, ◌++◌}
use Prim.Native.Nat.{◌≤◌}
use lib.ListN.{length}
use Rattle.spec.specs.Exec.{kept}
use Rattle.spec.specs.declared.UserSegment.{UserSegment}
use Rattle.image.specs.Images.{form, bytes, program}
use Rattle.image.proofs.Places.{rest}
use Rattle.exec.specs.Pages.{recorded}
use Rattle.exec.proofs.recorded.segments.Given as goal

abbrev pub invariant-loop-i : goal.invariant-loop-i
invariant-loop-i l =
    (done : List UserSegment)
    × (kept l.bss (program l.image).segments ≡ done ++ kept l.bss (rest l.image.setup (form l.image) (bytes l.image) l.i))
    × (l.seen ≡ recorded done)
    × (length done ≤ 15)
