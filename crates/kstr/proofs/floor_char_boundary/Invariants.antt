-- `kstr::floor_char_boundary` meets its contract. The loop's invariant: the place to cut at is not above `n`.
use mathlib.Core.Path.{◌≡◌}
use Prim.Native.Nat.{◌≤◌}
use Rattle.spec.specs.Name.{cut}
use Rattle.kstr.proofs.floor_char_boundary.Given as goal

abbrev pub invariant-loop-n : goal.invariant-loop-n
invariant-loop-n l = (l.n ≤ 24) × (cut l.s 24 ≡ cut l.s l.n)

abbrev pub decreases-loop-n : goal.decreases-loop-n
decreases-loop-n l = l.n
