-- `segments` meets its contract. The invariant: the segments set and those of the numbers left make up the list.
-- Assumes nothing.
use mathlib.Core.Path.{◌≡◌}
use mathlib.Core.List.{◌++◌}
use Prim.Native.Nat.{◌-◌, ◌*◌, ◌≤◌}
use lib.ListN.{length, take, drop}
use Rattle.replay_session.specs.Triples.{list_of}
use Rattle.replay_session.proofs.listed.segments.Given as goal

abbrev pub invariant-loop-i : goal.invariant-loop-i
invariant-loop-i l = (l.i ≤ l.n) × (length l.list ≡ 17) × (take l.i l.list ++ list_of (drop (3 * l.i) l.triples) ≡ list_of l.triples)

abbrev pub decreases-loop-i : goal.decreases-loop-i
decreases-loop-i l = l.n - l.i
