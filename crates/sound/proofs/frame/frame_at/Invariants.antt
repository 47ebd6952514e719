-- `frame_at` meets its contract: of the owner's parts those before k don't have the page.
use Prim.Native.Nat.{ℕ, ◌+◌, ◌*◌, ◌%◌, ◌≤◌, ◌<◌}
use mathlib.Core.Path.{◌≡◌}
use mathlib.Core.Bool.{false}
use lib.ListN.{get_or}
use Rattle.sound_plan.specs.Plan.{hits}
use Rattle.sound.proofs.frame.frame_at.Given as goal

abbrev pub invariant-loop-k : goal.invariant-loop-k
invariant-loop-k l = (i : ℕ) → i < l.k → l.end ≤ i + 17 → hits l.lookup.plan.tags l.lookup.plan.bases (l.page + 16 * l.owner + get_or l.lookup.plan.tags i 0 % 16) i ≡ false
