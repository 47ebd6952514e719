-- `lay` meets its contract: the first j parts are laid.
use Prim.Native.Nat.{◌+◌, ◌*◌, ◌≤◌}
use Rattle.sound_plan.specs.Plan.{max_pages, Laid}
use Rattle.sound_plan.proofs.Plan.lay.Given as goal

abbrev pub invariant-loop-j : goal.invariant-loop-j
invariant-loop-j l = (l.t ≤ (17 * l.n + l.j) * max_pages) × Laid l.p l.n l.total l.initial.self.tags l.initial.self.bases l.self.tags l.self.bases l.t l.j
