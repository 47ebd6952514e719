-- `lay_all` meets its contract: the parts of the first n processes are laid.
use Rattle.sound_plan.specs.Plan.{LaidTo}
use Rattle.sound_plan.proofs.Plan.lay_all.Given as goal

abbrev pub invariant-loop-n : goal.invariant-loop-n
invariant-loop-n l = LaidTo l.fn.procs l.n l.self.tags l.self.bases l.t
