-- `lay` meets its contract: the first j parts are laid.
use native.Mathlib.Omega.{arith}
use mathlib.Core.Path.{◌∙◌}
use borrow.Author.Rules.{rules}
use Rattle.sound_plan.specs.Plan.{Small}
use Rattle.sound_plan.proofs.Laying.{part-segment, laid_none, laid_more, laid-bss}
use Rattle.sound_plan.proofs.Plan.lay.Goals as goal
use Rattle.sound_plan.proofs.Plan.lay.Goals.{After-seat-s}

-- the part is small
small : (c : After-seat-s) → Small c.seat-s.result
small c = rw c.seat-s.ensures (c.requires.1.segments c.loop-j.j (omega arith))

pub loop-j-init : goal.loop-j-init
loop-j-init c = (omega arith, laid_none _ _ _ _ _ (omega arith) (search rules) (search rules))

pub loop-j-preserved : goal.loop-j-preserved
loop-j-preserved c =
    let l = c.loop-j in
    let x = small (goal.at.loop-j-preserved c).After-seat-s in
    (omega arith, rw c.pack.ensures (laid_more _ _ _ _ _ _ _ _ l.j c.seat-s.result (omega arith) (omega arith) (c.seat-s.ensures ∙ part-segment _ l.j (omega arith)) x l.invariant.1))

pub returns : goal.returns
returns c =
    rw (c.pack-2.ensures, c.page_up-from.ensures) (laid-bss _ _ _ _ _ _ _ _ c.loop-j.j (omega arith) (omega arith) c.requires.1.bss c.loop-j.invariant.1)
