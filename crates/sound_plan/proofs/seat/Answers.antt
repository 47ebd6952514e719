-- `seat` meets its contract.
use borrow.Author.Tests.{eq-eqb, ne_eqb}
use Rattle.sound_plan.proofs.seat.Goals as goal

pub returns-then-s-eq0 : goal.returns-then-s-eq0
returns-then-s-eq0 c = simp (eq-eqb _ _ c.if-s-eq0.true)

pub returns : goal.returns
returns c = simp (ne_eqb _ _ c.if-s-eq0.false)
