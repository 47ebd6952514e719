-- `plain_ready` meets its contract: the book was found sound where the process is looked at.
use mathlib.Core.Path.{refl}
use Rattle.call_front.proofs.Left.{left_next}
use Rattle.call_front.proofs.numbers.plain_ready.Goals as goal

pub returns-clause-leaves : goal.returns-clause-leaves
returns-clause-leaves c = left_next _ 4 _ refl c.alive.ensures c.in_ok-number_ready.ensures.leaves
