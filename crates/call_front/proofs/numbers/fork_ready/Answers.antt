-- `fork_ready` meets its contract: the book was found sound where the child and the parent are looked at.
use Rattle.call_front.proofs.Left.{left_fork}
use Rattle.call_front.proofs.numbers.fork_ready.Goals as goal

pub returns-clause-leaves : goal.returns-clause-leaves
returns-clause-leaves c = left_fork _ _ _ _ c.child_ready.ensures c.in_ok-number_ready.ensures.leaves
