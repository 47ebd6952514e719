-- `numbers::stack` meets its contract.
use mathlib.Core.Path.{ap}
use Prim.Native.Nat.{ℕ}
use Rattle.spec.specs.Book.{segment}
use Rattle.setup.proofs.stack.Goals as goal

pub returns : goal.returns
returns c = ap (λ (x : ℕ). segment x c.args.setup.ustktop 3) c.stack_start-start.ensures
