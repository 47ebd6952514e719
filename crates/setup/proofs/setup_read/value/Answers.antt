-- `setup_read::value` meets its contract: fifteen digits never pass 64 bits.
-- Assumes nothing.
use native.Mathlib.Omega.{arith}
use Rattle.setup.proofs.Lines.{bound-fits}
use Rattle.setup.proofs.setup_read.value.Goals as goal

pub overflow_mul-n : goal.overflow_mul-n
overflow_mul-n c =
    let at = c.loop-b in
    omega (arith, bound-fits at.b-index at.n at.invariant.0 (omega arith))

pub overflow_add-n : goal.overflow_add-n
overflow_add-n c =
    let at = c.loop-b in
    omega (arith, bound-fits at.b-index at.n at.invariant.0 (omega arith))
