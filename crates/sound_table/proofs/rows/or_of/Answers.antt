-- `or_of` meets its contract.
use native.Mathlib.Omega.{arith}
use mathlib.Core.Path.{refl}
use Rattle.sound_table.proofs.Folds.{or-next}
use Rattle.sound_table.proofs.rows.or_of.Goals as goal

pub loop-i-init : goal.loop-i-init
loop-i-init g c = λ z i l. absurd (omega arith)

pub loop-i-preserved : goal.loop-i-preserved
loop-i-preserved g c = or-next c.args.book.now c.args.at _ _ _ refl c.loop-i.invariant
