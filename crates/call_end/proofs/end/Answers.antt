-- `end` meets its contract.
use mathlib.Core.Path.{refl, sym}
use Rattle.spec.specs.Machine.{end, plainly}
use Rattle.spec.specs.declared.Answer.TheVariants.{Done}
use Rattle.call_front.proofs.FirstNumbers.{plain-none}
use Rattle.call_front.proofs.Answers.{plain-refused, plain-goes}
use Rattle.call_end.proofs.end.Goals as goal

pub returns-in-Err : goal.returns-in-Err
returns-in-Err c = rw c.refused.ensures (plain-refused _ _ end refl c.in-Err.e c.in-Err.ensures.value)

pub forget-after-requires : goal.forget-after-requires
forget-after-requires c = (plain-none _ _ _ (sym c.in_default.ensures.value)).0.number

pub returns : goal.returns
returns c = plain-goes _ _ end refl c.in_default.ensures.value _ (plainly Done) refl (c.forget-after.ensures _ _)
