-- `form_of` meets its contract.
use Rattle.holthrimi.proofs.form.form_of.Goals as goal

pub returns-then-aout : goal.returns-then-aout
returns-then-aout c = rw c.if-aout.true
