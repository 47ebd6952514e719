-- `is_own` meets its contract.
use mathlib.Core.Path.{sym, ◌∙◌}
use borrow.Author.Tests.{eqb-true}
use Rattle.spec.proofs.Bools.{both}
use Rattle.sound_table.proofs.rows.is_own.Goals as goal

pub returns : goal.returns
returns c = λ e. let h = both _ _ e in (sym c.owner_of.ensures ∙ eqb-true _ _ h.0, eqb-true _ _ h.1)
