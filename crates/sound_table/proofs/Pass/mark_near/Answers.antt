-- `mark_near` meets its contract.
use native.Mathlib.Omega.{arith}
use mathlib.Core.Path.{sym, ◌∙◌}
use Rattle.sound_table.proofs.Pass.mark_near.Goals as goal

pub bounds-notes-hint_at : goal.bounds-notes-hint_at
bounds-notes-hint_at c = omega arith

pub hits-requires : goal.hits-requires
hits-requires c = (c.args.notes.now.parts.parts c.hint_at.result, c.args.self.now.planned.rising)

pub enter-requires : goal.enter-requires
enter-requires c = (c.args.notes.now.parts.parts _, c.requires.0, sym c.hits.ensures ∙ c.if-not-hits.false)
