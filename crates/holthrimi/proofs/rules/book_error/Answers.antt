-- `book_error` meets its contract.
use Rattle.std.proofs.Common.{refl, sym, ◌∙◌}
use Rattle.holthrimi.specs.Rules.{book_error}
use Rattle.holthrimi.proofs.rules.book_error.Goals as goal

pub returns-then-not-sizes_ok : goal.returns-then-not-sizes_ok
unfolding book_error
returns-then-not-sizes_ok c = rw (sym c.sizes_ok.ensures ∙ c.if-not-sizes_ok.true) refl

pub returns : goal.returns
unfolding book_error
returns c = rw (sym c.sizes_ok.ensures ∙ c.if-not-sizes_ok.false) c.check.ensures
