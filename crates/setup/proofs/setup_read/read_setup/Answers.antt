-- `setup_read::read_setup` meets its contract: line after line.
-- Assumes nothing.
use Rattle.std.proofs.Common.{sym, ◌∙◌}
use Rattle.std.proofs.lemmas.Result.{err_from_is_err_and}
use Rattle.spec.specs.SetupText.{read_setup}
use Rattle.setup.proofs.setup_read.read_setup.Goals as goal

pub returns-in_err-a : goal.returns-in_err-a
unfolding read_setup
returns-in_err-a c =
    let p = err_from_is_err_and c.from_residual.result c.from_residual.ensures.1 in
    rw (p.1, p.2, c.in_err-a.ensures.error, ← c.in_err-a.ensures.said)

pub returns-in_err-b : goal.returns-in_err-b
unfolding read_setup
returns-in_err-b c =
    let p = err_from_is_err_and c.from_residual-in_err-b.result c.from_residual-in_err-b.ensures.1 in
    rw (p.1, p.2, c.in_err-b.ensures.error, ← c.in_ok-a.ensures.said, ← c.in_err-b.ensures.said)

pub returns-in_err-c : goal.returns-in_err-c
unfolding read_setup
returns-in_err-c c =
    let p = err_from_is_err_and c.from_residual-in_err-c.result c.from_residual-in_err-c.ensures.1 in
    rw (p.1, p.2, c.in_err-c.ensures.error, ← c.in_ok-a.ensures.said, ← c.in_ok-b.ensures.said, ← c.in_err-c.ensures.said)

pub returns-in_err-d : goal.returns-in_err-d
unfolding read_setup
returns-in_err-d c =
    let p = err_from_is_err_and c.from_residual-in_err-d.result c.from_residual-in_err-d.ensures.1 in
    rw (p.1, p.2, c.in_err-d.ensures.error, ← c.in_ok-a.ensures.said, ← c.in_ok-b.ensures.said, ← c.in_ok-c.ensures.said, ← c.in_err-d.ensures.said)

pub returns-then-not-is_empty : goal.returns-then-not-is_empty
unfolding read_setup
returns-then-not-is_empty c =
    rw (← c.in_ok-a.ensures.said, ← c.in_ok-b.ensures.said, ← c.in_ok-c.ensures.said, ← c.in_ok-d.ensures.said, sym c.is_empty.ensures ∙ c.if-not-is_empty.true)

pub returns-then-not-setup_ok : goal.returns-then-not-setup_ok
unfolding read_setup
returns-then-not-setup_ok c =
    rw (← c.in_ok-a.ensures.said, ← c.in_ok-b.ensures.said, ← c.in_ok-c.ensures.said, ← c.in_ok-d.ensures.said, sym c.is_empty.ensures ∙ c.if-not-is_empty.false, sym c.setup_ok.ensures ∙ c.if-not-setup_ok.true)

pub returns : goal.returns
unfolding read_setup
returns c =
    rw (← c.in_ok-a.ensures.said, ← c.in_ok-b.ensures.said, ← c.in_ok-c.ensures.said, ← c.in_ok-d.ensures.said, sym c.is_empty.ensures ∙ c.if-not-is_empty.false, sym c.setup_ok.ensures ∙ c.if-not-setup_ok.false)
