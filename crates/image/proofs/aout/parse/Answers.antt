-- `aout::parse` meets its contract: by its length, then by its header's words.
-- Assumes nothing.
use mathlib.Core.Path.{ap, ◌∙◌}
use lib.ListN.{length}
use Rattle.std.proofs.lemmas.Result.{err_from_is_err_and}
use Rattle.image.specs.Places.{exec_error}
use Rattle.image.proofs.Judged.{too_short, by-words}
use Rattle.image.proofs.aout.parse.Goals as goal

pub returns-then-image-lt-EXEC_SIZE-clause-number : goal.returns-then-image-lt-EXEC_SIZE-clause-number
returns-then-image-lt-EXEC_SIZE-clause-number c = let a = c.args in too_short a.setup a.magic a.image.now c.if-image-lt-EXEC_SIZE.true

pub returns-in_err-judge_exec-clause-number : goal.returns-in_err-judge_exec-clause-number
returns-in_err-judge_exec-clause-number c =
    let a = c.args in
    let p = err_from_is_err_and c.from_residual.result c.from_residual.ensures.1 in
    rw (p.1, p.2)
    (c.in_err-judge_exec.ensures ∙ ap (exec_error a.setup a.magic (length a.image.now)) c.read_exec-header.ensures ∙ by-words a.setup a.magic a.image.now c.if-image-lt-EXEC_SIZE.false)

pub returns-clause-number : goal.returns-clause-number
returns-clause-number c =
    let a = c.args in
    c.in_ok-judge_exec.ensures ∙ ap (exec_error a.setup a.magic (length a.image.now)) c.read_exec-header.ensures
    ∙ by-words a.setup a.magic a.image.now c.if-image-lt-EXEC_SIZE.false
