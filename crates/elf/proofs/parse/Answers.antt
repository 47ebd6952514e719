-- `parse` meets its contract: it says what the checks of the whole image come to.
-- Assumes nothing.
use mathlib.Core.Path.{sym, ap, ◌∙◌}
use Rattle.std.proofs.lemmas.Result.{err_from_is_err_and}
use Rattle.elf.specs.Scan.{image_error}
use Rattle.elf.proofs.Image.{truncated, bad-magic, by-fields}
use Rattle.elf.proofs.parse.Goals as goal

pub returns-then-image-lt-EHDR_SIZE-clause-number : goal.returns-then-image-lt-EHDR_SIZE-clause-number
returns-then-image-lt-EHDR_SIZE-clause-number c = let a = c.args in truncated a.flags a.image.now c.if-image-lt-EHDR_SIZE.true

pub returns-then-not-has_magic-clause-number : goal.returns-then-not-has_magic-clause-number
returns-then-not-has_magic-clause-number c = let a = c.args in bad-magic a.flags a.image.now c.if-image-lt-EHDR_SIZE.false (sym c.has_magic.ensures ∙ c.if-not-has_magic.true)

pub returns-in_err-judge-clause-number : goal.returns-in_err-judge-clause-number
returns-in_err-judge-clause-number c =
    let a = c.args in
    let p = err_from_is_err_and c.from_residual.result c.from_residual.ensures.1 in
    rw (p.1, p.2)
    (c.in_err-judge.ensures ∙ ap (image_error a.flags a.image.now) c.read_ehdr-header.ensures ∙ by-fields a.flags a.image.now c.if-image-lt-EHDR_SIZE.false (sym c.has_magic.ensures ∙ c.if-not-has_magic.false))

pub invariant_of-result : goal.invariant_of-result
invariant_of-result c =
    let a = c.args in
    record {
      read = c.read_ehdr-header.ensures;
      accepted = sym (c.in_ok-judge.ensures ∙ ap (image_error a.flags a.image.now) c.read_ehdr-header.ensures ∙ by-fields a.flags a.image.now c.if-image-lt-EHDR_SIZE.false (sym c.has_magic.ensures ∙ c.if-not-has_magic.false));
    }
