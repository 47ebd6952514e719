-- `scan::advance` meets its contract: a header is skipped, refused, or passed, by the laws of the walk.
-- Assumes nothing.
use mathlib.Core.Path.{sym, ◌∙◌}
use mathlib.Core.List.{[]}
use native.Mathlib.Omega.{arith}
use Rattle.std.proofs.lemmas.Result.{err_from_is_err_and}
use Rattle.spec.specs.Elf.{error_number}
use Rattle.spec.proofs.Refused.{elf-not-0}
use Rattle.elf_header.specs.Phdr.{phdr_of}
use Rattle.spec_laws.proofs.Headers.{Header, header-means}
use Rattle.elf.proofs.Walk.{refuses, goes_on}
use Rattle.elf.proofs.scan.advance.Goals as goal
use Rattle.elf.proofs.scan.advance.Goals.{In_ok-judge_phdr}

-- the header passed
passed : (c : In_ok-judge_phdr) → let a = c.args in Header a.flags a.image.now a.seen.end (phdr_of a.p)
passed c = let a = c.args in (header-means a.flags a.image.now a.seen.end (phdr_of a.p) [] (sym c.in_ok-judge_phdr.ensures)).0

pub returns-in_err-judge_phdr : goal.returns-in_err-judge_phdr
returns-in_err-judge_phdr c ps =
    let a = c.args in
    let p = err_from_is_err_and c.from_residual.result c.from_residual.ensures.1 in
    rw (p.1, p.2)
    (refuses a.flags a.image.now a.entry a.seen.end a.seen.found (phdr_of a.p) ps (error_number c.in_err-judge_phdr.field-0.0)
    (sym c.is_load.ensures ∙ c.if-not-is_load.false) (sym c.in_err-judge_phdr.ensures) (elf-not-0 _))

pub page_up-requires : goal.page_up-requires
page_up-requires c = let h = passed (goal.at.page_up-requires c).In_ok-judge_phdr in omega arith

pub overflow_add-p : goal.overflow_add-p
overflow_add-p c = let h = passed (goal.at.overflow_add-p c).In_ok-judge_phdr in omega arith

pub in_text-requires : goal.in_text-requires
in_text-requires c = let h = passed (goal.at.in_text-requires c).In_ok-judge_phdr in omega arith

pub returns : goal.returns
returns c ps =
    let a = c.args in
    rw (c.in_text.ensures, c.page_up.ensures)
    (goes_on a.flags a.image.now a.entry a.seen.end a.seen.found (phdr_of a.p) ps
    (sym c.is_load.ensures ∙ c.if-not-is_load.false) (sym c.in_ok-judge_phdr.ensures))
