-- `scan::judge` meets its contract: the header's refusal stands before the program headers', whose table lies in the image.
-- Assumes nothing.
use mathlib.Core.Path.{refl, sym}
use lib.ListN.{length}
use Rattle.std.proofs.lemmas.Result.{err_from_is_err_and}
use Rattle.spec.proofs.Chain.{number-first, number-next}
use Rattle.spec.proofs.Refused.{elf-not-0}
use Rattle.elf.proofs.Image.{table}
use Rattle.elf.proofs.scan.judge.Goals as goal

pub scan-requires : goal.scan-requires
scan-requires c = let a = c.args in table (length a.image.now) a.h (sym c.in_ok-judge_ehdr.ensures)

pub returns-in_err-judge_ehdr : goal.returns-in_err-judge_ehdr
returns-in_err-judge_ehdr c =
    let p = err_from_is_err_and c.from_residual.result c.from_residual.ensures.1 in
    rw (p.1, p.2) (number-first _ _ _ c.in_err-judge_ehdr.ensures (elf-not-0 _))

pub returns : goal.returns
returns c = number-next 0 _ _ _ c.in_ok-judge_ehdr.ensures refl c.scan.ensures
