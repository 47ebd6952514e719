-- `flags_read::read_flags` meets its contract: row after row, then what is left and the rules.
-- Assumes nothing.
use Rattle.std.proofs.Common.{arith, ◌≡◌, refl, ◌∙◌}
use Rattle.std.specs.Prelude.{Some}
use Rattle.std.proofs.Math.ListN.{length-set}
use Rattle.spec.specs.FlagsText.{code_at}
use Rattle.setup_flags.proofs.Rows.{rows_more, rows-first}
use Rattle.setup_flags.proofs.flags_read.read_flags.Goals as goal

pub loop-row-init : goal.loop-row-init
loop-row-init c = (refl, rows-first c.args.bytes.now)

pub loop-row-preserved : goal.loop-row-preserved
loop-row-preserved c =
    let l = c.loop-row in
    let read = c.in_ok-read.read in
    let o = c.in_ok-read.ensures.ok_part in
    let is : Some read.code ≡ code_at l.row l.rest.now = rw o at c.read_row.ensures.code in
    let rest = rw o at c.read_row.ensures.rest in
    (simp length-set l.invariant.0, rw rest.1 (rows_more l.flags l.rest.now l.row (omega arith) read.code l.invariant.0 is ∙ l.invariant.1))
