-- `flags_read::read_row` meets its contract: the first code whose line the bytes begin with, or none.
-- Assumes nothing.
use Rattle.std.proofs.Common.{arith, ◌≡◌, true}
use Rattle.spec.specs.FlagsText.{flag_line, begins}
use Rattle.spec.proofs.FlagsTexts.{first-is, first-none}
use Rattle.text.proofs.Behind.{front}
use Rattle.setup_flags.proofs.flags_read.read_row.Goals as goal

pub returns-in-Some-clause-code : goal.returns-in-Some-clause-code
returns-in-Some-clause-code c =
    let l = c.loop-code in
    let f = front _ (flag_line c.args.row l.code) _ c.line_into-n.result c.line_into-n.ensures in
    let m = c.in-Some.ensures.cases in
    let q : begins c.args.row c.args.s.now l.code ≡ true = rw f at m.0 in
    first-is (begins c.args.row c.args.s.now) l.code c.loop-code-test.true l.invariant q

pub returns-clause-code : goal.returns-clause-code
returns-clause-code c = first-none (begins c.args.row c.args.s.now) (λ k h. c.loop-code.invariant k (omega arith))
