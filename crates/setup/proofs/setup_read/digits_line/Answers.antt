-- `setup_read::digits_line` meets its contract: the digits and the line feed behind them.
-- Assumes nothing.
use Rattle.std.proofs.Common.{arith, rules, ◌≡◌, ◌+◌, get_or}
use Rattle.setup.proofs.Lines.{line-is, part-is}
use Rattle.setup.proofs.setup_read.digits_line.Goals as goal

pub returns : goal.returns
returns c =
    let s = c.args.s.now in
    let k = c.count-k.result in
    let f : get_or s k 0 ≡ 10 = search rules in
    rw (part-is s (k + 1)) (line-is s k c.count-k.ensures.1 (omega arith) (omega arith) c.if-s-eq48.false f c.value-number.result c.value-number.ensures)
