-- `single` meets its contract.
use native.Mathlib.Omega.{arith}
use Rattle.sound_table.proofs.Frames.{single-none, single-free, single-only, only-own}
use Rattle.sound_table.proofs.rows.single.Goals as goal

pub returns-then-or_of-eq0 : goal.returns-then-or_of-eq0
returns-then-or_of-eq0 c = single-free _ _ (record { count = c.if-count-eq0.true; places = c.or_of.ensures c.if-or_of-eq0.true })

pub returns-then-count-eq0 : goal.returns-then-count-eq0
returns-then-count-eq0 c = single-none _ _

pub returns-then-count-ne1 : goal.returns-then-count-ne1
returns-then-count-ne1 c = single-none _ _

pub returns-in_default : goal.returns-in_default
returns-in_default c = single-none _ _

pub returns-then-not-is_own : goal.returns-then-not-is_own
returns-then-not-is_own c = single-none _ _

pub returns-then-row_but-ne0 : goal.returns-then-row_but-ne0
returns-then-row_but-ne0 c = single-none _ _

pub returns : goal.returns
returns c =
    single-only _ c.args.k _ (only-own c.args.book.now c.args.k c.in-Some.n (omega (arith, c.in-Some.ensures)) (c.is_own.ensures c.if-not-is_own.false) (c.row_but.ensures c.if-row_but-ne0.false))
