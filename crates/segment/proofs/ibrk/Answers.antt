-- `segment::ibrk` meets its contract: each `return` is the case of the rule that the tests before it lead to.
use Rattle.std.proofs.Common.{arith, ◌≡◌, sym}
use Rattle.std.proofs.lemmas.Result.{err_from_is_err_and}
use Rattle.spec.specs.Segment.{ibrk}
use Rattle.spec.specs.declared.Refusal.{Refusal}
use Rattle.segment.proofs.Cases.{zero-start, below-start, past-64, above-limit, short, moves}
use Rattle.segment.proofs.ibrk.Goals as goal

pub returns-in_err-range : goal.returns-in_err-range
unfolding ibrk
returns-in_err-range c =
    let p = err_from_is_err_and c.from_residual.result c.from_residual.ensures.1 in
    let o = c.in_err-range.ensures.ok_part in
    let e : c.in_err-range.field-0.0 ≡ Refusal.BadArg = (let v = rw o at c.in_err-range.ensures.value in cc) in
    rw (p.1, p.2, e, o)

pub returns-then-addr-eq0 : goal.returns-then-addr-eq0
returns-then-addr-eq0 c =
    rw c.in_ok-range.ensures.ok_part (sym (zero-start c.args.setup c.in_ok-range.range c.args.addr c.args.free c.if-addr-eq0.true))

pub returns-then-addr-range : goal.returns-then-addr-range
returns-then-addr-range c =
    rw c.in_ok-range.ensures.ok_part (sym (below-start c.args.setup c.in_ok-range.range c.args.addr c.args.free c.if-addr-eq0.false c.if-addr-range.true))

pub returns-in_err-newtop : goal.returns-in_err-newtop
returns-in_err-newtop c =
    let p = err_from_is_err_and c.from_residual-in_err-newtop.result c.from_residual-in_err-newtop.ensures.1 in
    let o = c.in_err-newtop.ensures.ok_part in
    let e : c.in_err-newtop.field-0.0 ≡ Refusal.NoMemory = (let v = rw o at c.in_err-newtop.ensures.value in cc) in
    let h = rw o at c.checked_page_up.ensures in
    rw (p.1, p.2, e, c.in_ok-range.ensures.ok_part) (sym (past-64 c.args.setup c.in_ok-range.range c.args.addr c.args.free c.if-addr-eq0.false c.if-addr-range.false (omega (arith, h))))

pub returns-then-newtop-limit : goal.returns-then-newtop-limit
returns-then-newtop-limit c =
    let h = rw c.in_ok-newtop.ensures.ok_part at c.checked_page_up.ensures in
    rw c.in_ok-range.ensures.ok_part (sym (above-limit c.args.setup c.in_ok-range.range c.args.addr c.args.free c.if-addr-eq0.false c.if-addr-range.false h.0 (omega arith)))

pub returns-then-div_ceil-free : goal.returns-then-div_ceil-free
returns-then-div_ceil-free c =
    let h = rw c.in_ok-newtop.ensures.ok_part at c.checked_page_up.ensures in
    let to = h.1 in
    rw c.in_ok-range.ensures.ok_part (sym (short c.args.setup c.in_ok-range.range c.args.addr c.args.free c.if-addr-eq0.false c.if-addr-range.false h.0 (omega arith) (omega arith) (omega arith)))

pub returns : goal.returns
returns c =
    let h = rw c.in_ok-newtop.ensures.ok_part at c.checked_page_up.ensures in
    let to = h.1 in
    rw (c.in_ok-range.ensures.ok_part, to) (sym (moves c.args.setup c.in_ok-range.range c.args.addr c.args.free c.if-addr-eq0.false c.if-addr-range.false h.0 (omega arith) (omega arith)))
