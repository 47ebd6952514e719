-- `kstr::floor_char_boundary` meets its contract. The loop's invariant: the place to cut at is not above `n`.
use mathlib.Core.Path.{◌≡◌, sym, ap, ◌∙◌}
use native.Mathlib.Omega.{arith}
use Rattle.spec.specs.Name.{cut}
use Rattle.kstr.proofs.Names.{cut-here, cut-less}
use Rattle.kstr.proofs.floor_char_boundary.Goals as goal

pub returns-then-not-continues : goal.returns-then-not-continues
returns-then-not-continues c =
    let s = c.args.s.now in
    let l = c.loop-n in record { value = cut-here s l.n (omega arith) (sym c.continues.ensures ∙ c.if-not-continues.true) ∙ sym l.invariant.1; upper_bound = omega arith }

pub loop-n-preserved : goal.loop-n-preserved
loop-n-preserved c =
    let s = c.args.s.now in
    let l = c.loop-n in
    (omega arith, l.invariant.1 ∙ cut-less s l.n (omega arith) (sym c.continues.ensures ∙ c.if-not-continues.false))

pub returns : goal.returns
returns c =
    let e : c.loop-n.n ≡ 0 = omega arith in record { value = sym (c.loop-n.invariant.1 ∙ ap (cut c.args.s.now) e); upper_bound = omega arith }
