-- `nul::to_nul` meets its contract. The loop's invariant: none of the first `i` bytes is a NUL.
use native.Mathlib.Omega.{arith}
use Rattle.kstr.proofs.BeforeNul.{nul-here, nul-next, nul-end}
use Rattle.kstr.proofs.Plain.{nul-behind}
use Rattle.kstr.proofs.nul.to_nul.Goals as goal

pub loop-i-init : goal.loop-i-init
loop-i-init c = let k = c.blocks-i in (k.ensures.0, nul-behind _ k.result k.ensures.0 k.ensures.1)

pub returns-then-s-i-eq0 : goal.returns-then-s-i-eq0
returns-then-s-i-eq0 c =
    let l = c.loop-i in
    let s = c.args.s.now in
    omega (arith, l.invariant.1, nul-here s l.i (omega arith) c.if-s-i-eq0.true)

pub loop-i-preserved : goal.loop-i-preserved
loop-i-preserved c =
    let l = c.loop-i in
    let s = c.args.s.now in
    (omega arith, omega (arith, l.invariant.1, nul-next s l.i (omega arith) c.if-s-i-eq0.false))

pub returns : goal.returns
returns c =
    let l = c.loop-i in
    let s = c.args.s.now in
    omega (arith, l.invariant.1, nul-end s l.i (omega arith))
