-- `nul::blocks` meets its contract. The loop's invariant: none of the first `k` bytes is a NUL.
use native.Mathlib.Omega.{arith}
use mathlib.Core.Path.{sym, ◌∙◌}
use Rattle.spec.proofs.Bools.{not-true}
use Rattle.kstr.proofs.Plain.{none-block}
use Rattle.kstr.proofs.nul.blocks.Goals as goal

pub returns-then-not-no_nul : goal.returns-then-not-no_nul
returns-then-not-no_nul c = c.loop-k.invariant

pub loop-k-preserved : goal.loop-k-preserved
loop-k-preserved c =
    let l = c.loop-k in
    let s = c.args.s.now in
    (omega arith, none-block s l.k 64 l.invariant.1 (not-true _ (sym c.no_nul.ensures ∙ c.if-not-no_nul.false)))

pub returns : goal.returns
returns c = c.loop-k.invariant
