-- `args::lengths_fit` meets its contract. The loop's invariant: the lengths from the next on would have to sum to what is left.
use mathlib.Core.Path.{sym, ap, ◌∙◌}
use Prim.Native.Nat.{ℕ, ◌+◌}
use lib.ListN.{drop}
use Rattle.spec.specs.Tests.{◌is◌, sum}
use native.Mathlib.Omega.{arith}
use Rattle.exec_args.proofs.Scan.{sum-turn, sum_past, sum-end}
use Rattle.exec_args.proofs.args.lengths_fit.Goals as goal

pub returns-in_default : goal.returns-in_default
returns-in_default c =
    let l = c.loop-n in
    sym (l.invariant ∙ sum_past c.args.lengths.now l.n-index l.left c.loop-n-test.true (omega (arith, c.in_default.ensures)))

pub loop-n-preserved : goal.loop-n-preserved
loop-n-preserved c =
    let l = c.loop-n in
    l.invariant ∙ sum-turn c.args.lengths.now l.n-index l.left c.loop-n-test.true c.in-Some.ensures.0 ∙ ap (λ (x : ℕ). sum (drop (l.n-index + 1) c.args.lengths.now) is x) (sym c.in-Some.ensures.1)

pub returns : goal.returns
returns c =
    let l = c.loop-n in
    sym (l.invariant ∙ sum-end c.args.lengths.now l.n-index l.left c.loop-n-test.false)
