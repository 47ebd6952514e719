-- `args::lengths_fit` meets its contract. The loop's invariant: the lengths from the next on would have to sum to what is left.
use mathlib.Core.Path.{◌≡◌}
use lib.ListN.{length, drop}
use Rattle.spec.specs.Tests.{◌is◌, sum}
use Rattle.exec_args.proofs.args.lengths_fit.Given as goal

abbrev pub invariant-loop-n : goal.invariant-loop-n
invariant-loop-n l = (sum l.lengths is length l.bytes) ≡ (sum (drop l.n-index l.lengths) is l.left)
