-- `nul::no_nul` meets its contract: `ok` says it of the first `i` bytes.
use Prim.Native.Nat.{ℕ}
use native.Mathlib.Omega.{arith}
use mathlib.Core.Path.{ap, ◌∙◌}
use mathlib.Core.Bool.{not}
use mathlib.Core.List.{List}
use lib.Seq.{take_all}
use Rattle.spec.specs.Tests.{has}
use Rattle.kstr.proofs.Plain.{none-next}
use Rattle.kstr.proofs.nul.no_nul.Goals as goal

pub loop-i-preserved : goal.loop-i-preserved
loop-i-preserved c =
    let l = c.loop-i in
    (omega arith, rw l.invariant.1 (none-next c.args.s.now l.i (omega arith)))

pub returns : goal.returns
returns c =
    let s = c.args.s.now in
    c.loop-i.invariant.1 ∙ ap (λ (l : List ℕ). not (has 0 l)) (take_all c.loop-i.i s (omega arith))
