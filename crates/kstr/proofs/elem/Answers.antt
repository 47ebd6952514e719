-- `kstr::elem` meets its contract: what is left from the place after the last `/` on.
use mathlib.Core.Path.{◌∙◌}
use Prim.Native.Nat.{◌-◌}
use native.Mathlib.Omega.{arith}
use lib.ListN.{length, drop, length-drop}
use lib.Seq.{take_all}
use Rattle.kstr.proofs.elem.Goals as goal

pub returns : goal.returns
returns c =
    let name = c.args.name.now in
    let at = c.after_slash-at.result in
    take_all (length name - at) (drop at name) (rw (length-drop at name) (omega arith)) ∙ c.after_slash-at.ensures.1
