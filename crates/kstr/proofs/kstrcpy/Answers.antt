-- `kstr::kstrcpy` meets its contract: what stands over zeros after one put, and after two.
use mathlib.Core.Path.{refl, sym}
use native.Mathlib.Omega.{arith}
use lib.ListN.{length-take}
use lib.Seq.{length-take-le}
use Rattle.kstr.proofs.Names.{copied-whole, copied-cut}
use Rattle.kstr.proofs.kstrcpy.Goals as goal

pub returns-then-src-lt-NAME_SIZE : goal.returns-then-src-lt-NAME_SIZE
returns-then-src-lt-NAME_SIZE c = copied-whole c.args.src.now _ (omega arith) c.put.ensures.dst_after

pub slice_bounds-put-end : goal.slice_bounds-put-end
slice_bounds-put-end c = sym (length-take-le _ _ (omega arith))

pub put-requires-2 : goal.put-requires-2
put-requires-2 c = (refl, simp length-take (omega arith))

pub put-requires-3 : goal.put-requires-3
put-requires-3 c = (c.put-2.ensures.dst_len, omega arith)

pub returns : goal.returns
returns c =
    let start = c in
    copied-cut start.args.src.now _ _ c.floor_char_boundary-n.result
    (omega arith) (omega arith)
    c.floor_char_boundary-n.ensures.value
    c.put-2.ensures.dst_after
    c.put-3.ensures.dst_after
