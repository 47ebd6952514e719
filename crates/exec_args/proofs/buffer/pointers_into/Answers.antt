-- `buffer::pointers_into` meets its contract. The loop's invariant: the pointers from the next on, laid at their place, would complete the buffer.
use mathlib.Core.Path.{sym, ap, ◌∙◌}
use Prim.Native.Nat.{ℕ, ◌+◌, ◌*◌}
use native.Mathlib.Omega.{arith}
use mathlib.Core.List.{List}
use lib.ListN.{get_or, drop}
use Rattle.spec.specs.Numbers.{le_bytes}
use Rattle.spec.specs.Frames.{put}
use Rattle.exec_args.specs.Sizes.{pointers_by}
use Rattle.exec_args.proofs.Scan.{sum-next}
use Rattle.exec_args.proofs.Lay.{pointers-turn, pointers-end}
use Rattle.exec_args.proofs.buffer.pointers_into.Goals as goal

pub loop-n-preserved : goal.loop-n-preserved
loop-n-preserved c =
    let l = c.loop-n in
    let k = l.n-index in
    let lengths = c.args.lengths.now in
    let turn = sum-next lengths k c.loop-n-test.true in
    let written = c.pointer_into.ensures ∙ ap (λ (a : ℕ). put l.buf a (le_bytes 8 l.s)) l.invariant.0 in (
      omega arith,
      omega arith,
      omega arith,
      l.invariant.3 ∙ pointers-turn lengths l.buf l.s k (omega arith) (omega arith) ∙ ap (λ (d : List ℕ). put d (8 * (k + 1)) (pointers_by (l.s + (get_or lengths k 0 + 1)) (drop (k + 1) lengths))) (sym written),
    )

pub returns : goal.returns
returns c =
    let l = c.loop-n in
    c.pointer_into-2.ensures ∙ ap (λ (a : ℕ). put l.buf a (le_bytes 8 0)) l.invariant.0 ∙ sym (l.invariant.3 ∙ pointers-end c.args.lengths.now l.buf l.s (8 * l.n-index) l.n-index (omega arith))
