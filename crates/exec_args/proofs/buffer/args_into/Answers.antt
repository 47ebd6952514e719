-- `buffer::args_into` meets its contract: strings, then pointers in a lent part behind them.
use mathlib.Core.Path.{◌≡◌, sym, ap, ◌∙◌}
use Prim.Native.Nat.{ℕ, ◌+◌, ◌-◌, ◌*◌}
use native.Mathlib.Omega.{arith}
use mathlib.Core.List.{List}
use lib.ListN.{length}
use borrow.Rule.Slice.PartMut.{mid_len, same_len_mid}
use Rattle.spec.specs.Exec.{args_of}
use Rattle.spec.proofs.Args.{length-pointers}
use Rattle.exec_args.proofs.Cut.{cut-count, cut-size, cut-pointers}
use Rattle.exec_args.proofs.Places.{put-begins}
use Rattle.exec_args.proofs.Behind.{laid-part}
use Rattle.exec_args.proofs.buffer.args_into.Goals as goal
use Rattle.exec_args.proofs.buffer.args_into.Goals.{After-strings_into-size}

-- how long the strings are
module _ (c : After-strings_into-size) where
  abbrev args : List (List ℕ)
  args = args_of c.args.bytes.now c.args.lengths.now

  size : c.strings_into-size.result ≡ length c.args.bytes.now + length c.args.lengths.now
  size = c.strings_into-size.ensures.value ∙ cut-size c.args.bytes.now c.args.lengths.now c.requires.0

pub slice_bounds-pointers_into-count : goal.slice_bounds-pointers_into-count
slice_bounds-pointers_into-count c = omega (arith, size (goal.at.slice_bounds-pointers_into-count c).After-strings_into-size)

pub slice_bounds-pointers_into-start : goal.slice_bounds-pointers_into-start
slice_bounds-pointers_into-start c = omega (arith, size (goal.at.slice_bounds-pointers_into-start c).After-strings_into-size)

pub overflow_sub-top : goal.overflow_sub-top
overflow_sub-top c = omega (arith, size (goal.at.overflow_sub-top c).After-strings_into-size)

pub pointers_into-requires : goal.pointers_into-requires
pointers_into-requires c =
    let b = c.strings_into-size.new.buf in
    (omega (arith, size (goal.at.pointers_into-requires c).After-strings_into-size, mid_len c.strings_into-size.result (length b) b (omega arith)), omega (arith, size (goal.at.pointers_into-requires c).After-strings_into-size, c.requires.0))

pub returns : goal.returns
returns c =
    let r = c.strings_into-size in
    let p = c.pointers_into in
    let a = c.args in
    let b = r.new.buf in
    let first = a.top - r.result in
    let n = cut-count a.bytes.now a.lengths.now in
    let cut = cut-pointers first a.bytes.now a.lengths.now c.requires.0 in
    let m = mid_len r.result (length b) b (omega arith) in
    laid-part a.top (args (goal.at.returns c).After-strings_into-size) r.result r.ensures.value b p.new.buf (length b - r.result)
    (rw (same_len_mid r.result (length b - r.result) b p.new.buf p.auto.buf) (omega (arith, n, size (goal.at.returns c).After-strings_into-size))) (omega (arith, size (goal.at.returns c).After-strings_into-size)) (put-begins _ _ b r.result r.ensures.buf_after r.ensures.value)
    (omega (arith, n, size (goal.at.returns c).After-strings_into-size, m, p.auto.buf)) (put-begins _ _ p.new.buf (8 * (length (args (goal.at.returns c).After-strings_into-size) + 1)) p.ensures (sym (sym (ap length cut) ∙ length-pointers (args (goal.at.returns c).After-strings_into-size) first)) ∙ sym cut)
