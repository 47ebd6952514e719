-- `buffer::strings_into` meets its contract. The loop's invariant: the strings from the next on, laid at their place, would complete the buffer.
use mathlib.Core.Path.{sym, ap, ap₂, ◌∙◌}
use Prim.Native.Nat.{ℕ, ◌+◌}
use native.Mathlib.Omega.{arith}
use mathlib.Core.List.{List, [], ◌∷◌, ◌++◌}
use lib.ListN.{get_or, drop}
use Rattle.spec.specs.Frames.{put}
use Rattle.spec.specs.Exec.{args_of, strings}
use Rattle.exec_args.proofs.Scan.{sum-next, sum-none}
use Rattle.exec_args.proofs.Cut.{cut-size}
use Rattle.exec_args.proofs.Lay.{strings-turn, strings-end}
use Rattle.exec_args.proofs.buffer.strings_into.Goals as goal

pub split_at-requires : goal.split_at-requires
split_at-requires c = omega (arith, sum-next c.args.lengths.now c.loop-n.n-index c.loop-n-test.true)

pub string_into-requires : goal.string_into-requires
string_into-requires c = omega (arith, c.split_at.ensures.front_len, c.split_at.ensures.back_len, sum-next c.args.lengths.now c.loop-n.n-index c.loop-n-test.true)

pub loop-n-preserved : goal.loop-n-preserved
loop-n-preserved c =
    let l = c.loop-n in
    let k = l.n-index in
    let lengths = c.args.lengths.now in
    let n = get_or lengths k 0 in
    let parts = c.split_at.ensures in
    let turn = sum-next lengths k c.loop-n-test.true in
    let later = drop (k + 1) lengths in
    let written = c.string_into.ensures ∙ ap (λ (s : List ℕ). put l.buf l.at (s ++ 0 ∷ [])) parts.front in (
      omega (arith, parts.front_len, parts.back_len),
      omega (arith, parts.front_len, parts.back_len),
      omega arith,
      l.invariant.3 ∙ strings-turn l.rest.now lengths l.buf l.at k (omega arith) (omega arith) (omega arith)
          ∙ ap₂ (λ (d r : List ℕ). put d (l.at + (n + 1)) (strings (args_of r later))) (sym written) (sym parts.back)
          ∙ ap (λ (m : ℕ). put c.string_into.new.buf (l.at + (m + 1)) (strings (args_of c.split_at.result.1.now later))) (sym parts.front_len),
    )

pub returns : goal.returns
returns c =
    let a = c.args in
    let l = c.loop-n in
    let lengths = a.lengths.now in
    record {
      buf_after = sym (l.invariant.3 ∙ strings-end l.rest.now lengths l.buf l.at l.n-index (omega arith));
      value = omega (arith, sum-none lengths l.n-index (omega arith), cut-size a.bytes.now lengths (omega arith));
    }
