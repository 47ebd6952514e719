-- `push_args` meets its contract: arguments that pass fit a buffer, and are written from it.
use mathlib.Core.Path.{◌≡◌, refl}
use Prim.Native.Nat.{ℕ, ◌+◌, ◌*◌, ◌-◌, ◌/◌, ◌≤◌}
use native.Mathlib.Omega.{arith}
use mathlib.Core.List.{List}
use lib.ListN.{length}
use Rattle.spec.specs.Exec.{args_of, strings}
use Rattle.spec.proofs.Args.{args-means}
use Rattle.exec_args.proofs.Cut.{cut-count, cut-size}
use Rattle.exec_args.proofs.Places.{low-room}
use Rattle.call_push.proofs.Ranges.{allowed}
use Rattle.call_push.proofs.push_args.push_args.Goals as goal
use Rattle.call_push.proofs.push_args.push_args.Goals.{Start}

module _ (s : Start) where
  abbrev args : List (List ℕ)
  args = args_of s.args.bytes.now s.args.lengths.now

  count : length args ≡ length s.args.lengths.now
  count = cut-count s.args.bytes.now s.args.lengths.now

  -- there is room above address 0
  room : 8 * (length args + 1) ≤ (s.args.top - length (strings args)) / 8 * 8
  room = low-room s.args.top (length (strings args)) (length args) (allowed s.args.pages.now.setup _ s.args.top _ _ args refl refl s.requires.checked.2 (s.requires.checked.3 s.args.frames.now)).above_zero

pub args_into-size-requires : goal.args_into-size-requires
args_into-size-requires c =
    let s = (goal.at.args_into-size-requires c).Start in
    let n = cut-size c.args.bytes.now c.args.lengths.now c.requires.checked.0 in
    let m = (args-means c.args.pages.now.setup (args s) c.requires.checked.1).1 in
    (c.requires.checked.0, omega (arith, n, count s, m, c.args.pages.now.accepted), omega (arith, n, room s))

pub write_args-requires-clause-by_index : goal.write_args-requires-clause-by_index
write_args-requires-clause-by_index c =
    let s = (goal.at.write_args-requires-clause-by_index c).Start in
    (args s, c.args_into-size.ensures, count s, c.requires.checked.2, c.requires.checked.3)

pub returns : goal.returns
returns c =
    let s = (goal.at.returns c).Start in
    let p = c.write_args.ensures (args s) c.args_into-size.ensures (count s) in record { book_after = p.0; value = p.1 }
