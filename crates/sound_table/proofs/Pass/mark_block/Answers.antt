-- `mark_block` meets its contract.
use Prim.Native.Nat.{ℕ, ◌+◌, ◌*◌}
use native.Mathlib.Omega.{arith}
use mathlib.Core.Path.{◌≡◌, sym}
use borrow.Author.Count.{below_more}
use mathlib.Core.Bool.{false≢true}
use Rattle.sound_table.specs.Table.{Framed}
use Rattle.sound_table.proofs.Pass.mark_block.Goals as goal

start : (from : ℕ) → from ≡ from + 0
start from = omega arith

turn : (from i : ℕ) → 16 * (from + i) + 16 ≡ 16 * (from + (i + 1))
turn from i = omega arith

next : (from i : ℕ) → from + i + 1 ≡ from + (i + 1)
next from i = omega arith

pub loop-i-init : goal.loop-i-init
loop-i-init c =
    let e = start c.args.from in
    (rw e at c.requires.planned.0.0, rw e at c.requires.planned.0.1, rw e at c.requires.planned.1)

pub mark_row-requires : goal.mark_row-requires
mark_row-requires c =
    let l = c.loop-i in
    record { k_bound = (omega arith, omega arith, c.requires.count_bound.3 l.i c.loop-i-test.true); planned = (l.invariant.0, l.invariant.1) }

pub returns-then-not-mark_row : goal.returns-then-not-mark_row
returns-then-not-mark_row c = record { yes = λ e. absurd (false≢true e); no = λ e p all. c.mark_row.ensures.no c.if-not-mark_row.true p all }

pub loop-i-preserved : goal.loop-i-preserved
loop-i-preserved c =
    let l = c.loop-i in
    let y = c.mark_row.ensures.yes c.if-not-mark_row.false in
    let z = turn c.args.from l.i in
    let n = next c.args.from l.i in
    (rw z at y.0, rw z at y.1, rw n at (below_more (Framed _) (c.args.from + l.i) l.invariant.2 y.2))

pub returns : goal.returns
returns c =
    let l = c.loop-i in
    let e : l.i ≡ c.args.count = omega arith in
    record { yes = λ u. (rw e at l.invariant.0, rw e at l.invariant.1, rw e at l.invariant.2); no = λ u. absurd (false≢true (sym u)) }
