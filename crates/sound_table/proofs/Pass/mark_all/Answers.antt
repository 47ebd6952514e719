-- `mark_all` meets its contract.
use Prim.Native.Nat.{ℕ, ◌/◌, ◌≤◌}
use native.Mathlib.Omega.{arith}
use mathlib.Core.Path.{◌≡◌, refl, sym}
use mathlib.Core.Bool.{false≢true}
use Rattle.spec.specs.Book.{frame_count}
use Rattle.sound_table.proofs.Places.{planned-none}
use Rattle.sound_table.proofs.Pass.mark_all.Goals as goal

frames-few : (n : ℕ) → n ≤ 17408 → n / 17 ≤ 1024
frames-few n h = omega arith

pub loop-k-init : goal.loop-k-init
loop-k-init c =
    let p = c.args.self.now in
    (omega arith, refl, planned-none p.book.now p.plan.now.tags p.plan.now.bases, c.requires.1, λ k l. absurd (omega arith), omega arith)

pub singles-last-requires : goal.singles-last-requires
singles-last-requires c = (omega arith, omega arith, c.loop-k.invariant.5)

pub mark_block-requires : goal.mark_block-requires
mark_block-requires c =
    let l = c.loop-k in
    let f = frames-few _ c.requires.0 in
    record { count_bound = (omega arith, omega arith, omega arith, c.singles-last.ensures.1); planned = ((l.invariant.2, l.invariant.3), l.invariant.4) }

pub returns-then-not-mark_block : goal.returns-then-not-mark_block
returns-then-not-mark_block c = record { yes = λ e. absurd (false≢true e); no = λ e p all. c.mark_block.ensures.no c.if-not-mark_block.true p all }

pub loop-k-preserved : goal.loop-k-preserved
loop-k-preserved c =
    let y = c.mark_block.ensures.yes c.if-not-mark_block.false in
    (omega arith, refl, y.0, y.1, y.2, c.singles-last.ensures.0)

pub returns : goal.returns
returns c =
    let l = c.loop-k in
    let e : l.k ≡ frame_count c.args.self.now.book.now = omega arith in
    record { yes = λ u. (rw e at l.invariant.2, rw e at l.invariant.3, rw e at l.invariant.4); no = λ u. absurd (false≢true (sym u)) }
