-- `four_own` meets its contract.
use Prim.Native.Nat.{◌+◌}
use native.Mathlib.Omega.{arith}
use mathlib.Core.Bool.{false≢true}
use borrow.Author.Count.{below_more}
use borrow.Author.Tests.{eqb-true}
use Rattle.sound_table.specs.Rows.{Own}
use Rattle.sound_table.proofs.Frames.{four-owned}
use Rattle.sound_table.proofs.rows.four_own.Goals as goal

pub loop-j-init : goal.loop-j-init
loop-j-init c = λ i l. absurd (omega arith)

pub returns-then-not-is_own : goal.returns-then-not-is_own
returns-then-not-is_own c = λ e. absurd (false≢true e)

pub loop-j-preserved : goal.loop-j-preserved
loop-j-preserved c = below_more (λ i. Own c.args.book.now (c.args.k + i) c.args.n) c.loop-j.j c.loop-j.invariant (c.is_own.ensures c.if-not-is_own.false)

pub returns : goal.returns
returns c = λ e. four-owned c.args.book.now c.args.k c.args.n _ c.requires.1 (λ j l. c.loop-j.invariant j (omega arith)) c.four_but.ensures (eqb-true _ _ e)
