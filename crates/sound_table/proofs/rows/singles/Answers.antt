-- `singles` meets its contract.
use native.Mathlib.Omega.{arith}
use Rattle.sound_table.proofs.rows.singles.Goals as goal

pub loop-i-init : goal.loop-i-init
loop-i-init c = (omega arith, c.requires.2, λ j l. absurd (omega arith), c.others-masks.ensures)

pub four-last-requires : goal.four-last-requires
four-last-requires c = let l = c.loop-i in (omega arith, omega arith, l.invariant.1, l.invariant.3, l.invariant.2)

pub loop-i-preserved : goal.loop-i-preserved
loop-i-preserved c = let l = c.loop-i in (omega arith, c.four-last.ensures.0, c.four-last.ensures.1, l.invariant.3)

pub each-requires : goal.each-requires
each-requires c = let l = c.loop-i in (omega arith, omega arith, omega arith, l.invariant.3, l.invariant.2)

pub returns : goal.returns
returns c = (c.loop-i.invariant.1, c.each.ensures)
