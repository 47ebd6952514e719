-- `each` meets its contract.
use native.Mathlib.Omega.{arith}
use mathlib.Core.Path.{◌≡◌}
use borrow.Author.Rules.{rules}
use Rattle.sound_table.proofs.Frames.{singles-more}
use Rattle.sound_table.proofs.rows.each.Goals as goal

pub loop-j-init : goal.loop-j-init
loop-j-init c = c.requires.4

pub single-requires : goal.single-requires
single-requires c = (omega (arith, c.requires), c.requires.3)

pub loop-j-preserved : goal.loop-j-preserved
loop-j-preserved c =
    let l = c.loop-j in
    singles-more c.args.book.now c.args.from l.words l.j c.single.result (search rules) (omega arith) l.invariant c.single.ensures

pub returns : goal.returns
returns c =
    let l = c.loop-j in
    let e : l.j ≡ c.args.end = omega arith in
    rw e at l.invariant
