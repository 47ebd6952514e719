-- `four` meets its contract.
use borrow.Author.Rules.{rules}
use Rattle.sound_table.proofs.Frames.{set_own, set_free}
use Rattle.sound_table.proofs.rows.four.Goals as goal

pub returns-then-four_own : goal.returns-then-four_own
returns-then-four_own c =
    (c.requires.2, set_own c.args.book.now c.args.from c.args.words.now _ c.args.i (search rules) c.requires.0 c.requires.4 c.args.last (c.four_own.ensures c.if-four_own.true) c.put_four.ensures)

pub returns-then-or_of-eq0 : goal.returns-then-or_of-eq0
returns-then-or_of-eq0 c =
    (c.requires.2, set_free c.args.book.now c.args.from c.args.words.now _ c.args.i (search rules) c.requires.0 c.requires.4 _ c.or_of.ensures c.if-or_of-eq0.true c.put_four-then-or_of-eq0.ensures)
