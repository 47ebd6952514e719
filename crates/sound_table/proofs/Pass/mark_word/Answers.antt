-- `mark_word` meets its contract.
use Rattle.sound_table.proofs.Words.{entered-far}
use Rattle.sound_table.proofs.Pass.mark_word.Goals as goal

pub returns-in-None : goal.returns-in-None
returns-in-None c =
    let p = c.args.self.now in
    entered-far _ _ p.planned p.own p.pages c.args.notes.now.bits c.args.table.now c.args.w c.args.k _ _ _ _ _ c.in-None.ensures c.mark_far.ensures
