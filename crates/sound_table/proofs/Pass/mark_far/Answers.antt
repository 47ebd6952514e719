-- `mark_far` meets its contract.
use Rattle.sound_table.proofs.Words.{entered-none}
use Rattle.sound_table.proofs.Pass.mark_far.Goals as goal

pub returns-in_default : goal.returns-in_default
returns-in_default c =
    let p = c.args.self.now in
    entered-none _ _ p.planned p.own p.pages c.args.notes.now.bits c.args.table.now c.args.w c.args.k c.in_default.ensures

pub enter-requires : goal.enter-requires
enter-requires c = (c.in-Some.ensures.0, c.requires.0, c.in-Some.ensures.1)
