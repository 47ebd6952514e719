-- `enter` meets its contract.
use native.Mathlib.Omega.{arith}
use Rattle.sound_plan.proofs.Within.{Found, found_part}
use Rattle.sound_table.proofs.Words.{entered-taken, entered-new}
use Rattle.sound_table.proofs.Pass.enter.Goals as goal
use Rattle.sound_table.proofs.Pass.enter.Goals.{Start}

found : (c : Start) → Found c.args.self.now.plan.now.tags c.args.self.now.plan.now.bases c.args.w c.args.p
found c = found_part _ _ c.args.self.now.planned c.args.w c.args.p c.requires.0 c.requires.2

pub overflow_sub-rank : goal.overflow_sub-rank
overflow_sub-rank c = let x = found (goal.at.overflow_sub-rank c).Start in omega arith

pub overflow_add-rank : goal.overflow_add-rank
overflow_add-rank c = let x = found (goal.at.overflow_add-rank c).Start in omega arith

pub take-requires : goal.take-requires
take-requires c = let x = found (goal.at.take-requires c).Start in omega arith

pub returns-then-not-take : goal.returns-then-not-take
returns-then-not-take c =
    let n = c.take.ensures.no c.if-not-take.true in
    let p = c.args.self.now in
    entered-taken _ _ p.planned p.own p.pages c.args.notes.now.bits c.args.table.now c.args.w c.args.k c.args.p (found (goal.at.returns-then-not-take c).Start) n.0 _ _

pub returns : goal.returns
returns c =
    let y = c.take.ensures.yes c.if-not-take.false in
    let p = c.args.self.now in
    entered-new _ _ p.planned p.own p.pages c.args.notes.now.bits c.args.table.now c.args.w c.args.k c.args.p (found (goal.at.returns c).Start) y.0 _ _ y.1 c.store.ensures
