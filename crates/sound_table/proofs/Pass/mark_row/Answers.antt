-- `mark_row` meets its contract.
use native.Mathlib.Omega.{arith}
use Rattle.sound_table.proofs.RowPass.{pass-none, pass-one}
use Rattle.sound_table.proofs.Words.{entered-far}
use Rattle.sound_table.proofs.Pass.mark_row.Goals as goal

pub returns-then-w-eq1 : goal.returns-then-w-eq1
returns-then-w-eq1 c =
    let p = c.args.self.now in
    pass-none p.book.now p.plan.now.tags p.plan.now.bases p.own p.pages c.args.notes.now.bits c.args.table.now c.args.k p.planned c.requires.planned.0 c.requires.planned.1 (c.requires.k_bound.2.free c.if-w-eq1.true)

pub mark_near-requires : goal.mark_near-requires
mark_near-requires c =
    let o = c.requires.k_bound.2.only (omega arith) in
    (c.requires.k_bound.0, omega (arith, o.owner, o.low))

pub mark_far-requires : goal.mark_far-requires
mark_far-requires c =
    let o = c.requires.k_bound.2.only (omega arith) in
    (c.requires.k_bound.0, omega (arith, o.owner, o.low))

pub returns-in-Some : goal.returns-in-Some
returns-in-Some c =
    let p = c.args.self.now in
    pass-one p.book.now p.plan.now.tags p.plan.now.bases p.own p.pages c.args.notes.now.bits c.args.table.now c.args.k p.planned c.requires.planned.0 c.requires.planned.1 c.args.w (c.requires.k_bound.2.only (omega arith)) c.requires.k_bound.1 _ _ _ c.in-Some.ensures

pub returns-in-None : goal.returns-in-None
returns-in-None c =
    let p = c.args.self.now in
    let e = entered-far _ _ p.planned p.own p.pages c.args.notes.now.bits c.args.table.now c.args.w c.args.k _ _ _ _ _ c.in-None.ensures c.mark_far.ensures in
    pass-one p.book.now p.plan.now.tags p.plan.now.bases p.own p.pages c.args.notes.now.bits c.args.table.now c.args.k p.planned c.requires.planned.0 c.requires.planned.1 c.args.w (c.requires.k_bound.2.only (omega arith)) c.requires.k_bound.1 _ _ _ e
