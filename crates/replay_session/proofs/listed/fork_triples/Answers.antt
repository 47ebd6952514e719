-- `fork_triples` meets its contract: fewer than 17 segments are the whole list, and what stands behind 17 makes no difference.
-- Assumes nothing.
use mathlib.Core.Path.{subst}
use mathlib.Core.List.{List}
use Prim.Native.Nat.{◌*◌}
use native.Mathlib.Omega.{arith}
use lib.Dec.{ltb}
use lib.ListN.{take, drop}
use lib.Seq.{length-take-le}
use borrow.Author.Tests.{ltb-true, ltb-false}
use Rattle.spec.specs.Machine.{fork, plainly, call}
use Rattle.spec.specs.World.{State, Does, state_of}
use Rattle.spec.specs.declared.UserSegment.{UserSegment}
use Rattle.spec.proofs.Bools.{split}
use Rattle.spec_laws.proofs.Record.{Whole}
use Rattle.sound_records.proofs.Whole.{whole-procs}
use Rattle.replay_session.specs.Triples.{list_of}
use Rattle.replay_session.proofs.Filled.{whole}
use Rattle.replay_session.proofs.Longer.{longer}
use Rattle.replay_session.proofs.listed.fork_triples.Goals as goal
use Rattle.replay_session.proofs.listed.fork_triples.Goals.{Start}

module _ (c : Start) where
  abbrev state : State
  state = state_of c.args.setup c.args.frames.now c.args.book.now c.args.procs

  records-whole : Whole c.args.procs
  records-whole = let g = c.well_formed.1.1.1.0.1.1.0 in whole-procs c.args.procs g.0 g.1.1 g.1.0.1

pub returns : goal.returns
returns c =
    let n = c.count-n in
    let l = c.segments-list in
    let d = c.fork_list in
    let a = c.args in
    let after = state_of a.setup d.new.frames d.new.book d.result.procs in
    let Forks : List UserSegment → Type 0 = λ gs. Does (state (goal.at.returns c).Start) (call a.number (fork a.child gs)) after (plainly d.result.answer) in
    split (ltb n.result 17)
    (λ q. subst Forks (whole a.triples.now n.result (take n.result l.result) (n.ensures.2 (ltb-true n.result 17 q)) l.ensures.1) d.ensures)
    (λ q.
    let e = length-take-le n.result l.result (omega (arith, n.ensures.0, l.ensures.0)) in
    subst Forks l.ensures.1 (longer (state (goal.at.returns c).Start) a.number a.child (take n.result l.result) (list_of (drop (3 * n.result) a.triples.now)) (records-whole (goal.at.returns c).Start) (omega (arith, e, n.ensures.0, ltb-false n.result 17 q)) {t = after} d.ensures))
