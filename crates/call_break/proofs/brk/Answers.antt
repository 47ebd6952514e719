-- `brk` meets its contract: `ibrk`'s rule over the process's bss and the free frames decides, and what it allows is done.
use native.Mathlib.Omega.{arith}
use mathlib.Core.Path.{◌≡◌, refl, sym, ap, ◌∙◌}
use mathlib.Core.Bool.{true}
use Rattle.std.specs.Prelude.{Some, Ok, Err}
use Rattle.spec.specs.Numbers.{page_up}
use Rattle.spec.specs.Book.{free}
use Rattle.spec.specs.Segment.{Break, ibrk}
use Rattle.spec.specs.Machine.{break, outcome_of, plainly, weigh_break, call}
use Rattle.spec.specs.World.{State, taken, view, brk, leave, Does, state_of}
use Rattle.spec.specs.declared.Proc.{Proc}
use Rattle.spec.specs.declared.Answer.{Answer}
use Rattle.spec.proofs.Refused.{refused-not-0}
use Rattle.spec.proofs.Setups.{setup-means}
use Rattle.spec_laws.proofs.Record.{Whole}
use Rattle.spec_history.proofs.Accepted.{Moves, ibrk-moves}
use Rattle.sound_records.proofs.Whole.{whole-procs}
use Rattle.segment.specs.Rule.{break_of}
use Rattle.call_front.proofs.FirstNumbers.{Passed, plain-none, sizes-words}
use Rattle.call_front.proofs.Answers.{plain-refused, plain-goes}
use Rattle.call_front.proofs.Living.{living-shape}
use Rattle.call_break.proofs.Moved.{break-rule, break-refused, break-accepted, break-ends, breaks-nothing, breaks-moved}
use Rattle.call_break.proofs.brk.Goals as goal
use Rattle.call_break.proofs.brk.Goals.{After-ibrk, In-Ok, Else-addr-eq0, In_default, Start}

whole : (c : Start) → Whole c.args.procs
whole c = let g = c.well_formed.1.1.1.0.1.1.0 in whole-procs c.args.procs g.0 g.1.1 g.1.0.1

-- where no number came first
module _ (c : In_default) where
  abbrev state : State
  state = state_of c.args.setup c.args.frames.now c.args.book.now c.args.procs

  passed : Passed state c.args.number true × (taken state c.args.number ≡ true)
  passed = plain-none state c.args.number true (sym c.in_default.ensures.value)

-- where the rule has answered
module _ (c : After-ibrk) where
  abbrev before : State
  before = state (goal.at.After-ibrk c).In_default

  rule : break_of (Some c.proc_at.result.bss) c.ibrk.result ≡ ibrk c.args.setup (Some (view before c.args.number).bss) c.args.addr (free c.args.book.now)
  rule = break-rule c.args.setup _ _ _ _ _ _ c.ibrk.ensures (ap (λ (p : Proc). p.bss) c.proc_at.ensures) c.free_count-free.ensures

  -- an answer of the rule is the call's
  answers : (t : State) (a : Answer) → weigh_break (ibrk c.args.setup (Some (view before c.args.number).bss) c.args.addr (free c.args.book.now)) ≡ a
      → t ≡ leave before (call c.args.number (break c.args.addr)) (outcome_of a) → Does before (call c.args.number (break c.args.addr)) t (plainly a)
  answers t a w l = plain-goes _ _ (break c.args.addr) refl c.in_default.ensures.value t (plainly a) (ap plainly w) l

-- where it allows the break
module _ (c : In-Ok) where
  allows : break_of (Some c.proc_at.result.bss) (Ok c.in-Ok.moved) ≡ ibrk c.args.setup (Some (view (before (goal.at.In-Ok c).After-ibrk) c.args.number).bss) c.args.addr (free c.args.book.now)
  allows = rw c.in-Ok.is at (rule (goal.at.In-Ok c).After-ibrk)

-- and lets the end move
module _ (c : Else-addr-eq0) where
  moves : Moves c.args.setup (view (before (goal.at.Else-addr-eq0 c).After-ibrk) c.args.number).bss c.args.addr (free c.args.book.now)
  moves = ibrk-moves _ _ _ _ (sym (ap (λ (b : Break). b.error) (allows (goal.at.Else-addr-eq0 c).In-Ok))) c.if-addr-eq0.false

  end : c.in-Ok.moved.bss.end ≡ page_up c.args.addr
  end = break-ends _ _ _ _ _ _ (allows (goal.at.Else-addr-eq0 c).In-Ok) c.if-addr-eq0.false moves (omega (arith, moves.low, setup-means c.args.setup (passed (goal.at.Else-addr-eq0 c).In_default).0.setup))

pub returns-in-Err : goal.returns-in-Err
returns-in-Err c = rw c.refused.ensures (plain-refused _ _ (break c.args.addr) refl c.in-Err.e c.in-Err.ensures.value)

pub proc_at-requires : goal.proc_at-requires
proc_at-requires c = (passed (goal.at.proc_at-requires c).In_default).0.number

pub returns-in-Err-ibrk : goal.returns-in-Err-ibrk
returns-in-Err-ibrk c =
    let a = (goal.at.returns-in-Err-ibrk c).After-ibrk in
    rw c.refused-in-Err-ibrk.ensures (answers a _ _ (break-refused (break_of (Some c.proc_at.result.bss) (Err c.in-Err-ibrk.e)) _ (rw c.in-Err-ibrk.is at (rule a)) (refused-not-0 c.in-Err-ibrk.e)) refl)

pub returns-then-addr-eq0 : goal.returns-then-addr-eq0
returns-then-addr-eq0 c =
    let q = goal.at.returns-then-addr-eq0 c in
    answers q.After-ibrk _ _ (break-accepted _ _ (allows q.In-Ok) refl) (breaks-nothing (before q.After-ibrk) c.args.number _ c.if-addr-eq0.true)

pub move_break-procs-requires : goal.move_break-procs-requires
move_break-procs-requires c =
    let q = goal.at.move_break-procs-requires c in
    let m = moves q.Else-addr-eq0 in
    let p = passed q.In_default in
    let shape = (living-shape (state q.In_default) c.args.number true (whole q.Start) p.0 p.1).1 in
    record { frames_len = ((sizes-words c.args.frames.now c.args.book.now p.0.sizes).0, p.0.number); number_value = (shape.bss-end.0, rw (end q.Else-addr-eq0) (omega arith), rw (end q.Else-addr-eq0) (omega (arith, m.low, setup-means c.args.setup p.0.setup))) }

pub returns : goal.returns
returns c =
    let q = goal.at.returns c in
    answers q.After-ibrk _ _ (break-accepted _ _ (allows q.In-Ok) refl)
    (breaks-moved (before q.After-ibrk) _ c.args.number _ c.if-addr-eq0.false (c.move_break-procs.ensures _ ∙ ap (brk (before q.After-ibrk) c.args.number _) (end q.Else-addr-eq0)))
