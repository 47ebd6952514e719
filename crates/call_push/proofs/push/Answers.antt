-- `push` meets its contract: the numbers come in their order, and every copy is checked before a byte is written.
use Prim.Native.Nat.{ℕ, ◌+◌}
use native.Mathlib.Omega.{arith}
use mathlib.Core.Path.{◌≡◌, refl, sym, ap, ◌∙◌}
use mathlib.Core.List.{List}
use lib.ListN.{length}
use borrow.Author.Tests.{eqb-true}
use Rattle.spec.specs.Tests.{sum}
use Rattle.spec.specs.Frames.{mem_of, store}
use Rattle.spec.specs.Exec.{args_of, push_access}
use Rattle.spec.specs.Machine.{Ask, push, Call, outcome_of, plainly, Machine, lengths_fit, weigh_push, call}
use Rattle.spec.specs.Refusals.{refusal_number}
use Rattle.spec.specs.World.{State, view, with_store, leave, Does, state_of}
use Rattle.spec.specs.declared.Answer.{Answer}
use Rattle.spec.specs.declared.Refusal.{Refusal}
use Rattle.spec.proofs.Refused.{refused-not-0}
use Rattle.exec_args.proofs.Cut.{cut-size}
use Rattle.exec_args.proofs.Size.{Passed as Argued, size_number, size-passed}
use Rattle.call_front.specs.Numbers.{plain_error}
use Rattle.call_front.proofs.FirstNumbers.{Passed, plain-none, sizes-words}
use Rattle.call_front.proofs.Answers.{plain-refused, plain-goes}
use Rattle.call_front.proofs.Living.{looked-up}
use Rattle.call_push.proofs.Answered.{push-unaligned, push-refused, push-ends, push_goes}
use Rattle.call_push.proofs.push.Goals as goal
use Rattle.call_push.proofs.push.Goals.{After-push_ok, In-Ok, In_default, Start}

module _ (s : Start) where
  abbrev state : State
  state = state_of s.args.setup s.args.frames.now s.args.book.now s.args.procs

  abbrev asked : Ask
  asked = push s.args.pc s.args.top s.args.bytes.now s.args.lengths.now

  abbrev called : Call
  called = call s.args.number asked

  abbrev machine : Machine
  machine = view state s.args.number

  abbrev arguments : List (List ℕ)
  arguments = args_of s.args.bytes.now s.args.lengths.now

-- where no number came first
module _ (c : In_default) where
  abbrev s : Start
  s = (goal.at.In_default c).Start

  first : 0 ≡ plain_error (state s) c.args.number (lengths_fit (asked s))
  first = c.in_default.ensures.value ∙ ap (plain_error (state s) c.args.number) c.lengths_fit-fits.ensures

  passed : Passed (state s) c.args.number (lengths_fit (asked s))
  passed = (plain-none (state s) c.args.number (lengths_fit (asked s)) (sym first)).0

  fit : sum c.args.lengths.now ≡ length c.args.bytes.now
  fit = eqb-true (sum c.args.lengths.now) (length c.args.bytes.now) passed.lengths

  answers : (t : State) (a : Answer) → weigh_push (machine s) c.args.pc c.args.top (arguments s) ≡ a → t ≡ leave (state s) (called s) (outcome_of a) → Does (state s) (called s) t (plainly a)
  answers t a w l = plain-goes (state s) c.args.number (asked s) refl first t (plainly a) (ap plainly w) l

-- where the arguments passed
module _ (c : In-Ok) where
  argued : Argued c.args.setup c.args.bytes.now c.args.lengths.now c.in-Ok.size
  argued = size-passed c.args.setup c.args.bytes.now c.args.lengths.now c.args_size.result c.in-Ok.size c.in-Ok.is c.args_size.ensures.number c.args_size.ensures.size

  -- the size of their strings, by their lengths
  sized : c.in-Ok.size ≡ sum c.args.lengths.now + length c.args.lengths.now
  sized = let a = c.args in omega (arith, argued.strings-size, cut-size a.bytes.now a.lengths.now argued.sums, argued.sums)

-- the check of the copies, over any frame bytes
module _ (c : After-push_ok) where
  checked : (f : List ℕ) → c.push_ok.result ≡ push_access c.args.setup (mem_of (store f c.args.book.now) c.args.number) c.args.top (arguments (goal.at.After-push_ok c).Start)
  checked f = c.push_ok.ensures f c.args.bytes.now (argued (goal.at.After-push_ok c).In-Ok).sums

pub returns-in-Err : goal.returns-in-Err
returns-in-Err c =
    let s = (goal.at.returns-in-Err c).Start in
    rw c.refused.ensures (plain-refused (state s) c.args.number (asked s) refl c.in-Err.e (c.in-Err.ensures.value ∙ ap (plain_error (state s) c.args.number) c.lengths_fit-fits.ensures))

pub returns-then-top-ne0 : goal.returns-then-top-ne0
returns-then-top-ne0 c =
    let s = (goal.at.returns-then-top-ne0 c).Start in
    rw c.refused-then-top-ne0.ensures (answers (goal.at.returns-then-top-ne0 c).In_default _ _ (push-unaligned (machine s) c.args.pc c.args.top (arguments s) c.if-top-ne0.true) refl)

pub returns-in-Err-args_size : goal.returns-in-Err-args_size
returns-in-Err-args_size c =
    let s = (goal.at.returns-in-Err-args_size c).Start in
    let d = (goal.at.returns-in-Err-args_size c).In_default in
    let e : Refusal = c.in-Err-args_size.e in
    rw c.refused-in-Err-args_size.ensures
    (answers d _ _
    (push-refused (machine s) c.args.pc c.args.top (arguments s) c.if-top-ne0.false (refusal_number e) (c.in-Err-args_size.ensures.number ∙ size_number c.args.setup c.args.bytes.now c.args.lengths.now (fit d)) (refused-not-0 e))
    refl)

pub invariant_of-pages : goal.invariant_of-pages
invariant_of-pages c =
    let d = (goal.at.invariant_of-pages c).In_default in
    let l = looked-up (state (s d)) c.args.number (lengths_fit (asked (s d))) c.plain_ready.new.lookup (passed d) c.in_default.ensures.leaves in
    record { accepted = l.0; ready = l.1; numbered = l.2 }

pub push_ok-requires : goal.push_ok-requires
push_ok-requires c = sized (goal.at.push_ok-requires c).In-Ok

pub returns-in-Err-push_ok : goal.returns-in-Err-push_ok
returns-in-Err-push_ok c =
    let s = (goal.at.returns-in-Err-push_ok c).Start in
    rw c.bad_address.ensures.says
    (answers (goal.at.returns-in-Err-push_ok c).In_default _ _
    (push-ends (machine s) c.args.pc c.args.top (arguments s) c.if-top-ne0.false _ (argued (goal.at.returns-in-Err-push_ok c).In-Ok).passed
    (sym (checked (goal.at.returns-in-Err-push_ok c).After-push_ok c.args.frames.now) ∙ c.in-Err-push_ok.is))
    (c.bad_address.ensures.ends _ _))

pub push_args-regs-requires-clause-frames_len : goal.push_args-regs-requires-clause-frames_len
push_args-regs-requires-clause-frames_len c = (sizes-words c.args.frames.now c.args.book.now (passed (goal.at.push_args-regs-requires-clause-frames_len c).In_default).sizes).0

pub push_args-regs-requires-clause-checked : goal.push_args-regs-requires-clause-checked
push_args-regs-requires-clause-checked c =
    let a = argued (goal.at.push_args-regs-requires-clause-checked c).In-Ok in
    (a.sums, a.passed, c.if-top-ne0.false, λ f. sym (checked (goal.at.push_args-regs-requires-clause-checked c).After-push_ok f) ∙ c.in_default-push_ok.is)

pub returns : goal.returns
returns c =
    let w = c.push_args-regs in
    let s = (goal.at.returns c).Start in
    answers (goal.at.returns c).In_default _ _
    (push_goes (machine s) c.args.pc c.args.top (arguments s) c.if-top-ne0.false w.result w.ensures.value (argued (goal.at.returns c).In-Ok).passed (sym (checked (goal.at.returns c).After-push_ok c.args.frames.now) ∙ c.in_default-push_ok.is))
    (ap (with_store (state s)) w.ensures.book_after)
