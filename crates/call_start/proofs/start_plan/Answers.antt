-- `start_plan` meets its contract: each number is looked up where the ones before it are none.
use native.Mathlib.Omega.{arith}
use mathlib.Core.Path.{◌≡◌, refl, sym, ap, ◌∙◌}
use Prim.Native.Nat.{ℕ}
use lib.ListN.{length}
use borrow.Author.Rules.{rules}
use borrow.Author.Tests.{eqb-true, lt-ltb, le-ltb}
use Rattle.spec.specs.Tests.{◌is◌, ◌⇒◌else◌, sum}
use Rattle.spec.specs.Book.{free, page_count}
use Rattle.spec.specs.Exec.{args_of, args_error, image_error, start_pieces}
use Rattle.spec.specs.Image.{program_of}
use Rattle.spec.specs.Program.{Program}
use Rattle.spec.specs.Refusals.{refusal_number, number_of}
use Rattle.spec.specs.World.{State, state_of}
use Rattle.spec.specs.declared.Setup.{Setup}
use Rattle.spec.proofs.Refused.{refused-not-0}
use Rattle.spec.proofs.Setups.{setup-means}
use Rattle.exec_args.proofs.Size.{size_number}
use Rattle.image.specs.Images.{program}
use Rattle.exec.specs.Plan.{refusal_of}
use Rattle.call_start.specs.Numbers.{start_number}
use Rattle.exec.proofs.Planned.{same-program}
use Rattle.call_front.specs.Numbers.{begin_error}
use Rattle.call_front.proofs.FirstNumbers.{Passed, begin-none}
use Rattle.call_start.proofs.Weighing.{begins, short, begins-given, argued-given, imaged-given, frames-given}
use Rattle.call_start.proofs.start_plan.Goals as goal
use Rattle.call_start.proofs.start_plan.Goals.{After-begin_ready, In_ok-begin_ready, In_ok-args_size, In_ok-plan}

abbrev state : After-begin_ready → State
state c = state_of c.args.setup c.args.frames.now c.args.book.now c.args.procs.now

first : (c : After-begin_ready) → number_of c.begin_ready.result ≡ begins (state c) c.args.number c.args.form c.args.image.now c.args.bytes.now c.args.lengths.now
first c = c.begin_ready.ensures.value ∙ ap (begin_error (state c) c.args.number) c.lengths_fit-fits.ensures

-- where no number came first
module _ (c : In_ok-begin_ready) where
  abbrev at-first : After-begin_ready
  at-first = (goal.at.In_ok-begin_ready c).After-begin_ready

  none : 0 ≡ begins (state at-first) c.args.number c.args.form c.args.image.now c.args.bytes.now c.args.lengths.now
  none = let z : number_of c.begin_ready.result ≡ 0 = search rules in sym z ∙ first at-first

  passed : Passed (state at-first) c.args.number (sum c.args.lengths.now is length c.args.bytes.now)
  passed = (begin-none (state at-first) c.args.number (sum c.args.lengths.now is length c.args.bytes.now) (sym none)).0

  sums : sum c.args.lengths.now ≡ length c.args.bytes.now
  sums = eqb-true _ _ passed.lengths

-- where the arguments pass
module _ (c : In_ok-args_size) where
  abbrev at-args : In_ok-begin_ready
  at-args = (goal.at.In_ok-args_size c).In_ok-begin_ready

  argued : 0 ≡ args_error c.args.setup (args_of c.args.bytes.now c.args.lengths.now)
  argued = c.in_ok-args_size.ensures.number ∙ size_number c.args.setup c.args.bytes.now c.args.lengths.now (sums at-args)

-- where the image is accepted
module _ (c : In_ok-plan) where
  abbrev at-plan : In_ok-args_size
  at-plan = (goal.at.In_ok-plan c).In_ok-args_size

  pages : c.in_ok-plan.plan.pages ≡ page_count (start_pieces c.args.setup (program_of c.args.setup c.args.form c.args.image.now))
  pages =
      let same = c.in_ok-plan.ensures.holds in
      c.in_ok-plan.plan.taken ∙ ap (λ (u : Setup). page_count (start_pieces u (program c.in_ok-plan.plan.image))) same.setup-same ∙ ap (λ (p : Program). page_count (start_pieces c.args.setup p)) (same-program c.in_ok-plan.plan.image c.args.setup c.args.form c.args.image.now same)

  weighed : (e : ℕ) → e ≡ (short (state (at-first (at-args at-plan))) c.args.number c.args.form c.args.image.now c.args.bytes.now c.args.lengths.now ⇒ 33 else 0)
      → e ≡ start_number (state (at-first (at-args at-plan))) c.args.number c.args.form c.args.image.now c.args.bytes.now c.args.lengths.now
  weighed = frames-given (state (at-first (at-args at-plan))) c.args.number c.args.form c.args.image.now c.args.bytes.now c.args.lengths.now (none (at-args at-plan)) (argued at-plan) c.in_ok-plan.ensures.number

pub returns-in_err-begin_ready-clause-value : goal.returns-in_err-begin_ready-clause-value
returns-in_err-begin_ready-clause-value c =
    let d = (goal.at.returns-in_err-begin_ready-clause-value c).After-begin_ready in
    let e = c.in_err-begin_ready in
    let told : number_of c.from_residual.result ≡ refusal_number e.field-0.0 = search rules in
    let was : number_of c.begin_ready.result ≡ refusal_number e.field-0.0 = search rules in
    begins-given (state d) c.args.number c.args.form c.args.image.now c.args.bytes.now c.args.lengths.now _ (told ∙ sym was ∙ first d) (λ z. refused-not-0 e.field-0.0 (sym told ∙ z))

pub returns-in_err-args_size-clause-value : goal.returns-in_err-args_size-clause-value
returns-in_err-args_size-clause-value c =
    let d = (goal.at.returns-in_err-args_size-clause-value c).In_ok-begin_ready in
    let e = c.in_err-args_size in
    let told : number_of c.from_residual-in_err-args_size.result ≡ refusal_number e.field-0.0 = search rules in
    argued-given (state (at-first d)) c.args.number c.args.form c.args.image.now c.args.bytes.now c.args.lengths.now (none d) _
    (told ∙ e.ensures.number ∙ size_number c.args.setup c.args.bytes.now c.args.lengths.now (sums d)) (λ z. refused-not-0 e.field-0.0 (sym told ∙ z))

pub plan_of-requires : goal.plan_of-requires
plan_of-requires c = setup-means c.args.setup (passed (goal.at.plan_of-requires c).In_ok-begin_ready).setup

pub returns-in_err-plan-clause-value : goal.returns-in_err-plan-clause-value
returns-in_err-plan-clause-value c =
    let d = (goal.at.returns-in_err-plan-clause-value c).In_ok-args_size in
    let b = at-args d in
    let e = c.in_err-plan in
    let told : number_of c.from_residual-in_err-plan.result ≡ refusal_number (refusal_of e.field-0.0) = search rules in
    imaged-given (state (at-first b)) c.args.number c.args.form c.args.image.now c.args.bytes.now c.args.lengths.now (none b) (argued d) _
    (told ∙ e.ensures.number) (λ z. refused-not-0 (refusal_of e.field-0.0) (sym told ∙ z))

pub returns-then-plan-free_count-clause-value : goal.returns-then-plan-free_count-clause-value
returns-then-plan-free_count-clause-value c =
    let d = (goal.at.returns-then-plan-free_count-clause-value c).In_ok-plan in
    weighed d 33 (rw (lt-ltb (free c.args.book.now) (page_count (start_pieces c.args.setup (program_of c.args.setup c.args.form c.args.image.now))) (omega (arith, pages d, c.free_count.ensures, c.if-plan-free_count.true))) refl)

pub returns-clause-value : goal.returns-clause-value
returns-clause-value c =
    let d = (goal.at.returns-clause-value c).In_ok-plan in
    weighed d 0 (rw (le-ltb (free c.args.book.now) (page_count (start_pieces c.args.setup (program_of c.args.setup c.args.form c.args.image.now))) (omega (arith, pages d, c.free_count.ensures, c.if-plan-free_count.false))) refl)

pub returns-clause-planned : goal.returns-clause-planned
returns-clause-planned c = c.in_ok-plan.ensures.holds
