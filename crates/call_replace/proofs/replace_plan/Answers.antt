-- `replace_plan` meets its contract: the image is judged where no number came first.
use mathlib.Core.Path.{◌≡◌, refl, sym, ◌∙◌}
use mathlib.Core.Bool.{true}
use borrow.Author.Rules.{rules}
use Rattle.spec.specs.Refusals.{refusal_number, number_of}
use Rattle.spec.specs.World.{State, state_of}
use Rattle.spec.proofs.Refused.{refused-not-0}
use Rattle.spec.proofs.Setups.{setup-means}
use Rattle.spec.proofs.Chain.{number-first, number-next}
use Rattle.sound.proofs.LookedUp.{ready_of}
use Rattle.exec.specs.Plan.{refusal_of}
use Rattle.call_front.specs.Numbers.{plain_error}
use Rattle.call_front.proofs.FirstNumbers.{plain-none}
use Rattle.call_replace.proofs.replace_plan.Goals as goal
use Rattle.call_replace.proofs.replace_plan.Goals.{After-plain_ready}

abbrev state : After-plain_ready → State
state c = state_of c.args.setup c.args.frames.now c.args.book.now c.args.procs.now

pub returns-in_err-plain_ready-clause-value : goal.returns-in_err-plain_ready-clause-value
returns-in_err-plain_ready-clause-value c =
    let d = (goal.at.returns-in_err-plain_ready-clause-value c).After-plain_ready in
    let e = c.in_err-plain_ready in
    let told : number_of c.from_residual.result ≡ refusal_number e.field-0.0 = search rules in
    number-first _ (plain_error (state d) c.args.number true) _ (told ∙ e.ensures.value) (λ z. refused-not-0 e.field-0.0 (sym told ∙ z))

pub plan_of-requires : goal.plan_of-requires
plan_of-requires c =
    let d = (goal.at.plan_of-requires c).After-plain_ready in
    setup-means c.args.setup (plain-none (state d) c.args.number true (sym c.in_ok-plain_ready.ensures.value)).0.setup

pub returns-in_err-plan-clause-value : goal.returns-in_err-plan-clause-value
returns-in_err-plan-clause-value c =
    let d = (goal.at.returns-in_err-plan-clause-value c).After-plain_ready in
    let e = c.in_err-plan in
    let told : number_of c.from_residual-in_err-plan.result ≡ refusal_number (refusal_of e.field-0.0) = search rules in
    number-next 0 (plain_error (state d) c.args.number true) _ _ c.in_ok-plain_ready.ensures.value refl (told ∙ e.ensures.number)

pub returns-clause-value : goal.returns-clause-value
returns-clause-value c =
    let d = (goal.at.returns-clause-value c).After-plain_ready in
    number-next 0 (plain_error (state d) c.args.number true) _ 0 c.in_ok-plain_ready.ensures.value refl c.in_ok-plan.ensures.number

pub returns-clause-planned : goal.returns-clause-planned
returns-clause-planned c = c.in_ok-plan.ensures.holds

pub returns-clause-ready : goal.returns-clause-ready
returns-clause-ready c = ready_of c.in_ok-plain_ready.ensures.leaves refl
