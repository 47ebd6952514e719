-- `number_ready` meets its contract: the book was found sound where the number is looked at.
use mathlib.Core.Path.{◌≡◌, refl, sym, ap, ◌∙◌}
use mathlib.Core.Bool.{true}
use Rattle.std.specs.Prelude.{Err}
use Rattle.std.proofs.lemmas.Result.{err_from_is_err_and}
use Rattle.spec.specs.Frames.{sized, store}
use Rattle.spec.specs.Refusals.{refusal_number, number_of}
use Rattle.spec.specs.World.{State, state_of}
use Rattle.spec.specs.declared.Refusal.{Refusal}
use Rattle.spec.proofs.Refused.{refused-not-0}
use Rattle.call_front.specs.Numbers.{number_error}
use Rattle.call_front.proofs.FirstNumbers.{sound-given}
use Rattle.call_front.proofs.Left.{left_next}
use Rattle.call_front.proofs.first.number_ready.Goals as goal

pub returns-in_err-prepare-clause-value : goal.returns-in_err-prepare-clause-value
unfolding number_error
returns-in_err-prepare-clause-value c =
    let a = c.args in
    let e : Refusal = c.in_err-prepare.field-0.0 in
    let r = err_from_is_err_and c.from_residual.result c.from_residual.ensures.1 in
    let told : number_of c.from_residual.result ≡ refusal_number e = ap number_of (r.1 ∙ ap Err r.2) in
    let s : State = state_of a.setup a.frames.now a.book.now a.procs.now in
    let sizes : sized (store a.frames.now a.book.now) ≡ true = sym c.sizes_ok.ensures ∙ c.if-not-sizes_ok.false in
    rw (sizes, c.if-not-fits.false) (told ∙ sound-given s (refusal_number e) _ c.in_err-prepare.ensures.value (refused-not-0 e))

pub returns-clause-leaves : goal.returns-clause-leaves
returns-clause-leaves c = left_next _ 3 _ refl c.number_ok.ensures c.in_ok-prepare.ensures.leaves
