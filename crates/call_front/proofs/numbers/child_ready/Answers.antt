-- `child_ready` meets its contract: the first number that is given.
use mathlib.Core.Path.{◌≡◌, refl, sym, ap, ◌∙◌}
use mathlib.Core.Bool.{true, not, ◌&&◌}
use Rattle.std.specs.Prelude.{Err}
use Rattle.std.proofs.lemmas.Result.{err_from_is_err_and}
use Rattle.spec.specs.Book.{valid, lives, proc_at}
use Rattle.spec.specs.Refusals.{refusal_number, number_of}
use Rattle.spec.specs.declared.Refusal.{Refusal}
use Rattle.spec.proofs.Refused.{refused-not-0}
use Rattle.call_front.proofs.FirstNumbers.{further, given_still, none_here}
use Rattle.call_front.proofs.numbers.child_ready.Goals as goal

pub returns-in_err-alive : goal.returns-in_err-alive
returns-in_err-alive c =
    let a = c.args in
    let e : Refusal = c.in_err-alive.field-0.0 in
    let r = err_from_is_err_and c.from_residual-in_err-alive.result c.from_residual-in_err-alive.ensures.1 in
    let told : number_of c.from_residual-in_err-alive.result ≡ refusal_number e = ap number_of (r.1 ∙ ap Err r.2) in
    told ∙ further true (valid a.child) 3 _ _ (sym (none_here (valid a.child) 3 0 refl (sym c.in_ok-number_ok.ensures)).0) refl (given_still (not (valid a.parent && lives (proc_at a.procs.now a.parent))) 4 _ _ (refused-not-0 e) c.in_err-alive.ensures)

pub returns : goal.returns
returns c =
    let a = c.args in
    further true (valid a.child) 3 _ _ (sym (none_here (valid a.child) 3 0 refl (sym c.in_ok-number_ok.ensures)).0) refl
    (further true _ 4 _ _ (sym (none_here (valid a.parent && lives (proc_at a.procs.now a.parent)) 4 0 refl (sym c.in_ok-alive.ensures)).0) refl c.vacant.ensures)
