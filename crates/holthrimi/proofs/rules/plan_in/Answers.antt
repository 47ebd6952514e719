-- `plan_in` meets its contract.
use Rattle.std.proofs.Common.{◌≡◌, refl, sym, ap, ◌∙◌, ne_eqb}
use mathlib.Core.Path.{ap₂}
use Rattle.spec.specs.Image.{program_of, read_error}
use Rattle.spec.specs.Exec.{image_error}
use Rattle.spec.specs.Refusals.{refusal_number}
use Rattle.spec.proofs.Refused.{refused-not-0}
use Rattle.spec.proofs.Setups.{setup-means}
use Rattle.exec.specs.Plan.{refusal_of}
use Rattle.holthrimi.specs.Rules.{refused_plan, accepted_plan, planned_of, plan_of, plan_in}
use Rattle.holthrimi.proofs.rules.plan_in.Goals as goal

pub plan_of-requires : goal.plan_of-requires
plan_of-requires c = setup-means _ (sym c.in_default.ensures)

pub returns-in-Ok : goal.returns-in-Ok
unfolding plan_of
returns-in-Ok c =
    let a = c.args in
    let k = c.in-Ok in
    let p = k.p in
    let h = k.ensures.holds in
    let z = sym c.in_default.ensures in
    let left : planned_of p ≡ accepted_plan a.setup (program_of a.setup a.form a.image.now) = rw (p.entered, p.recorded, p.counted, p.behind, p.taken, h.setup-same, h.form-same, h.bytes-same) refl in
    let right : plan_in a.setup a.form a.image.now ≡ accepted_plan a.setup (program_of a.setup a.form a.image.now) = rw (z, sym k.ensures.number) refl in
    c.from-in-Ok.ensures ∙ left ∙ sym right

pub returns-in-Err-plan_of : goal.returns-in-Err-plan_of
unfolding plan_of
returns-in-Err-plan_of c =
    let a = c.args in
    let k = c.in-Err-plan_of in
    let z = sym c.in_default.ensures in
    let i = image_error a.setup a.form a.image.now in
    let number : c.from-in-Err-plan_of-2.result ≡ i = c.from-in-Err-plan_of-2.ensures ∙ ap refusal_number c.from-in-Err-plan_of.ensures ∙ k.ensures.number in
    let own : c.own.result ≡ read_error a.setup a.form a.image.now = c.own.ensures ∙ k.ensures.own in
    let right : plan_in a.setup a.form a.image.now ≡ refused_plan i (read_error a.setup a.form a.image.now) = rw (z, ne_eqb i 0 (λ q. refused-not-0 (refusal_of k.u) (k.ensures.number ∙ q))) refl in
    c.refused_plan-in-Err-plan_of.ensures ∙ ap₂ refused_plan number own ∙ sym right
