-- `prepare` meets its contract: what refuses the setup leaves zeros.
use Prim.Native.Nat.{ℕ}
use native.Mathlib.Omega.{arith}
use mathlib.Core.Path.{◌≡◌, sym, ◌∙◌}
use mathlib.Core.Bool.{false}
use borrow.Author.Rules.{rules}
use borrow.Author.Tests.{le-ltb}
use Rattle.spec.proofs.Refused.{refused-not-0}
use Rattle.spec.proofs.Setups.{setup-means, setup-numbers}
use Rattle.spec.specs.Numbers.{setup_error}
use Rattle.spec.specs.Refusals.{refusal_number, number_of}
use Rattle.spec.specs.declared.Setup.{Setup}
use Rattle.sound.specs.Table.{found}
use Rattle.sound.proofs.LookedUp.{left-zeros}
use Rattle.sound.proofs.prepare.Goals as goal

-- the setup's number is given before the book is judged
setup-given : (setup : Setup) (e : ℕ) → e ≡ setup_error setup → (e ≡ 0 → ⊥) → found e ≡ false
setup-given setup e h ne = rw (le-ltb e 38 (omega (arith, h, (setup-numbers setup (λ z. ne (h ∙ z))).0)))

pub returns-in_err-check-clause-leaves : goal.returns-in_err-check-clause-leaves
returns-in_err-check-clause-leaves c =
    let e = c.in_err-check in
    let is : number_of c.from_residual.result ≡ refusal_number e.field-0.0 = search rules in
    left-zeros _ (setup-given c.args.setup _ (is ∙ e.ensures) (λ z. refused-not-0 e.field-0.0 (sym is ∙ z))) c.requires.1

pub is_sound-requires-clause-setup_ok : goal.is_sound-requires-clause-setup_ok
is_sound-requires-clause-setup_ok c = setup-means c.args.setup (sym c.in_ok-check.ensures)
