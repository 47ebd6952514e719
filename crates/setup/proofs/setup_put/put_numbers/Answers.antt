-- `setup_put::put_numbers` meets its contract: a refusal, or the numbers.
-- Assumes nothing.
use mathlib.Core.Path.{sym, ap, ◌∙◌}
use Rattle.spec.specs.SetupText.{Read}
use Rattle.spec.proofs.Refused.{refused-not-0}
use Rattle.text.proofs.Behind.{behind, same_text}
use Rattle.setup.proofs.Texts.{refused-text, shown-text}
use Rattle.setup.proofs.setup_put.put_numbers.Goals as goal

pub returns-in-Err-clause-puts : goal.returns-in-Err-clause-puts
returns-in-Err-clause-puts c =
    let e = c.from.ensures in
    same_text (refused-text c.args.bytes.now c.from.result (e ∙ ap (λ (r : Read). r.error) c.in-Err.ensures) (λ z. refused-not-0 c.in-Err.e (sym e ∙ z))) c.put_field.ensures.puts

pub returns-in-Ok-clause-puts : goal.returns-in-Ok-clause-puts
returns-in-Ok-clause-puts c =
    let e = c.in-Ok.ensures in
    same_text (shown-text c.args.bytes.now c.in-Ok.setup (ap (λ (r : Read). r.error) e) (ap (λ (r : Read). r.setup) e))
    (behind c.put_setup.ensures.puts c.put_limits.ensures.puts)
