-- `put_listing` meets its contract: each text is the listing's.
-- Assumes nothing.
use Rattle.std.proofs.Common.{sym, ◌∙◌}
use Rattle.spec.proofs.Refused.{refused-not-0}
use Rattle.text.proofs.Behind.{same_text}
use Rattle.listing_lines.proofs.Listed.{refused-text, shown-text}
use Rattle.listing_lines.proofs.put_listing.Goals as goal

pub put_plan-requires : goal.put_plan-requires
put_plan-requires c = record { deposit_numbers = c.in-Ok.ensures.holds.setup-same; room = c.requires }

pub returns-in-Ok-clause-puts : goal.returns-in-Ok-clause-puts
returns-in-Ok-clause-puts c =
    same_text (shown-text c.args.image.now c.in-Ok.plan c.in-Ok.ensures.holds c.in-Ok.ensures.number) c.put_plan.ensures.puts

pub returns-in-Err-clause-puts : goal.returns-in-Err-clause-puts
returns-in-Err-clause-puts c =
    let e = c.from.ensures in
    same_text (refused-text c.args.image.now c.from.result (e ∙ c.in-Err.ensures.number) (λ z. refused-not-0 c.in-Err.e (sym e ∙ z))) c.put_field.ensures.puts
