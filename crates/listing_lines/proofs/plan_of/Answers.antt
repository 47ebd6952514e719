-- `plan_of` meets its contract: the length, then the reader's own number, then the layout's.
-- Assumes nothing.
use Rattle.std.proofs.Common.{sym, ◌∙◌}
use Rattle.spec.proofs.Refused.{refused-not-0}
use Rattle.spec.proofs.Setups.{deposit-ok}
use Rattle.listing_lines.proofs.Listed.{error-long, error-elf, error-image}
use Rattle.listing_lines.proofs.plan_of.Goals as goal

pub returns-then-image-gt-IMAGE_MAX-clause-number : goal.returns-then-image-gt-IMAGE_MAX-clause-number
returns-then-image-gt-IMAGE_MAX-clause-number c = error-long c.args.image.now c.if-image-gt-IMAGE_MAX.true

pub returns-in-Ok-clause-number : goal.returns-in-Ok-clause-number
returns-in-Ok-clause-number c =
    let e = rw c.deposit.ensures at c.in-Ok.ensures in
    e.number ∙ error-image c.args.image.now c.if-image-gt-IMAGE_MAX.false (sym e.own)

pub returns-in-Ok-clause-holds : goal.returns-in-Ok-clause-holds
returns-in-Ok-clause-holds c = let e = rw c.deposit.ensures at c.in-Ok.ensures in e.holds

pub plan_of-requires : goal.plan_of-requires
plan_of-requires c = rw c.deposit.ensures deposit-ok

pub returns-in-Err-Unreadable-clause-number : goal.returns-in-Err-Unreadable-clause-number
returns-in-Err-Unreadable-clause-number c =
    let e = rw (c.in-Err-Unreadable.field-0-is, c.deposit.ensures) at c.in-Err-Unreadable.ensures.own in
    e ∙ error-elf c.args.image.now c.if-image-gt-IMAGE_MAX.false (λ z. refused-not-0 c.in-Err-Unreadable.own (e ∙ z))

pub returns-in-Err-BadLayout-clause-number : goal.returns-in-Err-BadLayout-clause-number
returns-in-Err-BadLayout-clause-number c =
    let e = rw (c.in-Err-BadLayout.field-0-is, c.deposit.ensures) at c.in-Err-BadLayout.ensures in
    e.number ∙ error-image c.args.image.now c.if-image-gt-IMAGE_MAX.false (sym e.own)

pub returns-in-Err-TooManySegments-clause-number : goal.returns-in-Err-TooManySegments-clause-number
returns-in-Err-TooManySegments-clause-number c =
    let e = rw (c.in-Err-TooManySegments.field-0-is, c.deposit.ensures) at c.in-Err-TooManySegments.ensures in
    e.number ∙ error-image c.args.image.now c.if-image-gt-IMAGE_MAX.false (sym e.own)
