-- `measured_sound` meets its contract: under the deposit machine's setup no 38 and no 39 is given.
use Rattle.std.proofs.Common.{◌≡◌, Bool, true, false, not, Result, Ok, Err, refl, ap, ◌∙◌, arith}
use Rattle.std.specs.Result.{is_ok}
use Rattle.spec.specs.Tests.{◌⇒◌else◌}
use Rattle.spec.specs.Flags.{flags_ok}
use Rattle.spec.specs.Numbers.{setup_ok, setup_error, deposit}
use Rattle.spec.specs.Refusals.{number_of}
use Rattle.spec.specs.Sound.{sound_book}
use Rattle.spec.specs.declared.Setup.{Setup}
use Rattle.spec.specs.declared.Refusal.{Refusal}
use Rattle.spec.proofs.Refused.{refused-not-0}
use Rattle.sound.specs.Numbers.{sound_error}
use Rattle.bench_loops.proofs.measured_sound.Goals as goal

-- accepted where the test holds
accepted : {A : Type 0} (b : Bool) (r : Result A Refusal) → number_of r ≡ (not b ⇒ 2 else 0) → is_ok r ≡ b
accepted true (Ok x) h = refl
accepted false (Ok x) h = absurd (omega (arith, h))
accepted true (Err e) h = refused-not-0 e h
accepted false (Err e) h = refl

pub returns : goal.returns
unfolding setup_ok flags_ok setup_error
returns c =
    let b = c.args.book.now in
    let p = c.args.procs in (
      λ h. c.is_ok.ensures.value ∙ accepted (sound_book deposit b p) c.prepare.result (c.prepare.ensures.value ∙ ap (λ (u : Setup). sound_error u b p) c.deposit.ensures),
      λ h. absurd (omega (arith, h, c.if-book-gt17408.false)),
    )
