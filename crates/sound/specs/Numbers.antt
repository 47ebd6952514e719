-- Numbers 38, 39 and 2, which judge what a call is handed, in this order, or 0.
-- Assumes nothing.
use Rattle.std.specs.Prelude.{ℕ, not, List}
use Rattle.spec.specs.Tests.{◌⇒◌else◌, ◌or_else◌}
use Rattle.spec.specs.Numbers.{setup_error}
use Rattle.spec.specs.Sound.{sound_book}
use Rattle.spec.specs.declared.Procs.{Procs}
use Rattle.spec.specs.declared.Setup.{Setup}

abbrev pub sound_error : Setup → List ℕ → Procs → ℕ
sound_error setup book procs =
    setup_error setup or_else
    not (sound_book setup book procs) ⇒ 2 else
    0
