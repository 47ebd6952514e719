-- What is put of an accepted setup with the built-in flag table is read back as it: the law of the two functions together.
-- Assumes nothing.
use mathlib.Core.Path.{◌≡◌, ap, ◌∙◌}
use mathlib.Core.Bool.{true}
use mathlib.Core.List.{List}
use Prim.Native.Nat.{ℕ, ◌≤◌}
use lib.ListN.{length, take}
use borrow.Author.Tests.{le-ltb}
use Rattle.spec.specs.Flags.{built_in}
use Rattle.spec.specs.Numbers.{setup_ok}
use Rattle.spec.specs.SetupText.{setup_text, read_setup}
use Rattle.spec.specs.declared.Setup.{Setup}
use Rattle.text.specs.Text.{Puts}
use Rattle.text.proofs.Behind.{front}
use Rattle.setup.proofs.Written.{accepted-trip}
use Rattle.setup.specs.Text.{setup_in}

pub read_back : (d e : List ℕ) (s : Setup) (r : ℕ) → Puts d 0 (setup_in (length d) s) e r → 117 ≤ length d → s.flags ≡ built_in → setup_ok s ≡ true → read_setup (take r e) ≡ record { error = 0; setup = s }
read_back d e s r p room t ok = ap read_setup (front d (setup_text s) e r (rw (le-ltb (length d) 117 room) at p)) ∙ accepted-trip s t ok
