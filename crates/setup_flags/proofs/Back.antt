-- What is put of an accepted table is read back as it: the law of the two functions together.
-- Assumes nothing.
use mathlib.Core.Path.{◌≡◌, ap, ◌∙◌}
use mathlib.Core.Bool.{true}
use mathlib.Core.List.{List}
use Prim.Native.Nat.{ℕ, ◌≤◌}
use lib.ListN.{length, take}
use borrow.Author.Tests.{le-ltb}
use Rattle.spec.specs.Flags.{flags_ok}
use Rattle.spec.specs.FlagsText.{flags_text, read_flags}
use Rattle.spec.proofs.FlagsTexts.{read_back}
use Rattle.text.specs.Text.{Puts}
use Rattle.text.proofs.Behind.{front}
use Rattle.setup_flags.specs.Texts.{flags_in}

pub put_back : (d e flags : List ℕ) (r : ℕ) → Puts d 0 (flags_in (length d) flags) e r → 120 ≤ length d → length flags ≡ 8 → flags_ok flags ≡ true
    → read_flags (take r e) ≡ record { error = 0; flags = flags }
put_back d e flags r p room n ok = ap read_flags (front d (flags_text flags) e r (rw (le-ltb (length d) 120 room, ok) at p)) ∙ read_back flags n ok
