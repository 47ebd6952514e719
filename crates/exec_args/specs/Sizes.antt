-- What is asked of arguments by their sizes alone: refusal, size, pointers and registers. The functions see arguments as bytes and
-- lengths, where the specification has a list of strings; each definition here comes to the same as one of Exec's, and this crate's
-- laws prove it.
-- Assumes nothing.
use Rattle.std.specs.Prelude.{ℕ, ◌+◌, ◌*◌, ◌-◌, ◌/◌, ◌^◌, Bool, List, [], ◌∷◌, ◌++◌, length}
use Rattle.spec.specs.Tests.{◌isnt◌, ◌below◌, ◌⇒◌else◌, sum}
use Rattle.spec.specs.Numbers.{le_bytes}
use Rattle.spec.specs.Exec.{args_of, args_error}
use Rattle.spec.specs.declared.UserRegs.{UserRegs}
use Rattle.spec.specs.declared.Setup.{Setup}

-- a number, or the highest of 64 bits where it is above that
abbrev pub saturated : ℕ → ℕ
saturated n = n below 2 ^ 64 ⇒ n else 2 ^ 64 - 1

-- `args_size`'s refusal: 1 for lengths that don't sum to their bytes, or the arguments' own, or 0
unfoldable pub size_error : Setup → List ℕ → List ℕ → ℕ
size_error setup bytes lengths = sum lengths isnt length bytes ⇒ 1 else args_error setup (args_of bytes lengths)

-- the specification's `pointers`, by the lengths of arguments
abbrev pub pointers_by : ℕ → List ℕ → List ℕ
pointers_by s [] = le_bytes 8 0
pointers_by s (n ∷ ns) = le_bytes 8 s ++ pointers_by (s + n + 1) ns

-- its `copies`, by the same
abbrev pub copies_by : ℕ → ℕ → List ℕ → List (ℕ × ℕ)
copies_by s p [] = (p, 8) ∷ []
copies_by s p (n ∷ ns) = (s, n) ∷ (s + n, 1) ∷ (p, 8) ∷ copies_by (s + n + 1) (p + 8) ns

-- its `below_zero`, `argv_at` and `registers`, by the size of the strings and the count of arguments
abbrev pub below_zero_by : ℕ → ℕ → ℕ → Bool
below_zero_by top size count = (top - size) / 8 * 8 below 8 * (count + 1)

abbrev pub argv_by : ℕ → ℕ → ℕ → ℕ
argv_by top size count = (top - size) / 8 * 8 - 8 * (count + 1)

abbrev pub registers_by : ℕ → ℕ → ℕ → ℕ → UserRegs
registers_by pc top size count = record { pc = pc; sp = argv_by top size count / 16 * 16; argc = count; argv = argv_by top size count }
