-- The code's rows and answers in the specification's terms.
-- Assumes nothing.
use Rattle.std.specs.Prelude.{ℕ, List, replicate, Option, None, Some, Result, Ok, Err}
use Rattle.spec.specs.FlagsText.{FlagsRead as Read}
use Rattle.spec.specs.Refusals.{refusal_number}
use Rattle.spec.specs.declared.Refusal.{Refusal}
use Rattle.setup_flags.specs.declared.flags_read.Row.{Row}

-- a row found at the front of bytes: its code
abbrev pub code_of : Option Row → Option ℕ
code_of None = None
code_of (Some r) = Some r.code

-- an answer: a refusal has zeros
abbrev pub told : Result (List ℕ) Refusal → Read
told (Ok flags) = record { error = 0; flags = flags }
told (Err r) = record { error = refusal_number r; flags = replicate 8 0 }
