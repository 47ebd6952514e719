-- The code's lines and answers in the specification's terms.
-- Assumes nothing.
use Rattle.std.specs.Prelude.{ℕ, not, Result, Ok, Err, List, length, take, drop, Option, None, Some}
use Rattle.spec.specs.Tests.{◌is◌, ◌isnt◌, ◌⇒◌else◌, same}
use Rattle.spec.specs.Numbers.{setup_ok}
use Rattle.spec.specs.SetupText.{Line as Lined, Read, digits_line, unread}
use Rattle.spec.specs.declared.Setup.{Setup}
use Rattle.spec.specs.declared.Refusal.{Refusal}
use Rattle.spec.specs.Refusals.{refusal_number}
use Rattle.setup.specs.declared.setup_read.Line.{Line}

-- a line found: its number, and the bytes behind it
abbrev pub said : Option Line → Option Lined
said None = None
said (Some l) = Some (record { number = l.number; rest = l.rest.now })

abbrev pub said_line : Result Line Refusal → Option Lined
said_line (Ok l) = said (Some l)
said_line (Err _) = None

-- the specification's line, by the name with its `=`
abbrev pub line_named : List ℕ → List ℕ → Option Lined
line_named begins bytes = same ◌is◌ (take (length begins) bytes) begins ⇒ digits_line (drop (length begins) bytes) else None

-- an answer
abbrev pub told : Result Setup Refusal → Read
told (Ok setup) = record { error = 0; setup = setup }
told (Err r) = unread (refusal_number r)

-- what four numbers come to, with so many bytes behind the fourth line
abbrev pub judged_as : Setup → ℕ → Read
judged_as setup left =
    left isnt 0 ⇒ unread 37 else
    not (setup_ok setup) ⇒ unread 38 else
    record { error = 0; setup = setup }
