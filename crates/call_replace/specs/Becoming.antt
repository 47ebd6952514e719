-- What a replace is refused with before its arguments are read, and what becomes of the process once they are: a bad address ends it, with
-- 35; arguments over the limit, 33, leave it as it was; and otherwise it enters.
-- Assumes nothing.
use Rattle.std.specs.Prelude.{ℕ, ◌≡◌, true, List}
use Rattle.spec.specs.Tests.{◌or_else◌}
use Rattle.spec.specs.Program.{Program}
use Rattle.spec.specs.Exec.{image_error, Argv, bad, over, read}
use Rattle.spec.specs.World.{State, forget}
use Rattle.spec.specs.declared.Answer.{Answer}
use Rattle.spec.specs.declared.Answer.TheVariants.{Refused, EndedAt}
use Rattle.spec.specs.declared.Form.{Form}
use Rattle.call_front.specs.Numbers.{plain_error}
use Rattle.call_replace.specs.Entering.{entered, entering}

-- 1, 38, 39 and 2 to 4, then 30 or 31 for its image, or 0
abbrev pub replace_number : State → ℕ → Form → List ℕ → ℕ
replace_number s n form image = plain_error s n true or_else image_error s.setup form image

-- what reading the arguments came to, what is left, and the answer
pub data Became (s : State) (n : ℕ) (program : Program) (name : List ℕ) (argv : Argv) (t : State) (answer : Answer) : Type 0 where
  ends : (address : ℕ) → argv ≡ bad address → t ≡ forget s n → answer ≡ EndedAt address → Became s n program name argv t answer
  stays : argv ≡ over → t ≡ s → answer ≡ Refused 33 → Became s n program name argv t answer
  enters : (args : List (List ℕ)) → argv ≡ read args → t ≡ entered s n program name args → answer ≡ entering s n program args → Became s n program name argv t answer
