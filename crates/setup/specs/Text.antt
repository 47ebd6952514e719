-- What is put into a buffer of a setup's lines, and of what the program numbers prints of a file.
-- Assumes nothing.
use Rattle.std.specs.Prelude.{List, [], ◌++◌, ℕ}
use Rattle.spec.specs.Tests.{ascii, ◌below◌, ◌⇒◌else◌}
use Rattle.spec.specs.Numbers.{limit, arg_limit}
use Rattle.spec.specs.SetupText.{setup_text, numbers_text}
use Rattle.spec.specs.declared.Setup.{Setup}
use Rattle.text.specs.Text.{field_text}

-- what is put into a buffer of n bytes: all of it, or nothing where the longest would not fit
abbrev pub setup_in : ℕ → Setup → List ℕ
setup_in n setup = n below 117 ⇒ [] else setup_text setup

abbrev pub numbers_in : ℕ → List ℕ → List ℕ
numbers_in n bytes = n below 174 ⇒ [] else numbers_text bytes

-- the two lines behind them as they are put
abbrev pub limits_text : Setup → List ℕ
limits_text s = field_text (ascii "LIMIT=") (limit s) ++ field_text (ascii "ARGLIMIT=") (arg_limit s)
