-- What is put into a buffer of a flag table's lines, and of what the program flags prints of a file.
-- Assumes nothing.
use Rattle.std.specs.Prelude.{not, List, [], ◌∷◌, ◌++◌, ℕ, ◌+◌}
use Rattle.spec.specs.Tests.{ascii, ◌below◌, ◌⇒◌else◌}
use Rattle.spec.specs.Flags.{flags_ok}
use Rattle.spec.specs.FlagsText.{word_of, flags_text, table_text}

-- what is put into a buffer of n bytes: all of it, or nothing where the longest would not fit, or the table is refused
abbrev pub flags_in : ℕ → List ℕ → List ℕ
flags_in n flags = n below 120 ⇒ [] else not (flags_ok flags) ⇒ [] else flags_text flags

abbrev pub table_in : ℕ → List ℕ → List ℕ
table_in n bytes = n below 96 ⇒ [] else table_text bytes

-- a line that begins with `head` and ends with a code's word, and what a row's line begins with
abbrev pub line_of : List ℕ → ℕ → List ℕ
line_of head code = head ++ word_of code ++ 10 ∷ []

abbrev pub flag_head : ℕ → List ℕ
flag_head row = ascii "flags" ++ (48 + row) ∷ ascii "="
