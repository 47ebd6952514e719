-- The flag table in lines (request 7): `flags0=refused` to `flags7=refused`. What reads it answers 39 for bytes that are not as described
-- and for a table that is against the rules.
-- Assumes nothing.
use Rattle.std.specs.Prelude.{ℕ, zero, suc, ◌+◌, Bool, not, List, [], ◌∷◌, ◌++◌, length, take, drop, replicate, Option, None, Some}
use Rattle.spec.specs.Tests.{◌is◌, ◌isnt◌, ◌above◌, ◌⇒◌else◌, same, ascii}
use Rattle.spec.specs.Flags.{flags_ok}

-- ---- what is written

-- a code's word
abbrev pub word_of : ℕ → List ℕ
word_of code =
    code is 1 ⇒ ascii "text" else
    code is 2 ⇒ ascii "rodata" else
    code is 3 ⇒ ascii "data" else
    ascii "refused"

-- `flags`, the row, `=`, the word, one line feed
abbrev pub flag_line : ℕ → ℕ → List ℕ
flag_line row code = ascii "flags" ++ (48 + row) ∷ ascii "=" ++ word_of code ++ 10 ∷ []

-- a line for each code, from a row on
abbrev pub row_lines : (ℕ → ℕ → List ℕ) → ℕ → List ℕ → List ℕ
row_lines line row [] = []
row_lines line row (code ∷ codes) = line row code ++ row_lines line (row + 1) codes

-- the lines of a table
unfoldable pub flags_text : List ℕ → List ℕ
flags_text flags = row_lines flag_line 0 flags

-- ---- what is read

-- bytes begin with a row's line of a code
abbrev pub begins : ℕ → List ℕ → ℕ → Bool
begins row bytes code = same ◌is◌ (take (length (flag_line row code)) bytes) (flag_line row code)

-- the code that they begin with
abbrev pub code_at : ℕ → List ℕ → Option ℕ
code_at row bytes =
    begins row bytes 0 ⇒ Some 0 else
    begins row bytes 1 ⇒ Some 1 else
    begins row bytes 2 ⇒ Some 2 else
    begins row bytes 3 ⇒ Some 3 else
    None

-- what reading comes to: 39, or 0 with the table; a refusal answers zeros
pub record FlagsRead : Type 0 where
  pub error : ℕ
  pub flags : List ℕ

abbrev pub unread_flags : FlagsRead
unread_flags = record { error = 39; flags = replicate 8 0 }

-- the code that comes next, or 39
abbrev pub on_code : Option ℕ → (ℕ → FlagsRead) → FlagsRead
on_code None next = unread_flags
on_code (Some code) next = next code

-- so many rows from a row on, after the codes read before them: with no byte after the last, and by the rules
abbrev pub read_rows : ℕ → ℕ → List ℕ → List ℕ → FlagsRead
read_rows row zero before bytes =
    length bytes isnt 0 ⇒ unread_flags else
    not (flags_ok before) ⇒ unread_flags else
    record { error = 0; flags = before }
read_rows row (suc k) before bytes =
    on_code (code_at row bytes) (λ code. read_rows (row + 1) k (before ++ code ∷ []) (drop (length (flag_line row code)) bytes))

-- eight rows in their order
unfoldable pub read_flags : List ℕ → FlagsRead
read_flags bytes = read_rows 0 8 [] bytes

-- ---- what the program flags prints

-- a file of over 4,096 bytes is not as described
abbrev pub read_flags_file : List ℕ → FlagsRead
read_flags_file bytes = length bytes above 4096 ⇒ unread_flags else read_flags bytes

-- a row, its code and its word
abbrev pub table_line : ℕ → ℕ → List ℕ
table_line row code = (48 + row) ∷ ascii "=" ++ (48 + code) ∷ ascii " " ++ word_of code ++ 10 ∷ []

-- the table, or the refusal
unfoldable pub table_text : List ℕ → List ℕ
table_text bytes = (read_flags_file bytes).error isnt 0 ⇒ ascii "refused=39\n" else row_lines table_line 0 (read_flags_file bytes).flags
