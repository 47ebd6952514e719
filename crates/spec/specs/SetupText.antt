-- The machine numbers in a file (request 5): four lines, `UTZERO=65536` and so on. What reads it answers 37 for bytes that are not as
-- described, and 38, after all lines are read, for numbers that break a condition.
-- Assumes nothing.
use Rattle.std.specs.Prelude.{ℕ, ◌+◌, ◌*◌, ◌-◌, not, List, [], ◌∷◌, ◌++◌, length, take, drop, get_or, replicate, Option, None, Some}
use Rattle.spec.specs.Tests.{◌is◌, ◌isnt◌, ◌above◌, within, ◌⇒◌else◌, same, ascii}
use Rattle.spec.specs.Flags.{built_in}
use Rattle.spec.specs.Numbers.{setup_ok, limit, arg_limit}
use Rattle.spec.specs.Listing.{decimal}
use Rattle.spec.specs.declared.Setup.{Setup}

-- ---- what is written

-- a name, `=`, a number in decimal, one line feed
abbrev pub number_line : List ℕ → ℕ → List ℕ
number_line name n = name ++ ascii "=" ++ decimal n ++ 10 ∷ []

-- the four lines, in this order
unfoldable pub setup_text : Setup → List ℕ
setup_text setup =
    number_line (ascii "UTZERO") setup.utzero ++ number_line (ascii "USTKTOP") setup.ustktop
    ++ number_line (ascii "USTKSIZE") setup.ustksize ++ number_line (ascii "UADDRTOP") setup.uaddrtop

-- ---- what is read

-- the digits that bytes begin with, and the number that they stand for after those read so far
abbrev pub digits : List ℕ → List ℕ
digits [] = []
digits (b ∷ bs) = within 48 58 b ⇒ b ∷ digits bs else []

abbrev pub decimal_from : ℕ → List ℕ → ℕ
decimal_from n [] = n
decimal_from n (d ∷ ds) = decimal_from (10 * n + (d - 48)) ds

-- a number, and the bytes after its line
pub record Line : Type 0 where
  pub number : ℕ
  pub rest : List ℕ

-- a name, `=`, one to 15 digits, the first not 0, closed by one line feed
abbrev pub digits_line : List ℕ → Option Line
digits_line bytes =
    let ds : List ℕ = digits bytes in
    not (within 1 16 (length ds)) ⇒ None else
    get_or ds 0 48 is 48 ⇒ None else
    get_or bytes (length ds) 0 isnt 10 ⇒ None else
    Some (record { number = decimal_from 0 ds; rest = drop (length ds + 1) bytes })

abbrev pub line_of : List ℕ → List ℕ → Option Line
line_of name bytes =
    let begins : List ℕ = name ++ ascii "=" in
    same ◌is◌ (take (length begins) bytes) begins ⇒ digits_line (drop (length begins) bytes) else None

-- what reading comes to: 37, 38, or 0 with the setup, whose flag table is the built-in one; a refusal answers zeros
pub record Read : Type 0 where
  pub error : ℕ
  pub setup : Setup

abbrev pub unread : ℕ → Read
unread error = record { error = error; setup = record { utzero = 0; ustktop = 0; ustksize = 0; uaddrtop = 0; flags = replicate 8 0 } }

-- the line that comes next, or 37
abbrev pub on_line : Option Line → (Line → Read) → Read
on_line None next = unread 37
on_line (Some l) next = next l

-- four lines in their order, with no byte after the fourth; then the conditions
unfoldable pub read_setup : List ℕ → Read
read_setup bytes =
    on_line (line_of (ascii "UTZERO") bytes) (λ a.
    on_line (line_of (ascii "USTKTOP") a.rest) (λ b.
    on_line (line_of (ascii "USTKSIZE") b.rest) (λ c.
    on_line (line_of (ascii "UADDRTOP") c.rest) (λ d.
    let setup : Setup = record { utzero = a.number; ustktop = b.number; ustksize = c.number; uaddrtop = d.number; flags = built_in } in
    length d.rest isnt 0 ⇒ unread 37 else
    not (setup_ok setup) ⇒ unread 38 else
    record { error = 0; setup = setup }))))

-- ---- what the program numbers prints

-- a file of over 4,096 bytes is not as described
abbrev pub read_file : List ℕ → Read
read_file bytes = length bytes above 4096 ⇒ unread 37 else read_setup bytes

-- a refusal's number; or the four numbers, the limit and the argument limit
unfoldable pub numbers_text : List ℕ → List ℕ
numbers_text bytes =
    (read_file bytes).error isnt 0 ⇒ ascii "refused=" ++ decimal (read_file bytes).error ++ 10 ∷ [] else
    (setup_text (read_file bytes).setup
    ++ number_line (ascii "LIMIT") (limit (read_file bytes).setup)
    ++ number_line (ascii "ARGLIMIT") (arg_limit (read_file bytes).setup))
