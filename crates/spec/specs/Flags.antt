-- The flag table (request 7): what the low three bits of a segment's flags (execute 1, write 2, read 4) stand for, one row for each of
-- their eight values: 0 refused, 1 text, 2 rodata, 3 data.
-- Assumes nothing.
use Rattle.std.specs.Prelude.{ℕ, ◌/◌, ◌%◌, Bool, ◌&&◌, ◌||◌, List, [], ◌∷◌, get_or}
use Rattle.spec.specs.Tests.{◌is◌, within, all_below}

-- the built-in table: 5 text, 4 rodata, 6 data, others refused
abbrev pub built_in : List ℕ
built_in = 0 ∷ 0 ∷ 0 ∷ 0 ∷ 2 ∷ 1 ∷ 3 ∷ 0 ∷ []

-- a row may be refused; rows 0, 1, 2, 3 and 7 must be; text only where the execute bit is set, data only where the write bit is
abbrev pub row_ok : ℕ → ℕ → Bool
row_ok row code = code is 0 || within 4 7 row && (code is 1 && row % 2 is 1 || code is 2 || code is 3 && row / 2 % 2 is 1)

-- 39: a row is against these rules
unfoldable pub flags_ok : List ℕ → Bool
flags_ok flags = all_below 8 (λ row. row_ok row (get_or flags row 0))
