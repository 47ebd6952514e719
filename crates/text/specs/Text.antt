-- What putting text into a buffer leaves and answers, and the text of a number. The texts are the specification's; they are kept
-- shut here, since a decimal unfolds to twenty tests.
-- Assumes nothing.
use Rattle.std.specs.Prelude.{◌≡◌, List, [], ◌∷◌, ◌++◌, ℕ, ◌+◌, ◌≤◌, length}
use Rattle.spec.specs.Frames.{put}
use Rattle.spec.specs.Listing.{decimal}

-- bytes s put into buffer d from a place on leave e, and answer the place behind them, r
pub record Puts (d : List ℕ) (at : ℕ) (s e : List ℕ) (r : ℕ) : Type 0 where
  pub bytes : e ≡ put d at s
  pub place : r ≡ at + length s
  pub room : r ≤ length d

-- the specification's text of a number, kept shut: a decimal unfolds to twenty tests
unfoldable pub number_text : ℕ → List ℕ
number_text n = decimal n

-- a name, a number and the end of the line
abbrev pub field_text : List ℕ → ℕ → List ℕ
field_text name n = name ++ number_text n ++ (10 ∷ [])
