-- The list of segments that numbers give: start, end and permission of each. A rest of one or two numbers gives none.
-- Assumes nothing.
use Rattle.std.specs.Prelude.{ℕ, ◌+◌, ◌*◌, List, [], ◌∷◌, get_or}
use Rattle.spec.specs.Book.{segment}
use Rattle.spec.specs.declared.UserSegment.{UserSegment}

abbrev pub list_of : List ℕ → List UserSegment
list_of [] = []
list_of (a ∷ []) = []
list_of (a ∷ b ∷ []) = []
list_of (a ∷ b ∷ p ∷ ns) = segment a b p ∷ list_of ns

-- the one at place i
abbrev pub segment_at : List ℕ → ℕ → UserSegment
segment_at ns i = segment (get_or ns (3 * i) 0) (get_or ns (3 * i + 1) 0) (get_or ns (3 * i + 2) 0)
