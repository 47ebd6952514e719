-- The bytes before a NUL. A string copy goes part by part, and in each part asks for this number.
-- Assumes nothing.
use Rattle.std.specs.Prelude.{ℕ, suc, List, [], ◌∷◌}
use Rattle.spec.specs.Tests.{◌is◌, ◌⇒◌else◌}

-- how many bytes stand before the first NUL
abbrev pub to_nul : List ℕ → ℕ
to_nul [] = 0
to_nul (b ∷ bs) = b is 0 ⇒ 0 else suc (to_nul bs)
