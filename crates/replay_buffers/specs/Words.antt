-- The words of a line, separated by one space each, and the numbers that they are.
-- Assumes nothing.
use Rattle.std.specs.Prelude.{ℕ, zero, suc, ◌+◌, ◌-◌, ◌*◌, ◌%◌, ◌^◌, Option, None, Some, List, [], ◌∷◌, take, drop}
use Rattle.spec.specs.Tests.{◌is◌, ◌below◌, within, ◌⇒◌else◌}

-- how many bytes stand before the first b, or in all
abbrev pub before : ℕ → List ℕ → ℕ
before b [] = 0
before b (x ∷ xs) = x is b ⇒ 0 else suc (before b xs)

-- where the first b from a place on stands, or where the bytes end
abbrev pub end_of : ℕ → List ℕ → ℕ → ℕ
end_of b line at = at + before b (drop at line)

-- the word that starts at a place: the bytes up to a space
abbrev pub word_at : List ℕ → ℕ → List ℕ
word_at line at = take (end_of 32 line at - at) (drop at line)

-- where the word after it starts: behind its space, in 64 bits
abbrev pub next_of : List ℕ → ℕ → ℕ
next_of line at = (end_of 32 line at + 1) % 2 ^ 64

-- where word k starts, counted from 0
abbrev pub place_of : List ℕ → ℕ → ℕ
place_of line zero = 0
place_of line (suc k) = next_of line (place_of line k)

-- how many spaces there are
abbrev pub spaces_in : List ℕ → ℕ
spaces_in [] = 0
spaces_in (x ∷ xs) = x is 32 ⇒ suc (spaces_in xs) else spaces_in xs

-- digits behind those that stand for n: a number below 2^64, or none
abbrev pub number_from : ℕ → List ℕ → Option ℕ
number_from n [] = Some n
number_from n (x ∷ xs) =
    let more : ℕ = 10 * n + (x - 48) in
    within 48 58 x ⇒ (more below 2 ^ 64 ⇒ number_from more xs else None) else None

-- the number that a word is: digits, at least one
abbrev pub number_of : List ℕ → Option ℕ
number_of [] = None
number_of (x ∷ xs) = number_from 0 (x ∷ xs)
