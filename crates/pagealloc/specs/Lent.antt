-- Which frames are free, and which pages a process has. Functions that place and write pages ask these of their callers, who have
-- counted frames and checked ranges.
-- Assumes nothing.
use Rattle.std.specs.Prelude.{ℕ, ◌%◌, ◌≤◌, ◌<◌, ◌≡◌, false, List, Some}
use Rattle.spec.specs.Book.{frame_count, is_free, frame_of}

-- frames are looked at from the top down: no frame from c on is free
abbrev pub Passed : ℕ → List ℕ → Type 0
Passed c book = (c ≤ frame_count book) × ((k : ℕ) → c ≤ k → k < frame_count book → is_free book k ≡ false)

-- a process has every page from `low` up to, but not including, `high`
abbrev pub Mapped : List ℕ → ℕ → ℕ → ℕ → Type 0
Mapped book n low high = (page : ℕ) → page % 4096 ≡ 0 → low ≤ page → page < high → (k : ℕ) × (frame_of book n page ≡ Some k)
