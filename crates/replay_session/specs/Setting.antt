-- What a line makes of the program's book.
-- Assumes nothing.
use Rattle.std.specs.Prelude.{ℕ, ◌*◌, ◌<◌, ◌≡◌, List, set, replicate}
use Rattle.replay_script.specs.declared.asked.Asked.{Asked}
use Rattle.replay_script.specs.declared.asked.Asked.TheVariants.{Frames, Word}

-- how many words it has: seventeen a frame, of 1,025 frames
abbrev pub book_words : ℕ
book_words = 17 * 1025

-- frames make all of it 0; a word is set at its place, if the book has that; any other line leaves the book as it was
pub record BookSet (a : Asked) (before after : List ℕ) : Type 0 where
  pub frames : (count fill : ℕ) → a ≡ Frames count fill → after ≡ replicate book_words 0
  pub word : (place w : ℕ) → a ≡ Word place w → place < book_words → after ≡ set before place w
  pub other : ((count fill : ℕ) → a ≡ Frames count fill → ⊥) → ((place w : ℕ) → a ≡ Word place w → place < book_words → ⊥) → after ≡ before
