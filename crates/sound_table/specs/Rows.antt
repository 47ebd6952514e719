-- What an OR of words says, and what a frame is found to hold.
-- Assumes nothing.
use Rattle.std.specs.Prelude.{ℕ, ◌+◌, ◌*◌, ◌<◌, ◌≡◌, List, length, get_or}
use Rattle.spec.specs.Book.{owner_of, holders}

-- an OR of k words from a place on is 0 only if each of them is
abbrev pub OrOf : List ℕ → ℕ → ℕ → ℕ → Type 0
OrOf book at k r = r ≡ 0 → (i : ℕ) → i < k → get_or book (at + i) 0 ≡ 0

-- the same of an OR of all but the one at place n
abbrev pub OrBut : List ℕ → ℕ → ℕ → ℕ → ℕ → Type 0
OrBut book at n k r = r ≡ 0 → (i : ℕ) → i < k → (i ≡ n → ⊥) → get_or book (at + i) 0 ≡ 0

-- and of four frames' words
abbrev pub FourBut : List ℕ → ℕ → ℕ → ℕ → ℕ → Type 0
FourBut book at n k r = r ≡ 0 → (j : ℕ) → j < 4 → (i : ℕ) → i < k → (i ≡ n → ⊥) → get_or book (at + 17 * j + i) 0 ≡ 0

-- masks of all bits, but for the one in the middle
abbrev pub Masks : List ℕ → Type 0
Masks m = (length m ≡ 31) × ((i : ℕ) → i < 31 → (i ≡ 15 → ⊥) → get_or m i 0 ≡ 18446744073709551615)

-- frame k counts one holder, and has a word of owner n + 1 in place n, counted from 0
abbrev pub Own : List ℕ → ℕ → ℕ → Type 0
Own book k n = (owner_of (get_or book (17 * k + n) 0) ≡ n + 1) × (holders book k ≡ 1)

-- w is frame k's only mapping, in its owner's place
pub record Only (book : List ℕ) (k w : ℕ) : Type 0 where
  pub place : ℕ
  pub low : place < 16
  pub word : w ≡ get_or book (17 * k + place) 0
  pub owner : owner_of w ≡ place + 1
  pub count : holders book k ≡ 1
  pub rest : (i : ℕ) → i < 16 → (i ≡ place → ⊥) → get_or book (17 * k + i) 0 ≡ 0

-- each of the four frames from k on has its only mapping in place n
abbrev pub FourOwn : List ℕ → ℕ → ℕ → Type 0
FourOwn book k n = (j : ℕ) → j < 4 → Only book (k + j) (get_or book (17 * (k + j) + n) 0)

-- frame k is free, and no place has a word
pub record Free (book : List ℕ) (k : ℕ) : Type 0 where
  pub count : holders book k ≡ 0
  pub places : (i : ℕ) → i < 16 → get_or book (17 * k + i) 0 ≡ 0

-- what is found of frame k: its only mapping, 1 where it is free, or 0
pub record Single (book : List ℕ) (k w : ℕ) : Type 0 where
  pub free : w ≡ 1 → Free book k
  pub only : 1 < w → Only book k w

-- and of the c frames from a frame on
abbrev pub Singles : List ℕ → List ℕ → ℕ → ℕ → Type 0
Singles book words from c = (j : ℕ) → j < c → Single book (from + j) (get_or words j 0)
