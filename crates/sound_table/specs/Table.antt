-- The pass over the book, and what it leaves: of each rank whether it is taken, and for the pages of one process the frames. Places are
-- taken in order, frame after frame, sixteen to a frame. A mapping that is of no part's page, or whose rank is taken, ends the pass: the
-- book is torn.
-- Assumes nothing.
use Rattle.std.specs.Prelude.{ℕ, ◌+◌, ◌*◌, ◌-◌, ◌/◌, ◌%◌, ◌^◌, ◌<◌, ◌≤◌, ◌≡◌, Bool, true, false, List, length, get_or, Option, None, Some}
use Rattle.spec.specs.Tests.{◌is◌, ◌isnt◌, ◌below◌, ◌⇒◌else◌}
use Rattle.spec.specs.Numbers.{bytes_from}
use Rattle.spec.specs.Book.{highest, owner_of, valid, frame_count, mapping, holders}
use Rattle.spec.specs.Sound.{mapped, Beside}
use Rattle.sound_plan.specs.Plan.{hits, nth, rank}

-- the word of place i: of frame i / 16, in its place numbered i % 16 + 1
abbrev pub place_at : List ℕ → ℕ → ℕ
place_at book i = mapping book (i / 16) (i % 16 + 1)

-- the place of a word among the first n places
unfoldable pub place_with : List ℕ → ℕ → ℕ → Option ℕ
place_with book n w = highest (λ i. place_at book i is w) n

-- its frame as a table's entry: 1 more than its number, or 0
abbrev pub entry : Option ℕ → ℕ
entry None = 0
entry (Some i) = i / 16 + 1

-- whether there is one, as a bit
abbrev pub taken : Option ℕ → ℕ
taken None = 0
taken (Some i) = 1

-- of the first n places each is 0 or has a part's page, and none stands twice
pub record Planned (book tags bases : List ℕ) (n : ℕ) : Type 0 where
  pub fits : (i : ℕ) → i < n → (place_at book i ≡ 0 → ⊥) → (k : ℕ) × (k < 272) × (hits tags bases (place_at book i) k ≡ true)
  pub once : (i j : ℕ) → i < j → j < n → (place_at book i ≡ 0 → ⊥) → place_at book i ≡ place_at book j → ⊥

-- each rank's word stands in the book
abbrev pub Full : List ℕ → List ℕ → List ℕ → Type 0
Full book tags bases = (t : ℕ) → t < get_or bases 272 0 → place_with book (16 * frame_count book) (nth tags bases t) ≡ None → ⊥

-- the first rank of a process's pages, and how many they are: none of a number that no process has
abbrev pub first_of : List ℕ → ℕ → ℕ
first_of bases number = get_or bases (17 * (number - 1)) 0

abbrev pub count_of : List ℕ → ℕ → ℕ
count_of bases number = get_or bases (17 * number) 0 - get_or bases (17 * (number - 1)) 0

-- the table has the frames, by the first n places, of the pages with the `count` ranks from `first` on, and zeros after them
pub record Tabled (book tags bases : List ℕ) (first count : ℕ) (table : List ℕ) (n : ℕ) : Type 0 where
  pub frames : (t : ℕ) → t < count → get_or table t 0 ≡ entry (place_with book n (nth tags bases (first + t)))
  pub rest : (t : ℕ) → count ≤ t → get_or table t 0 ≡ 0

-- the table of a process, by all places. It is kept shut: written out it is long.
unfoldable pub table_of : List ℕ → ℕ → List ℕ → List ℕ → List ℕ
table_of book number tags bases =
    bytes_from (λ t. t below count_of bases number ⇒ entry (place_with book (16 * frame_count book) (nth tags bases (first_of bases number + t))) else 0) 0 1024

-- the bit of a rank, 64 to a word
unfoldable pub bit_of : List ℕ → ℕ → ℕ
bit_of bits t = get_or bits (t / 64) 0 / 2 ^ (t % 64) % 2

-- bits and table as the first n places leave them
pub record Noted (book tags bases : List ℕ) (first count : ℕ) (bits table : List ℕ) (n : ℕ) : Type 0 where
  pub bits_are : (t : ℕ) → t < get_or bases 272 0 → bit_of bits t ≡ taken (place_with book n (nth tags bases t))
  pub tabled : Tabled book tags bases first count table n
  pub inside : first + count ≤ get_or bases 272 0
  pub few : count ≤ 1024
  pub bits-long : length bits ≡ 256
  pub table-long : length table ≡ 1024

-- a frame by itself: each mapping stands in its owner's place, two agree, and the count is theirs
pub record Framed (book : List ℕ) (k : ℕ) : Type 0 where
  pub owner : (n : ℕ) → valid n ≡ true → ¬ (mapping book k n ≡ 0) → owner_of (mapping book k n) ≡ n
  pub beside : (m n : ℕ) → valid m ≡ true → valid n ≡ true → (m ≡ n → ⊥) → ¬ (mapping book k m ≡ 0) → ¬ (mapping book k n ≡ 0) → Beside (mapping book k m) (mapping book k n)
  pub count : holders book k ≡ mapped book k

abbrev pub FramedAll : List ℕ → ℕ → Type 0
FramedAll book c = (k : ℕ) → k < c → Framed book k

-- what is found, for a process: it is yes where each frame is in order and the places have the plan's words, each once
pub record Marked (book tags bases : List ℕ) (number : ℕ) (table : List ℕ) (r : Bool) : Type 0 where
  pub planned : r ≡ true → Planned book tags bases (16 * frame_count book)
  pub framed : r ≡ true → FramedAll book (frame_count book)
  pub full : r ≡ true → Full book tags bases
  pub no : r ≡ false → Planned book tags bases (16 * frame_count book) → FramedAll book (frame_count book) → Full book tags bases → ⊥
  pub tabled : r ≡ true → Tabled book tags bases (first_of bases number) (count_of bases number) table (16 * frame_count book)
  pub few : r ≡ true → count_of bases number ≤ 1024
  pub long : r ≡ true → length table ≡ 1024

-- whether a rank's page has a frame
abbrev pub marked : List ℕ → ℕ → Bool
marked bits t = bit_of bits t isnt 0

abbrev pub Blank : List ℕ → Type 0
Blank table = (t : ℕ) → get_or table t 0 ≡ 0

-- rank t's bit is set, and no other changed
pub record BitSet (bits later : List ℕ) (t : ℕ) : Type 0 where
  pub here : bit_of later t ≡ 1
  pub other : (u : ℕ) → (u ≡ t → ⊥) → bit_of later u ≡ bit_of bits u
  pub long : length later ≡ 256

-- rank t is taken where it was free, which r says
pub record Takes (bits later : List ℕ) (t : ℕ) (r : Bool) : Type 0 where
  pub yes : r ≡ true → (bit_of bits t ≡ 0) × BitSet bits later t
  pub no : r ≡ false → (bit_of bits t ≡ 0 → ⊥) × (later ≡ bits)

-- rank t has entry v where it is among the `count` ranks from `first` on, and nothing else changed
pub record Stored (first count : ℕ) (table later : List ℕ) (t v : ℕ) : Type 0 where
  pub here : (u : ℕ) → u < count → first + u ≡ t → get_or later u 0 ≡ v
  pub other : (u : ℕ) → (u < count → first + u ≡ t → ⊥) → get_or later u 0 ≡ get_or table u 0
  pub long : length later ≡ 1024

-- whether a word is entered for frame k at its rank: not where it is of no part, or its rank is taken
pub record Entered (tags bases : List ℕ) (first count : ℕ) (bits table bits' later : List ℕ) (w k : ℕ) (r : Bool) : Type 0 where
  pub yes : r ≡ true → (p : ℕ) × (p < 272) × (hits tags bases w p ≡ true) × (bit_of bits (rank tags bases w p) ≡ 0) × BitSet bits bits' (rank tags bases w p) × Stored first count table later (rank tags bases w p) (k + 1)
  pub no : r ≡ false → (p : ℕ) → p < 272 → hits tags bases w p ≡ true → bit_of bits (rank tags bases w p) ≡ 0 → ⊥

-- the same by one part only, or none where that part has not the word
abbrev pub Near : List ℕ → List ℕ → ℕ → ℕ → List ℕ → List ℕ → List ℕ → List ℕ → ℕ → ℕ → Option Bool → Type 0
Near tags bases first count bits table bits' later w k (Some r) = Entered tags bases first count bits table bits' later w k r
Near tags bases first count bits table bits' later w k None = (bits' ≡ bits) × (later ≡ table)

-- for each owner and permission a part
pub record Hints (hints : List ℕ) : Type 0 where
  pub long : length hints ≡ 272
  pub parts : (i : ℕ) → get_or hints i 0 < 272

-- the pass over one frame
pub record Passes (book tags bases : List ℕ) (first count : ℕ) (bits later : List ℕ) (k : ℕ) (r : Bool) : Type 0 where
  pub yes : r ≡ true → Planned book tags bases (16 * k + 16) × Noted book tags bases first count bits later (16 * k + 16) × Framed book k
  pub no : r ≡ false → Planned book tags bases (16 * frame_count book) → FramedAll book (frame_count book) → ⊥

-- and over all frames below c
pub record Passed (book tags bases : List ℕ) (first count : ℕ) (bits later : List ℕ) (c : ℕ) (r : Bool) : Type 0 where
  pub yes : r ≡ true → Planned book tags bases (16 * c) × Noted book tags bases first count bits later (16 * c) × FramedAll book c
  pub no : r ≡ false → Planned book tags bases (16 * frame_count book) → FramedAll book (frame_count book) → ⊥
