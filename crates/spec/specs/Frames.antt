-- Item 2, frames and book: what stands in frames, and the four ways in which they change: pages placed, shared, released, written
-- over. All that a call does to memory is made of these four.
-- Assumes nothing.
use Rattle.std.specs.Prelude.{ℕ, zero, suc, ◌+◌, ◌*◌, ◌-◌, ◌/◌, ◌%◌, Bool, ◌&&◌, List, [], ◌∷◌, ◌++◌, length, get_or, set, take, drop, Option, None, Some}
use Rattle.spec.specs.Tests.{◌is◌, ◌isnt◌, within, ◌⇒◌else◌}
use Rattle.spec.specs.Numbers.{max_frames, page_down}
use Rattle.spec.specs.Book.{word_of, page_of, perm_of, frame_count, mapping, holders, free_frame, frame_of}
use Rattle.spec.specs.declared.UserSegment.{UserSegment}

-- frame bytes, with seventeen book words a frame
pub record Store : Type 0 where
  pub frames : List ℕ
  pub book : List ℕ

-- lent frame bytes and book
abbrev pub store : List ℕ → List ℕ → Store
store frames book = record { frames = frames; book = book }

-- 1: frame bytes are 4,096 a frame, book words seventeen (request 10), frames 1 to 1,024
abbrev pub sized : Store → Bool
sized m =
    length m.frames is 4096 * frame_count m.book && length m.book is 17 * frame_count m.book
    && within 1 (max_frames + 1) (frame_count m.book)

-- ---- what stands at an address

-- a byte, and the permission of its page
pub record Cell : Type 0 where
  pub perm : ℕ
  pub byte : ℕ

-- what stands at each address, or none where no page is mapped
abbrev pub Mem : Type 0
Mem = ℕ → Option Cell

-- an address's byte in frame k, and the permission that the frame's mapping gives process n
abbrev pub cell_in : Store → ℕ → ℕ → Option ℕ → Option Cell
cell_in m n a None = None
cell_in m n a (Some k) = Some (record { perm = perm_of (mapping m.book k n); byte = get_or m.frames (4096 * k + a % 4096) 0 })

-- a process's memory: each address in the frame of its page
abbrev pub mem_of : Store → ℕ → Mem
mem_of m n a = cell_in m n a (frame_of m.book n (page_down a))

-- ---- frames entered in the book

-- frame k with word w in its place numbered n, and count c
abbrev pub enter : List ℕ → ℕ → ℕ → ℕ → ℕ → List ℕ
enter book k n w c = set (set book (17 * k + (n - 1)) w) (17 * k + 16) c

-- a change of each frame below c, frame after frame
abbrev pub sweep : (List ℕ → ℕ → List ℕ) → List ℕ → ℕ → List ℕ
sweep change book zero = book
sweep change book (suc c) = change (sweep change book c) c

-- ---- pages placed

-- bytes s over d, from place `at` on
abbrev pub put : List ℕ → ℕ → List ℕ → List ℕ
put d at s = take at d ++ s ++ drop (at + length s) d

-- a page to come: its address, permission and bytes
pub record Page : Type 0 where
  pub page : ℕ
  pub perm : ℕ
  pub bytes : List ℕ

-- k pages from an address on, ascending, with bytes by a rule
abbrev pub pages_from : (ℕ → List ℕ) → ℕ → ℕ → ℕ → List Page
pages_from f perm a zero = []
pages_from f perm a (suc k) = record { page = a; perm = perm; bytes = f a } ∷ pages_from f perm (a + 4096) k

-- the pages of pieces, piece after piece
abbrev pub pages_of : (ℕ → List ℕ) → List UserSegment → List Page
pages_of f [] = []
pages_of f (g ∷ gs) = pages_from f g.perm g.range.start ((g.range.end - g.range.start) / 4096) ++ pages_of f gs

-- a page in frame k, with its mapping, the only one
abbrev pub hold : Store → ℕ → Page → Option ℕ → Store
hold m n p None = m
hold m n p (Some k) = record { frames = put m.frames (4096 * k) p.bytes; book = enter m.book k n (word_of p.page n p.perm) 1 }

-- new pages take the highest-numbered free frame, in the order given
unfoldable pub place : Store → ℕ → List Page → Store
place m n [] = m
place m n (p ∷ ps) = place (hold m n p (free_frame m.book)) n ps

-- the bytes of a page in frame k
abbrev pub frame_bytes : List ℕ → Option ℕ → List ℕ
frame_bytes frames None = []
frame_bytes frames (Some k) = take 4096 (drop (4096 * k) frames)

-- ---- pages shared

-- Request 10: a text or rodata frame of process n gets a mapping of the child's beside it, and one holder more
abbrev pub join : ℕ → ℕ → List ℕ → ℕ → List ℕ
join n child book k =
    mapping book k n isnt 0 && perm_of (mapping book k n) isnt 3
    ⇒ enter book k child (word_of (page_of (mapping book k n)) child (perm_of (mapping book k n))) (holders book k + 1) else book

-- all of them; no byte moves
unfoldable pub share : Store → ℕ → ℕ → Store
share m n child = record { frames = m.frames; book = sweep (join n child) m.book (frame_count m.book) }

-- ---- pages released

-- a frame of process n whose page passes a test loses that mapping, and one holder
abbrev pub let_go : ℕ → (ℕ → Bool) → List ℕ → ℕ → List ℕ
let_go n t book k = mapping book k n isnt 0 && t (page_of (mapping book k n)) ⇒ enter book k n 0 (holders book k - 1) else book

-- all of them; frames keep their bytes, and those without a holder are free
unfoldable pub release : Store → ℕ → (ℕ → Bool) → Store
release m n t = record { frames = m.frames; book = sweep (let_go n t) m.book (frame_count m.book) }

-- ---- pages written over

-- a byte at an address; and bytes of a process, from an address on
abbrev pub poke : Store → ℕ → ℕ → Option ℕ → Store
poke m a b None = m
poke m a b (Some k) = record { frames = set m.frames (4096 * k + a % 4096) b; book = m.book }

unfoldable pub pokes : Store → ℕ → ℕ → List ℕ → Store
pokes m n a [] = m
pokes m n a (b ∷ bs) = pokes (poke m a b (frame_of m.book n (page_down a))) n (a + 1) bs
