-- Item 2, frames and book: book words, process records and their pages. A mapping says that a frame holds a page of a process; text
-- and rodata frames may have several, one for each of their holders. A record says which pages its process has.
-- Assumes nothing.
use Rattle.std.specs.Prelude.{ℕ, zero, suc, ◌+◌, ◌*◌, ◌-◌, ◌/◌, ◌%◌, Bool, not, ◌&&◌, List, [], ◌∷◌, ◌++◌, length, get_or, replicate, Option, None, Some}
use Rattle.spec.specs.Tests.{◌is◌, ◌isnt◌, within, ◌⇒◌else◌, all, filter}
use Rattle.spec.specs.Numbers.{max_procs, page_up, page_down}
use Rattle.spec.specs.declared.Setup.{Setup}
use Rattle.spec.specs.declared.VirtRange.{VirtRange}
use Rattle.spec.specs.declared.UserSegment.{UserSegment}
use Rattle.spec.specs.declared.Proc.{Proc}
use Rattle.spec.specs.declared.Procs.{Procs}

-- ---- book words

-- a mapping: page address + 16 × owner + permission (1 text, 2 rodata, 3 data)
abbrev pub word_of : ℕ → ℕ → ℕ → ℕ
word_of page owner perm = page + 16 * owner + perm

-- a word taken apart
abbrev pub page_of : ℕ → ℕ
page_of w = page_down w

abbrev pub owner_of : ℕ → ℕ
owner_of w = w % 4096 / 16

abbrev pub perm_of : ℕ → ℕ
perm_of w = w % 16

-- processes are numbered 1 to 16
abbrev pub valid : ℕ → Bool
valid n = within 1 (max_procs + 1) n

-- Request 10: seventeen words a frame, places 1 to 16, then the count, frame after frame
abbrev pub frame_count : List ℕ → ℕ
frame_count book = length book / 17

-- the word in frame k's place numbered n: a mapping of owner n, or 0
abbrev pub mapping : List ℕ → ℕ → ℕ → ℕ
mapping book k n = get_or book (17 * k + (n - 1)) 0

-- the holder count of frame k
abbrev pub holders : List ℕ → ℕ → ℕ
holders book k = get_or book (17 * k + 16) 0

-- the highest number below c that passes the test
abbrev pub highest : (ℕ → Bool) → ℕ → Option ℕ
highest t zero = None
highest t (suc c) = t c ⇒ Some c else highest t c

-- how many numbers below c pass the test
abbrev pub count_below : (ℕ → Bool) → ℕ → ℕ
count_below t zero = 0
count_below t (suc c) = t c ⇒ count_below t c + 1 else count_below t c

-- a frame is free when no mapping names it: its count is 0
abbrev pub is_free : List ℕ → ℕ → Bool
is_free book k = holders book k is 0

-- the highest-numbered free frame, and how many frames are free
abbrev pub free_frame : List ℕ → Option ℕ
free_frame book = highest (is_free book) (frame_count book)

abbrev pub free : List ℕ → ℕ
free book = count_below (is_free book) (frame_count book)

-- whether a word names an owner's page, and the frame of that page
abbrev pub owns : ℕ → ℕ → ℕ → Bool
owns n page w = w isnt 0 && owner_of w is n && page_of w is page

abbrev pub frame_of : List ℕ → ℕ → ℕ → Option ℕ
frame_of book n page = highest (λ k. owns n page (mapping book k n)) (frame_count book)

-- the permission that the book gives an owner's page
abbrev pub perm_in : List ℕ → ℕ → Option ℕ → Option ℕ
perm_in book n None = None
perm_in book n (Some k) = Some (perm_of (mapping book k n))

abbrev pub book_perm : List ℕ → ℕ → ℕ → Option ℕ
book_perm book n page = perm_in book n (frame_of book n page)

-- Request 10: how many frames a process holds alone
abbrev pub is_alone : List ℕ → ℕ → ℕ → Bool
is_alone book n k = mapping book k n isnt 0 && holders book k is 1

abbrev pub alone : List ℕ → ℕ → ℕ
alone book n = count_below (is_alone book n) (frame_count book)

-- ---- process records

-- a range, a segment, and the zero record
abbrev pub range : ℕ → ℕ → VirtRange
range a b = record { start = a; end = b }

abbrev pub segment : ℕ → ℕ → ℕ → UserSegment
segment a b perm = record { range = range a b; perm = perm }

abbrev pub zero_segment : UserSegment
zero_segment = segment 0 0 0

abbrev pub zero_proc : Proc
zero_proc = record { segments = replicate 16 zero_segment; text = replicate 28 0; bss = range 0 0 }

-- whether two segments are equal
abbrev pub same_segment : UserSegment → UserSegment → Bool
same_segment g h = g.range.start is h.range.start && g.range.end is h.range.end && g.perm is h.perm

-- an unused place is zero
abbrev pub unused : UserSegment → Bool
unused g = same_segment g zero_segment

-- a process lives unless its record is all zero
abbrev pub lives : Proc → Bool
lives p = not (all unused p.segments && all (λ b. b is 0) p.text && p.bss.start is 0 && p.bss.end is 0)

-- the recorded segments: those before the unused places
abbrev pub used : List UserSegment → List UserSegment
used [] = []
used (g ∷ gs) = unused g ⇒ [] else g ∷ used gs

-- the whole stack as data
abbrev pub stack : Setup → UserSegment
stack setup = segment (setup.ustktop - setup.ustksize) setup.ustktop 3

-- the bss from its rounded start, as data
abbrev pub bss_segment : VirtRange → UserSegment
bss_segment b = segment (page_up b.start) b.end 3

-- the pieces that pages come from, in the order of `copy_segments`: segments in record order, then the bss
abbrev pub pieces : List UserSegment → VirtRange → List UserSegment
pieces segments bss = segments ++ bss_segment bss ∷ []

-- a segment holds an address
abbrev pub in_segment : ℕ → UserSegment → Bool
in_segment a g = within g.range.start g.range.end a

-- the permission that pieces give an address, if one of them holds it
abbrev pub perm_at : List UserSegment → ℕ → Option ℕ
perm_at [] a = None
perm_at (g ∷ gs) a = in_segment a g ⇒ Some g.perm else perm_at gs a

-- how many pages pieces have
abbrev pub page_count : List UserSegment → ℕ
page_count [] = 0
page_count (g ∷ gs) = (g.range.end - g.range.start) / 4096 + page_count gs

-- the record of process n
abbrev pub proc_at : Procs → ℕ → Proc
proc_at ps n = get_or ps.all (n - 1) zero_proc

-- Request 10: data, bss and stack, which fork copies; text and rodata, which it shares
abbrev pub data_only : List UserSegment → List UserSegment
data_only gs = filter (λ g. g.perm is 3) gs

abbrev pub text_only : List UserSegment → List UserSegment
text_only gs = filter (λ g. g.perm isnt 3) gs

-- segment pages and the bss from its rounded start make up a record's pages
abbrev pub pieces_of : Proc → List UserSegment
pieces_of p = pieces (used p.segments) p.bss
