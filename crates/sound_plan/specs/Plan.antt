-- The plan: every page that the records call for, in 272 parts, seventeen for each process (sixteen segments, then the bss). A part
-- has a tag, the word of its first page, and a base, how many pages the parts before it have. A page's rank is its place in the
-- order of the parts.
-- Assumes nothing.
use Rattle.std.specs.Prelude.{ℕ, zero, suc, ◌+◌, ◌*◌, ◌-◌, ◌/◌, ◌%◌, ◌<◌, ◌≤◌, ◌≡◌, Bool, true, false, ◌&&◌, List, length, get_or, leb, Option, None, Some}
use Rattle.spec.specs.Tests.{◌is◌, ◌below◌, ◌⇒◌else◌}
use Rattle.spec.specs.Numbers.{max_top, bytes_from}
use Rattle.spec.specs.Book.{word_of, owner_of, segment, zero_segment, bss_segment, proc_at}
use Rattle.spec.specs.declared.UserSegment.{UserSegment}
use Rattle.spec.specs.declared.Proc.{Proc}
use Rattle.spec.specs.declared.Procs.{Procs}

-- ---- parts

-- a place of a record as a part: an unused one is an empty part at the top, so that an owner's segments ascend
abbrev pub seat : UserSegment → UserSegment
seat g = g.perm is 0 ⇒ segment max_top max_top 0 else g

-- the parts of a record: sixteen segments and the bss
unfoldable pub part : Proc → ℕ → UserSegment
part p j = j below 16 ⇒ seat (get_or p.segments j zero_segment) else bss_segment p.bss

-- the word of a part's first page, and how many pages it has
abbrev pub tag : ℕ → UserSegment → ℕ
tag owner g = word_of g.range.start owner g.perm

abbrev pub size : UserSegment → ℕ
size g = (g.range.end - g.range.start) / 4096

-- f 0 + f 1 + .. + f (k - 1)
unfoldable pub sum_to : (ℕ → ℕ) → ℕ → ℕ
sum_to f zero = 0
sum_to f (suc k) = sum_to f k + f k

-- part k of all records: its owner, itself, its tag and its base
abbrev pub owner : ℕ → ℕ
owner k = k / 17 + 1

abbrev pub part_at : Procs → ℕ → UserSegment
part_at ps k = part (proc_at ps (owner k)) (k % 17)

abbrev pub tag_at : Procs → ℕ → ℕ
tag_at ps k = tag (owner k) (part_at ps k)

abbrev pub base_at : Procs → ℕ → ℕ
base_at ps k = sum_to (λ i. size (part_at ps i)) k

-- all tags; all bases, with the count of all pages after the last. Both are kept shut: written out they are long.
unfoldable pub tags_of : Procs → List ℕ
tags_of ps = bytes_from (tag_at ps) 0 272

unfoldable pub bases_of : Procs → List ℕ
bases_of ps = bytes_from (base_at ps) 0 273

-- ---- laying the plan

-- more pages than these no part has
abbrev pub max_pages : ℕ
max_pages = max_top / 4096

-- a part whose tag and base don't wrap
pub record Small (g : UserSegment) : Type 0 where
  pub ordered : g.range.start ≤ g.range.end
  pub high : g.range.end ≤ max_top
  pub perm-high : g.perm ≤ 3

-- the parts of a record, all of them small
pub record SmallParts (p : Proc) : Type 0 where
  pub segments : (j : ℕ) → j < 16 → Small (seat (get_or p.segments j zero_segment))
  pub bss : Small (bss_segment p.bss)

-- the first j parts of process n + 1 are laid, from the pages of the processes before it up to t pages
pub record Laid (p : Proc) (n total : ℕ) (tags₀ bases₀ tags bases : List ℕ) (t j : ℕ) : Type 0 where
  pub tag_is : (i : ℕ) → i < j → get_or tags (17 * n + i) 0 ≡ tag (n + 1) (part p i)
  pub base-is : (i : ℕ) → i < j → get_or bases (17 * n + i) 0 ≡ total + sum_to (λ i. size (part p i)) i
  pub tags-before : (k : ℕ) → k < 17 * n → get_or tags k 0 ≡ get_or tags₀ k 0
  pub bases-before : (k : ℕ) → k < 17 * n → get_or bases k 0 ≡ get_or bases₀ k 0
  pub sum : t ≡ total + sum_to (λ i. size (part p i)) j
  pub bound : t ≤ (17 * n + j) * max_pages
  pub tags-long : length tags ≡ 272
  pub bases-long : length bases ≡ 273

-- the parts of the first n processes are laid, up to t pages
pub record LaidTo (ps : Procs) (n : ℕ) (tags bases : List ℕ) (t : ℕ) : Type 0 where
  pub tag_is : (k : ℕ) → k < 17 * n → get_or tags k 0 ≡ tag_at ps k
  pub base-is : (k : ℕ) → k < 17 * n → get_or bases k 0 ≡ base_at ps k
  pub sum : t ≡ base_at ps (17 * n)
  pub bound : t ≤ 17 * n * max_pages
  pub tags-long : length tags ≡ 272
  pub bases-long : length bases ≡ 273

-- all parts are laid, with the count of all pages after the last base
pub record LaidAll (ps : Procs) (tags bases : List ℕ) (total : ℕ) : Type 0 where
  pub tag_is : (k : ℕ) → k < 272 → get_or tags k 0 ≡ tag_at ps k
  pub base-is : (k : ℕ) → k ≤ 272 → get_or bases k 0 ≡ base_at ps k
  pub sum : total ≡ base_at ps 272
  pub tags-long : length tags ≡ 272
  pub bases-long : length bases ≡ 273

-- ---- words and ranks

-- bases don't fall
abbrev pub Rising : List ℕ → Type 0
Rising bases = (k : ℕ) → k < 272 → get_or bases k 0 ≤ get_or bases (k + 1) 0

-- whether a word is of a page of part k
unfoldable pub hits : List ℕ → List ℕ → ℕ → ℕ → Bool
hits tags bases w k =
    leb (get_or tags k 0) w
    && ((w - get_or tags k 0) % 4096 is 0 && (w - get_or tags k 0) / 4096 below get_or bases (k + 1) 0 - get_or bases k 0)

-- the word of a rank, among the first s parts, and among all
unfoldable pub nth_of : (ℕ → ℕ) → (ℕ → ℕ) → ℕ → ℕ → ℕ
nth_of tag base zero t = 0
nth_of tag base (suc s) t = leb (base s) t ⇒ tag s + 4096 * (t - base s) else nth_of tag base s t

abbrev pub nth : List ℕ → List ℕ → ℕ → ℕ
nth tags bases t = nth_of (λ k. get_or tags k 0) (λ k. get_or bases k 0) 272 t

-- the rank of a word of part k
abbrev pub rank : List ℕ → List ℕ → ℕ → ℕ → ℕ
rank tags bases w k = get_or bases k 0 + (w - get_or tags k 0) / 4096

-- the part that a word is of, or none where it is of no part of its owner
abbrev pub PartOf : List ℕ → List ℕ → ℕ → Option ℕ → Type 0
PartOf tags bases w (Some k) = (k < 272) × (hits tags bases w k ≡ true)
PartOf tags bases w None = (k : ℕ) → k < 272 → owner k ≡ owner_of w → hits tags bases w k ≡ false

-- the later of two places, k + step and k, whose tag is at most w
abbrev pub later : List ℕ → ℕ → ℕ → ℕ → ℕ
later tags k step w = leb (get_or tags (k + step) 0) w ⇒ k + step else k

-- tags don't fall over the sixteen places from `first` on
abbrev pub Ascending : List ℕ → ℕ → Type 0
Ascending tags first = (i j : ℕ) → first ≤ i → i ≤ j → j < first + 16 → get_or tags i 0 ≤ get_or tags j 0

-- of these the last whose tag is at most w, if there is one, is among the n places from k on, and all after them are above w
pub record Span (tags : List ℕ) (first w k n : ℕ) : Type 0 where
  pub low : first ≤ k
  pub high : k + n ≤ first + 16
  pub at : first < k → get_or tags k 0 ≤ w
  pub past : (l : ℕ) → k + n ≤ l → l < first + 16 → w < get_or tags l 0

-- part k lies before part l: its tag isn't above that of l, and its words are below it
pub record Before (tags bases : List ℕ) (k l : ℕ) : Type 0 where
  pub tag_up : get_or tags k 0 ≤ get_or tags l 0
  pub end-up : get_or tags k 0 + 4096 * (get_or bases (k + 1) 0 - get_or bases k 0) ≤ get_or tags l 0 + 3

-- a plan of at most 16,384 pages, 1,024 for each process: each part is of its owner, and each rank has a word of its own
pub record Plan (tags bases : List ℕ) : Type 0 where
  pub rising : Rising bases
  pub most : get_or bases 272 0 ≤ 16384
  pub owner-is : (k : ℕ) → k < 272 → owner_of (get_or tags k 0) ≡ owner k
  pub ascends : (k l : ℕ) → owner k ≡ owner l → k < l → l < 272 → l % 17 < 16 → Before tags bases k l
  pub apart : (t u : ℕ) → t < get_or bases 272 0 → u < get_or bases 272 0 → nth tags bases t ≡ nth tags bases u → t ≡ u
  pub some : (t : ℕ) → t < get_or bases 272 0 → nth tags bases t ≡ 0 → ⊥
