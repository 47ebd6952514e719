-- Item 2: a sound book, as a test that can be run and as facts. A call is judged by the test; proofs use the facts, and crate spec_laws
-- proves that the two say the same.
-- Assumes nothing.
use Rattle.std.specs.Prelude.{ℕ, ◌+◌, ◌*◌, ◌-◌, ◌/◌, ◌%◌, ◌≤◌, ◌<◌, ◌≡◌, Bool, true, false, not, ◌&&◌, ◌||◌, List, [], ◌∷◌, ◌++◌, length, get_or, replicate, Option, None, Some}
use Rattle.spec.specs.Tests.{◌is◌, ◌isnt◌, ◌below◌, ◌above◌, within, ◌⇒◌else◌, all, all_below}
use Rattle.spec.specs.Numbers.{limit, SetupOk, max_procs, page_up}
use Rattle.spec.specs.Book.{page_of, owner_of, perm_of, valid, frame_count, mapping, holders, count_below, frame_of, book_perm, same_segment, zero_segment, unused, lives, stack, perm_at, proc_at, pieces_of}
use Rattle.spec.specs.declared.Setup.{Setup}
use Rattle.spec.specs.declared.VirtRange.{VirtRange}
use Rattle.spec.specs.declared.UserSegment.{UserSegment}
use Rattle.spec.specs.declared.Proc.{Proc}
use Rattle.spec.specs.declared.Procs.{Procs}

-- ---- the test

-- whether a search comes to a number: a page's permission, or its frame
abbrev pub gives : Option ℕ → ℕ → Bool
gives None x = false
gives (Some q) x = q is x

-- frame k's place numbered n is 0, or has owner n, permission 1 to 3 and a page from UTZERO to below UADDRTOP, which the owner has in
-- no other frame
abbrev pub place_ok : Setup → List ℕ → ℕ → ℕ → Bool
place_ok setup book k n =
    mapping book k n is 0
    || (owner_of (mapping book k n) is n && within 1 4 (perm_of (mapping book k n)) && within setup.utzero setup.uaddrtop (page_of (mapping book k n))
    && gives (frame_of book n (page_of (mapping book k n))) k)

-- Request 10: two mappings of a frame agree on page and permission, and are not of data: a data frame has at most one
abbrev pub beside : ℕ → ℕ → Bool
beside v w = v is 0 || w is 0 || (page_of v is page_of w && perm_of v is perm_of w && perm_of v isnt 3)

-- the mappings that name frame k
abbrev pub mapped : List ℕ → ℕ → ℕ
mapped book k = count_below (λ i. mapping book k (i + 1) isnt 0) max_procs

-- each place of a frame, any two of them, and its count, which is the number of the mappings that name it
abbrev pub frame_ok : Setup → List ℕ → ℕ → Bool
frame_ok setup book k =
    all_below max_procs (λ i. place_ok setup book k (i + 1))
    && all_below max_procs (λ i. all_below i (λ j. beside (mapping book k (j + 1)) (mapping book k (i + 1))))
    && holders book k is mapped book k

-- the bss start is at least UTZERO and at most its end, its end a page multiple and at most limit, its start rounded up not below `end`
abbrev pub bss_ok : Setup → ℕ → VirtRange → Bool
bss_ok setup end b =
    not (b.start below setup.utzero) && not (b.start above b.end) && b.end % 4096 is 0 && not (b.end above limit setup)
    && not (page_up b.start below end)

-- from `end` on, segments are page-aligned, non-empty, ascending, disjoint, at most at limit; the last is the whole stack; unused places are zero
abbrev pub segments_ok : Setup → ℕ → VirtRange → List UserSegment → Bool
segments_ok setup end bss [] = false
segments_ok setup end bss (g ∷ gs) =
    same_segment g (stack setup) ⇒ all unused gs && bss_ok setup end bss else
    (g.range.start % 4096 is 0 && g.range.end % 4096 is 0 && g.range.start below g.range.end
    && not (g.range.start below end) && not (g.range.end above limit setup) && segments_ok setup g.range.end bss gs)

-- the book has each page of a piece, with its permission
abbrev pub booked : List ℕ → ℕ → UserSegment → Bool
booked book n g = all_below ((g.range.end - g.range.start) / 4096) (λ i. gives (book_perm book n (g.range.start + 4096 * i)) g.perm)

-- and has no other page of the owner
abbrev pub recorded : List UserSegment → ℕ → Bool
recorded gs w = w is 0 || gives (perm_at gs (page_of w)) (perm_of w)

abbrev pub recorded_all : List ℕ → ℕ → List UserSegment → Bool
recorded_all book n gs = all_below (frame_count book) (λ k. recorded gs (mapping book k n))

-- a living process's pages are exactly its record's; a dead one owns nothing
abbrev pub proc_ok : Setup → List ℕ → ℕ → Proc → Bool
proc_ok setup book n p =
    lives p ⇒ segments_ok setup setup.utzero p.bss p.segments && all (booked book n) (pieces_of p) && recorded_all book n (pieces_of p) else
    recorded_all book n []

-- a sound book
unfoldable pub sound_book : Setup → List ℕ → Procs → Bool
sound_book setup book ps = all_below (frame_count book) (frame_ok setup book) && all_below max_procs (λ i. proc_ok setup book (i + 1) (proc_at ps (i + 1)))

-- ---- the facts

-- a mapping in the place numbered n
pub record Word (setup : Setup) (n w : ℕ) : Type 0 where
  pub owner : owner_of w ≡ n
  pub perm : (1 ≤ perm_of w) × (perm_of w ≤ 3)
  pub page : (setup.utzero ≤ page_of w) × (page_of w < setup.uaddrtop)

-- a segment of the image: page-aligned, non-empty, between UTZERO and limit
pub record ImageSegment (setup : Setup) (g : UserSegment) : Type 0 where
  pub aligned : (g.range.start % 4096 ≡ 0) × (g.range.end % 4096 ≡ 0)
  pub some-page : g.range.start < g.range.end
  pub between : (setup.utzero ≤ g.range.start) × (g.range.end ≤ limit setup)

-- a living process's record, whose image segments are `image`
pub record Shape (setup : Setup) (p : Proc) (image : List UserSegment) : Type 0 where
  pub segments : p.segments ≡ image ++ stack setup ∷ replicate (15 - length image) zero_segment
  pub at_most : length image ≤ 15
  pub each : (i : ℕ) → i < length image → ImageSegment setup (get_or image i zero_segment)
  pub ascending : (i : ℕ) → i + 1 < length image → (get_or image i zero_segment).range.end ≤ (get_or image (i + 1) zero_segment).range.start
  pub bss-start : setup.utzero ≤ p.bss.start
  pub bss-order : p.bss.start ≤ p.bss.end
  pub bss-end : (p.bss.end % 4096 ≡ 0) × (p.bss.end ≤ limit setup)
  pub bss-above : (i : ℕ) → i < length image → (get_or image i zero_segment).range.end ≤ page_up p.bss.start

-- two mappings of one frame
pub record Beside (v w : ℕ) : Type 0 where
  pub page : page_of v ≡ page_of w
  pub perm : perm_of v ≡ perm_of w
  pub no-data : perm_of v ≡ 3 → ⊥

-- what holds of the mappings, whatever the records say
pub record Mappings (setup : Setup) (book : List ℕ) : Type 0 where
  pub words : (k n : ℕ) → k < frame_count book → valid n ≡ true → ¬ (mapping book k n ≡ 0) → Word setup n (mapping book k n)
  pub once : (n j k : ℕ) → valid n ≡ true → j < frame_count book → k < frame_count book → ¬ (mapping book j n ≡ 0) → ¬ (mapping book k n ≡ 0)
      → page_of (mapping book j n) ≡ page_of (mapping book k n) → j ≡ k
  pub beside : (k m n : ℕ) → k < frame_count book → valid m ≡ true → valid n ≡ true → (m ≡ n → ⊥) → ¬ (mapping book k m ≡ 0) → ¬ (mapping book k n ≡ 0)
      → Beside (mapping book k m) (mapping book k n)
  pub counts : (k : ℕ) → k < frame_count book → holders book k ≡ mapped book k

-- a sound book under an accepted setup, by what holds of it
pub record Sound (setup : Setup) (book : List ℕ) (ps : Procs) : Type 0 where
  pub accepted : SetupOk setup
  pub mappings : Mappings setup book
  pub shape : (n : ℕ) → valid n ≡ true → lives (proc_at ps n) ≡ true → (image : List UserSegment) × Shape setup (proc_at ps n) image
  -- a living process's pages are exactly its record's, with those permissions; a dead one's record has none
  pub exact : (n page : ℕ) → valid n ≡ true → page % 4096 ≡ 0 → book_perm book n page ≡ perm_at (pieces_of (proc_at ps n)) page
