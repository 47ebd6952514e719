-- Request 3: what a reader may ask of the two steps. They hold for any earlier bytes of the frames.
-- Assumes nothing.
use Rattle.std.specs.Prelude.{ℕ, ◌+◌, ◌-◌, ◌≤◌, ◌<◌, ◌≡◌, Bool, not, ◌&&◌, List, length, get_or, take, drop}
use Rattle.spec.specs.Tests.{within, ◌⇒◌else◌}
use Rattle.spec.specs.Numbers.{page_bytes, zero_page}
use Rattle.spec.specs.Frames.{put}
use Rattle.pagealloc.specs.declared.pages.Part.{Part}
use Rattle.pagealloc.specs.Contents.{file_at, file_part, copied, cleared}

-- a place of the frames that lies in the frame at `at`, and in the file's part of it
abbrev pub in_frame : ℕ → ℕ → Bool
in_frame at a = within at (at + 4096) a

abbrev pub in_part : ℕ → Part → ℕ → Bool
in_part at part a = within (at + part.from) (at + part.to) a

-- of the page at `page` of a segment whose file bytes stand at `vaddr`, in the frame at `at`
pub record StepsMean (at page vaddr : ℕ) (file : List ℕ) (part : Part) : Type 0 where
  -- the file's part is the right one: where a byte of the file stands
  pub right : (i : ℕ) → i < 4096 → in_part at part (at + i) ≡ within vaddr (vaddr + length file) (page + i)
  -- copying changes only the file's part, into the file's bytes
  pub copying : (frames : List ℕ) → at + 4096 ≤ length frames → (a : ℕ)
      → get_or (copied frames at part file) a 0 ≡ (in_part at part a ⇒ file_at vaddr file (page + (a - at)) else get_or frames a 0)
  -- clearing changes only the rest of the page, into zeros
  pub clearing : (frames : List ℕ) → at + 4096 ≤ length frames → (a : ℕ)
      → get_or (cleared frames at part) a 0 ≡ (in_frame at a && not (in_part at part a) ⇒ 0 else get_or frames a 0)
  -- no byte is added or lost
  pub copying-length : (frames : List ℕ) → at + 4096 ≤ length frames → length (copied frames at part file) ≡ length frames
  pub clearing-length : (frames : List ℕ) → at + 4096 ≤ length frames → length (cleared frames at part) ≡ length frames
  -- both, in either order, make the page what the rule says, and leave every other frame
  pub copied-first : (frames : List ℕ) → at + 4096 ≤ length frames → cleared (copied frames at part file) at part ≡ put frames at (page_bytes (file_at vaddr file) page)
  pub cleared-first : (frames : List ℕ) → at + 4096 ≤ length frames → copied (cleared frames at part) at part file ≡ put frames at (page_bytes (file_at vaddr file) page)
  -- the page is the same, whatever stood in the frame before
  pub forgets : (frames others : List ℕ) → at + 4096 ≤ length frames → at + 4096 ≤ length others
      → take 4096 (drop at (cleared (copied frames at part file) at part)) ≡ take 4096 (drop at (cleared (copied others at part file) at part))
  -- a page with no file bytes is cleared whole; a page that is all file bytes is not cleared at all
  pub no-file : ((i : ℕ) → i < 4096 → vaddr ≤ page + i → page + i < vaddr + length file → ⊥) → (frames : List ℕ) → at + 4096 ≤ length frames → cleared frames at part ≡ put frames at (zero_page page)
  pub all-file : vaddr ≤ page → page + 4096 ≤ vaddr + length file → (frames : List ℕ) → at + 4096 ≤ length frames → cleared frames at part ≡ frames

-- that is what loading a page does
abbrev pub Steps : Type 0
Steps = (at page vaddr : ℕ) (file : List ℕ) → StepsMean at page vaddr file (file_part page vaddr (length file))
