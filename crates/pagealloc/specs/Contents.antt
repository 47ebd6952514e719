-- What pages hold: the file bytes that fall into a page, and zeros. The specification's `page_bytes` goes address by address; a page is
-- loaded in two steps (request 3), the file's part put in place, then the rest cleared.
-- Assumes nothing.
use Rattle.std.specs.Prelude.{ℕ, ◌+◌, ◌-◌, min, max, List, length, get_or, take, drop, replicate}
use Rattle.spec.specs.Tests.{◌below◌, within, ◌⇒◌else◌}
use Rattle.spec.specs.Frames.{put}
use Rattle.pagealloc.specs.declared.pages.Part.{Part}

-- the byte at an address of a segment whose file bytes stand at `vaddr`: those, and zero elsewhere
abbrev pub file_at : ℕ → List ℕ → ℕ → ℕ
file_at vaddr file a = within vaddr (vaddr + length file) a ⇒ get_or file (a - vaddr) 0 else 0

-- the part of the page at `page` that is the file's, whose `size` bytes stand at `vaddr`: the places `from` up to, but not including,
-- `to` hold the file bytes from place `skip` on; none where no file byte falls into the page
abbrev pub file_part : ℕ → ℕ → ℕ → Part
file_part page vaddr size =
    let low : ℕ = max page vaddr in
    let high : ℕ = min (page + 4096) (vaddr + size) in
    low below high ⇒ record { from = low - page; to = high - page; skip = low - vaddr } else record { from = 0; to = 0; skip = 0 }

-- the first step: the file's part is put in place in the frame at `at`
abbrev pub copied : List ℕ → ℕ → Part → List ℕ → List ℕ
copied frames at part file = put frames (at + part.from) (take (part.to - part.from) (drop part.skip file))

-- the second: what lies before it in the page, and after it, is cleared
abbrev pub cleared : List ℕ → ℕ → Part → List ℕ
cleared frames at part = put (put frames at (replicate part.from 0)) (at + part.to) (replicate (4096 - part.to) 0)
