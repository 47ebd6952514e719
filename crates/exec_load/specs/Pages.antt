-- The pages of loadable segments, each with its own file bytes. The specification gives a page's bytes over all segments at once
-- (`file_byte`); the loader goes segment by segment, and its laws prove that both come to the same pages.
-- Assumes nothing.
use Rattle.std.specs.Prelude.{ℕ, ◌+◌, ◌≤◌, List, [], ◌∷◌, ◌++◌, take, drop, Option, None, Some}
use Rattle.spec.specs.Numbers.{max_top, page_bytes}
use Rattle.spec.specs.Frames.{Page, pages_of}
use Rattle.spec.specs.Program.{Segment}
use Rattle.spec.specs.Exec.{user_segment}
use Rattle.spec.specs.declared.VirtRange.{VirtRange}
use Rattle.elf.specs.declared.Segment.{Segment as Held}
use Rattle.exec.specs.Pages.{pages_in}
use Rattle.pagealloc.specs.Contents.{file_at}

-- a segment's recorded pages, by a bss
abbrev pub one_pages : VirtRange → Segment → List Page
one_pages bss g = pages_of (page_bytes (file_at g.vaddr g.file)) (user_segment bss g ∷ [])

unfoldable pub segment_pages : VirtRange → List Segment → List Page
segment_pages bss [] = []
segment_pages bss (g ∷ gs) = one_pages bss g ++ segment_pages bss gs

-- the pages that one place gives, and what its segment must keep to
abbrev pub load_pages : List ℕ → VirtRange → Option Held → List Page
load_pages image bss None = []
load_pages image bss (Some g) = pages_of (page_bytes (file_at g.vaddr (take g.filesz (drop g.offset image)))) (pages_in bss g ∷ [])

abbrev pub LaidLoad : Option Held → Type 0
LaidLoad None = Unit {0}
LaidLoad (Some g) = g.vaddr + g.memsz ≤ max_top
