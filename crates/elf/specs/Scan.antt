-- The walk over the program headers, and what a step over one comes to. The code walks them once, so that checks 21 to 28 are stated here
-- from any header on. `flags` is the flag table.
-- Assumes nothing.
use Rattle.std.specs.Prelude.{ℕ, ◌≡◌, Bool, false, ◌&&◌, ◌||◌, List, ◌∷◌, map, length, Result, Ok, Err}
use Rattle.spec.specs.Tests.{◌is◌, ◌⇒◌else◌, ◌or_else◌, any, filter}
use Rattle.spec.specs.Program.{Segment as Loadable, in_file}
use Rattle.spec.specs.Elf.{Phdr, phdrs_from, loads, phdr_error, segment_of, error_number}
use Rattle.spec.specs.declared.ElfError.{ElfError}
use Rattle.elf_header.specs.declared.header.Ehdr.{Ehdr}
use Rattle.elf_header.specs.Header.{fields_error}
use Rattle.elf.specs.declared.scan.Seen.{Seen}

-- the entry lies in the file bytes of a text segment
abbrev pub in_text : ℕ → Loadable → Bool
in_text a g = g.perm is 1 && in_file a g

-- k headers from a place on, without the skipped ones
abbrev pub left : List ℕ → ℕ → ℕ → List Phdr
left image at k = filter loads (phdrs_from image at k)

-- a header in front of others, unless it is skipped
abbrev pub keep : Phdr → List Phdr → List Phdr
keep p ps = loads p ⇒ p ∷ ps else ps

-- checks 21 to 28 of the headers that are left: the segment before them ends its page at `end`, and `found` says whether the entry was in one
unfoldable pub scan_error : List ℕ → List ℕ → ℕ → ℕ → Bool → List Phdr → ℕ
scan_error flags image a end found ps =
    phdr_error flags image end ps or_else
    (found || any (in_text a) (map (segment_of flags image) ps) ⇒ 0 else 27)

-- what a step over one header comes to: its refusal, or the checks of those behind it
abbrev pub step_error : List ℕ → List ℕ → ℕ → Result Seen ElfError → List Phdr → ℕ
step_error flags image a (Err e) ps = error_number e
step_error flags image a (Ok t) ps = scan_error flags image a t.end t.found ps

-- a step from what was seen over header p, whatever headers are behind it
abbrev pub Steps : List ℕ → List ℕ → ℕ → Seen → Phdr → Result Seen ElfError → Type 0
Steps flags image a seen p r = (ps : List Phdr) → scan_error flags image a seen.end seen.found (keep p ps) ≡ step_error flags image a r ps

-- checks 13 to 28 of an image with header h
abbrev pub image_error : List ℕ → List ℕ → Ehdr → ℕ
image_error flags image h = fields_error (length image) h or_else scan_error flags image h.entry 0 false (left image h.phoff h.phnum)
