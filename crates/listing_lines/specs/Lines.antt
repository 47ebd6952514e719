-- The lines of a record's segments, and what is put of a listing. The lines are the specification's `segment_lines`, kept shut, since a decimal unfolds to twenty tests.
-- Assumes nothing.
use Rattle.std.specs.Prelude.{List, [], ◌++◌, ℕ}
use Rattle.spec.specs.Tests.{ascii, ◌below◌, ◌⇒◌else◌}
use Rattle.spec.specs.Numbers.{deposit}
use Rattle.spec.specs.Book.{page_count}
use Rattle.spec.specs.Program.{Program}
use Rattle.spec.specs.Exec.{program_segments, program_bss, start_pieces}
use Rattle.spec.specs.Listing.{range_text, kind_text, segment_lines, listing}
use Rattle.text.specs.Text.{field_text}
use Rattle.spec.specs.declared.VirtRange.{VirtRange}
use Rattle.spec.specs.declared.UserSegment.{UserSegment}

-- the specification's texts, kept shut as a number's is
unfoldable pub span_text : VirtRange → List ℕ
span_text r = range_text r

unfoldable pub lines_text : List UserSegment → List ℕ
lines_text us = segment_lines us

-- a segment's line
abbrev pub line_text : UserSegment → List ℕ
line_text g = ascii "segment=" ++ kind_text g.perm ++ span_text g.range

-- a program's lines: entry, segments, bss and pages
abbrev pub listed_text : Program → List ℕ
listed_text p =
    field_text (ascii "entry=") p.entry ++ lines_text (program_segments p) ++ ascii "bss=" ++ span_text (program_bss p)
    ++ field_text (ascii "pages=") (page_count (start_pieces deposit p))

-- what is put of an image's listing into a buffer of n bytes: all of it, or nothing where the longest would not fit
abbrev pub listing_in : ℕ → List ℕ → List ℕ
listing_in n image = n below 1024 ⇒ [] else listing image
