-- The segments of a record that a program's pages make. The code goes place by place and fills an array, so that it is stated for
-- one more segment and for all.
-- Assumes nothing.
use Rattle.std.specs.Prelude.{◌+◌, ◌-◌, List, ◌++◌, length, set, replicate, Option, None, Some}
use Rattle.spec.specs.Tests.{◌is◌, ◌below◌, ◌above◌, ◌⇒◌else◌}
use Rattle.spec.specs.Numbers.{page_up, page_down}
use Rattle.spec.specs.Book.{segment, zero_segment}
use Rattle.spec.specs.declared.VirtRange.{VirtRange}
use Rattle.spec.specs.declared.UserSegment.{UserSegment}
use Rattle.elf.specs.declared.Segment.{Segment as Held}
use Rattle.exec.specs.declared.recorded.Recorded.{Recorded}

-- a segment's pages, by a bss
abbrev pub pages_in : VirtRange → Held → UserSegment
pages_in bss g = segment (page_down g.vaddr) (g.perm is 3 ⇒ page_up bss.start else page_up (g.vaddr + g.memsz)) g.perm

-- one more: dropped if it is empty, and none behind fifteen
abbrev pub pushed : Recorded → UserSegment → Option Recorded
pushed r u =
    u.range.start below u.range.end ⇒ (r.count below 15 ⇒ Some (record { segments = set r.segments r.count u; count = r.count + 1 }) else None) else
    Some r

abbrev pub recorded_with : VirtRange → Recorded → Option Held → Option Recorded
recorded_with bss r None = Some r
recorded_with bss r (Some g) = pushed r (pages_in bss g)

-- all of them, if they are at most fifteen
abbrev pub recorded : List UserSegment → Recorded
recorded us = record { segments = us ++ replicate (16 - length us) zero_segment; count = length us }

abbrev pub all_recorded : List UserSegment → Option Recorded
all_recorded us = length us above 15 ⇒ None else Some (recorded us)
