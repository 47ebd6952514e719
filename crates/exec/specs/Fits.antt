-- What the layout of a program comes to: whether its segments fit, and the bss behind them. The code goes place by place, so that
-- it is stated for one more segment and for all; `fits` is the specification's `layout_ok` with `bss_of`.
-- Assumes nothing.
use Rattle.std.specs.Prelude.{◌+◌, false, not, ◌&&◌, ◌||◌, List, [], ◌∷◌, length, Option, None, Some}
use Rattle.spec.specs.Tests.{◌is◌, ◌below◌, ◌above◌, ◌⇒◌else◌}
use Rattle.spec.specs.Numbers.{limit, page_up}
use Rattle.spec.specs.Book.{range}
use Rattle.spec.specs.Program.{Segment}
use Rattle.spec.specs.Exec.{layout_ok, bss_of}
use Rattle.spec.specs.declared.Setup.{Setup}
use Rattle.spec.specs.declared.VirtRange.{VirtRange}
use Rattle.elf.specs.declared.Segment.{Segment as Held}
use Rattle.exec.specs.declared.layout.Laid.{Laid}

-- what a segment leaves behind it: whether it is data, and the bss
abbrev pub laid : Held → Laid
laid g = record {
  closed = g.perm is 3;
  bss = range (g.perm is 3 ⇒ g.vaddr + g.filesz else page_up (g.vaddr + g.memsz)) (page_up (g.vaddr + g.memsz));
}

-- one more segment: nothing follows data, and it lies between UTZERO and limit
abbrev pub fit_of : Setup → Laid → Option Held → Option Laid
fit_of setup before None = Some before
fit_of setup before (Some g) = before.closed || g.vaddr below setup.utzero || g.vaddr + g.memsz above limit setup ⇒ None else Some (laid g)

-- before the first segment
abbrev pub nothing : Laid
nothing = record { closed = false; bss = range 0 0 }

-- all the segments: what the last of them leaves, where the layout is right
abbrev pub last_of : Laid → List Segment → Laid
last_of before [] = before
last_of before (g ∷ gs) = last_of (record { closed = g.perm is 3; bss = bss_of (g ∷ []) }) gs

abbrev pub fits : Setup → Laid → List Segment → Option Laid
fits setup before gs = (not before.closed || length gs is 0) && layout_ok setup gs ⇒ Some (last_of before gs) else None

-- the bss of a program whose layout is right
abbrev pub bss_behind : Setup → List Segment → Option VirtRange
bss_behind setup gs = layout_ok setup gs ⇒ Some (bss_of gs) else None
