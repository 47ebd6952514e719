-- Item 6, segment.rs: the break's rule, and what a moved break leaves. (`copy_segments` is the order of Book's `pieces`.)
-- Assumes nothing.
use Rattle.std.specs.Prelude.{ℕ, ◌*◌, ◌-◌, ◌^◌, not, Option, None, Some}
use Rattle.spec.specs.Tests.{◌is◌, ◌below◌, ◌above◌, within, ◌⇒◌else◌}
use Rattle.spec.specs.Numbers.{limit, page_up}
use Rattle.spec.specs.Book.{range}
use Rattle.spec.specs.Frames.{Mem}
use Rattle.spec.specs.declared.Setup.{Setup}
use Rattle.spec.specs.declared.VirtRange.{VirtRange}

-- what a break comes to: the number it is refused with, or 0; its value; and the bss handed back
pub record Break : Type 0 where
  pub error : ℕ
  pub value : ℕ
  pub bss : Option VirtRange

-- refused: zeros, and the bss as it was
abbrev pub refused_by : ℕ → VirtRange → Break
refused_by error bss = record { error = error; value = 0; bss = Some bss }

-- accepted: the bss ends at `top`
abbrev pub ends_at : ℕ → VirtRange → Break
ends_at top bss = record { error = 0; value = 0; bss = Some (range bss.start top) }

-- `ibrk`'s rule, over an optional bss with any numbers in it, an address and a free count: no bss 32; address 0 answers bss start;
-- below start 33; rounding past 64 bits 33; above limit 34; shrink; too few frames 33; grow
unfoldable pub ibrk : Setup → Option VirtRange → ℕ → ℕ → Break
ibrk setup None addr free = record { error = 32; value = 0; bss = None }
ibrk setup (Some bss) addr free =
    addr is 0 ⇒ record { error = 0; value = bss.start; bss = Some bss } else
    addr below bss.start ⇒ refused_by 33 bss else
    not (page_up addr below 2 ^ 64) ⇒ refused_by 33 bss else
    page_up addr above limit setup ⇒ refused_by 34 bss else
    page_up addr below bss.end ⇒ ends_at (page_up addr) bss else
    page_up addr - bss.end above 4096 * free ⇒ refused_by 33 bss else
    ends_at (page_up addr) bss

-- bss pages from the old end up to the new come in as 0, bss pages past it go; all other bytes stay
abbrev pub moved : ℕ → ℕ → Mem → Mem
moved old new mem a =
    within old new a ⇒ Some (record { perm = 3; byte = 0 }) else
    within new old a ⇒ None else
    mem a
