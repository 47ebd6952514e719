-- What a reader gives: a part of its image, and the segments that its headers describe. `flags` is the flag table.
-- Assumes nothing.
use Rattle.std.specs.Prelude.{ℕ, ◌+◌, ◌*◌, ◌-◌, ◌^◌, ◌≤◌, List, [], length, take, drop, Option, None, Some}
use Rattle.spec.specs.Tests.{◌below◌, ◌above◌, ◌⇒◌else◌}
use Rattle.spec.specs.Elf.{Phdr, loads, flag_perm, phdr_at, phoff, phnum}
use Rattle.elf.specs.declared.Segment.{Segment as Held}

-- n bytes of an image from a place on, or none where they leave the image, which those of an accepted image's segment never do
abbrev pub part_of : List ℕ → ℕ → ℕ → List ℕ
part_of image from n = from + n above length image ⇒ [] else take n (drop from image)

-- what a loader reads at a header: the segment that it describes, unless it is skipped
abbrev pub segment_from : List ℕ → Phdr → Held
segment_from flags p = record { vaddr = p.vaddr; memsz = p.memsz; offset = p.offset; filesz = p.filesz; perm = flag_perm flags p }

abbrev pub load_of : List ℕ → Phdr → Option Held
load_of flags p = loads p ⇒ Some (segment_from flags p) else None

-- and of header i of an image: nothing where its table ends before it
abbrev pub load_in : List ℕ → List ℕ → ℕ → Option Held
load_in flags image i = i below phnum image ⇒ load_of flags (phdr_at image (phoff image + 56 * i)) else None

-- what holds of a segment that passed, in an image of n bytes
pub record Checked (n : ℕ) (g : Held) : Type 0 where
  pub file : g.filesz ≤ g.memsz
  pub within : g.offset + g.filesz ≤ n
  pub end : g.vaddr + g.memsz ≤ 2 ^ 64 - 4096

abbrev pub CheckedLoad : ℕ → Option Held → Type 0
CheckedLoad n None = Unit {0}
CheckedLoad n (Some g) = Checked n g
