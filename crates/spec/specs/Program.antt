-- Request 9: what a reader gives of an image, whatever its form: where the program is entered, and its segments with their file bytes.
-- Layout, pages and processes are stated over this, and don't know what an image is.
-- Assumes nothing.
use Rattle.std.specs.Prelude.{ℕ, ◌+◌, Bool, List, length}
use Rattle.spec.specs.Tests.{within}

-- a loadable segment: `memsz` bytes at `vaddr`, of which the first are `file`, and the rest zero
pub record Segment : Type 0 where
  pub vaddr : ℕ
  pub memsz : ℕ
  pub file : List ℕ
  pub perm : ℕ

-- an address lies in the file bytes of a segment
abbrev pub in_file : ℕ → Segment → Bool
in_file a g = within g.vaddr (g.vaddr + length g.file) a

pub record Program : Type 0 where
  pub entry : ℕ
  pub segments : List Segment
