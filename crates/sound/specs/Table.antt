-- What a call lends to the check: zeros, as it comes in; afterwards the plan and a process's table of frames where the book was found
-- sound, or zeros again. Plan and table themselves stand in the crates of these names.
-- Assumes nothing.
use Rattle.std.specs.Prelude.{ℕ, ◌≡◌, Bool, true, false, not, ◌&&◌, List, replicate}
use Rattle.spec.specs.Tests.{◌is◌, ◌below◌}
use Rattle.spec.specs.declared.Procs.{Procs}
use Rattle.sound_plan.specs.Plan.{tags_of, bases_of}
use Rattle.sound_table.specs.Table.{table_of}
use Rattle.sound.specs.declared.Lookup.{Lookup}
pub use Rattle.sound.specs.Ready.{Ready}

-- all of it is zeros
pub record Zeros (l : Lookup) : Type 0 where
  pub tags-are : l.plan.tags ≡ replicate 272 0
  pub bases-are : l.plan.bases ≡ replicate 273 0
  pub table-are : l.table ≡ replicate 1024 0

-- the records' plan and the table of the frames that a process's pages have in the book, ready for lookups
pub record Filled (book : List ℕ) (procs : Procs) (number : ℕ) (l : Lookup) : Type 0 where
  pub tags-are : l.plan.tags ≡ tags_of procs
  pub bases-are : l.plan.bases ≡ bases_of procs
  pub table-are : l.table ≡ table_of book number l.plan.tags l.plan.bases
  pub ready : Ready book number l

-- whether the book was found sound before number r was given, or 0: 1, 38, 39 and 2 judge sizes, the setup and the book
abbrev pub found : ℕ → Bool
found r = r below 38 && (not (r is 1) && not (r is 2))

-- what is left then
pub record Leaves (r : ℕ) (book : List ℕ) (procs : Procs) (number : ℕ) (l : Lookup) : Type 0 where
  pub filled : found r ≡ true → Filled book procs number l
  pub zeros : found r ≡ false → Zeros l
