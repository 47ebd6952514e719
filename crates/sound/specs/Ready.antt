-- What a sound book leaves for a call's lookups. Functions that look pages up ask it of their caller, who has made the check.
-- Assumes nothing.
use Rattle.std.specs.Prelude.{ℕ, ◌*◌, ◌≤◌, List}
use Rattle.spec.specs.Book.{frame_count}
use Rattle.spec.specs.Sound.{Mappings}
use Rattle.spec.specs.declared.Setup.{Setup}
use Rattle.sound_plan.specs.Plan.{Plan}
use Rattle.sound_table.specs.Table.{Planned, Full, first_of, count_of, Tabled}
use Rattle.sound.specs.declared.Lookup.{Lookup}

-- what a sound book leaves for lookups of a process's pages; they read no machine number, so the setup that it is sound under is not a
-- parameter
pub record Ready (book : List ℕ) (number : ℕ) (l : Lookup) : Type 0 where
  pub plan : Plan l.plan.tags l.plan.bases
  pub planned : Planned book l.plan.tags l.plan.bases (16 * frame_count book)
  pub under : Setup
  pub mappings : Mappings under book
  pub tabled : Tabled book l.plan.tags l.plan.bases (first_of l.plan.bases number) (count_of l.plan.bases number) l.table (16 * frame_count book)
  pub full : Full book l.plan.tags l.plan.bases
  pub few : count_of l.plan.bases number ≤ 1024
