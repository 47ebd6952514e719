-- The table before the pass, and what a sound book leaves of it.
use Prim.Native.Nat.{ℕ, ◌≤◌}
use mathlib.Core.Path.{◌≡◌, sym, ap, ◌∙◌}
use mathlib.Core.Bool.{Bool, true, false, false≢true}
use mathlib.Core.List.{List}
use lib.ListN.{get_or}
use Rattle.spec.specs.Sound.{Sound}
use Rattle.spec.specs.declared.Setup.{Setup}
use Rattle.spec.specs.declared.Procs.{Procs}
use Rattle.sound_table.specs.Table.{Marked, Blank}
use Rattle.sound.specs.declared.Lookup.{Lookup}
use Rattle.sound.specs.Table.{Zeros, Filled, Ready, Leaves, found}
use Rattle.spec_laws.proofs.Lists.{get_or-same}
use Rattle.sound_plan.proofs.Laying.{tags-are, bases-are}
use Rattle.sound_table.proofs.Places.{table_is}
use Rattle.sound.proofs.Planning.{Made, plan}

-- ---- zeros

module _ {l : Lookup} (z : Zeros l) where
  pub table-blank : Blank l.table
  table-blank t = ap (λ (l : List ℕ). get_or l t 0) z.table-are ∙ get_or-same 1024 t 0

-- what the pass leaves of a sound book
pub filled : {setup : Setup} (ps : Procs) (l : Lookup) (total : ℕ) → Made setup ps l.plan.tags l.plan.bases total → total ≤ 16384
    → (b : List ℕ) (number : ℕ) (r : Bool) → Marked b l.plan.tags l.plan.bases number l.table r → r ≡ true → Sound setup b ps → Filled b ps number l
filled {setup} ps l total m most b number r found q s = record {
  tags-are = tags-are m.laid;
  bases-are = bases-are m.laid;
  table-are = table_is b l.plan.tags l.plan.bases l.table number (found.long q) (found.tabled q);
  ready = record { plan = plan m most; under = setup; planned = found.planned q; mappings = s.mappings; tabled = found.tabled q; full = found.full q; few = found.few q };
}

-- ---- what is left

module _ {book : List ℕ} {procs : Procs} {number : ℕ} {l : Lookup} where
  -- after a number that is given before the book is found sound, and after the others or none
  pub left-zeros : (r : ℕ) → found r ≡ false → Zeros l → Leaves r book procs number l
  left-zeros r e z = record { filled = λ y. absurd (false≢true (sym e ∙ y)); zeros = λ _. z }

  pub left-filled : (r : ℕ) → found r ≡ true → Filled book procs number l → Leaves r book procs number l
  left-filled r e y = record { filled = λ _. y; zeros = λ n. absurd (false≢true (sym n ∙ e)) }

  -- where no number is given
  pub filled_of : {r : ℕ} → Leaves r book procs number l → r ≡ 0 → Filled book procs number l
  filled_of l z = l.filled (ap found z)

  pub ready_of : {r : ℕ} → Leaves r book procs number l → r ≡ 0 → Ready book number l
  ready_of l z = (filled_of l z).ready
