-- A program's segments, as a reader of any form leaves them: each from the page end of the one before.
use Prim.Native.Nat.{ℕ, ◌+◌, ◌≤◌}
use native.Mathlib.Omega.{arith}
use mathlib.Core.Path.{◌≡◌}
use mathlib.Core.List.{List, [], ◌∷◌}
use lib.ListN.{length}
use Rattle.spec.specs.Numbers.{page_up, page_down}
use Rattle.spec.specs.Program.{Segment}

-- a segment from `end` on
pub record Loads (end : ℕ) (g : Segment) : Type 0 where
  pub file : length g.file ≤ g.memsz
  pub some_byte : 1 ≤ g.memsz
  pub perm : (1 ≤ g.perm) × (g.perm ≤ 3)
  pub ordered : end ≤ page_down g.vaddr

-- each from the page end of the one before
abbrev pub AllLoad : ℕ → List Segment → Type 0
AllLoad end [] = Unit {0}
AllLoad end (g ∷ gs) = Loads end g × AllLoad (page_up (g.vaddr + g.memsz)) gs

pub not-zero : (k : ℕ) → ¬ (k ≡ 0) → 1 ≤ k
not-zero k ne = omega arith
