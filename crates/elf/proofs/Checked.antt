-- What checks 21 to 26 and 28 show of a header that passed them, for a loader.
-- Assumes nothing.
use mathlib.Core.Path.{◌≡◌, ap}
use mathlib.Core.Bool.{true}
use mathlib.Core.List.{List, [], ◌∷◌}
use Prim.Native.Nat.{ℕ, ◌+◌, ◌≤◌}
use native.Mathlib.Omega.{arith}
use lib.ListN.{length}
use Rattle.spec.specs.Flags.{flags_ok}
use Rattle.spec.specs.Numbers.{page_up}
use Rattle.spec.specs.Elf.{Phdr, loads, flag_perm, phdr_error}
use Rattle.spec.proofs.Bools.{split}
use Rattle.spec.proofs.Flags.{flag-most}
use Rattle.elf.specs.Reader.{segment_from, load_of, Checked}
use Rattle.elf.specs.declared.Segment.{Segment as Held}
use Rattle.std.specs.Prelude.{Option, None, Some}
use Rattle.spec_laws.proofs.Headers.{Header, header-means}

-- its segment, and its permission, which the flag table has
pub record Passed (flags : List ℕ) (n : ℕ) (p : Phdr) : Type 0 where
  pub checked : Checked n (segment_from flags p)
  pub perm : 1 ≤ flag_perm flags p

pub passed : (flags image : List ℕ) (end : ℕ) (p : Phdr) → Header flags image end p → Passed flags (length image) p
passed flags image end p h = record { checked = record { file = h.file; within = h.inside; end = h.fits }; perm = h.perm }

-- every header of those that pass has passed
abbrev pub AllChecked : List ℕ → ℕ → List Phdr → Type 0
AllChecked flags n [] = Unit {0}
AllChecked flags n (p ∷ ps) = Passed flags n p × AllChecked flags n ps

pub all-checked : (flags image : List ℕ) (end : ℕ) (ps : List Phdr) → phdr_error flags image end ps ≡ 0 → AllChecked flags (length image) ps
all-checked flags image end [] e = tt
all-checked flags image end (p ∷ ps) e =
    let h = header-means flags image end p ps e in
    (passed flags image end p h.0, all-checked flags image (page_up (p.vaddr + p.memsz)) ps h.1)

-- under an accepted table a permission is at most 3
abbrev pub perm_of : Option Held → ℕ
perm_of None = 0
perm_of (Some g) = g.perm

pub perm-most : (flags : List ℕ) (p : Phdr) (g : Held) → flags_ok flags ≡ true → load_of flags p ≡ Some g → g.perm ≤ 3
perm-most flags p g t e =
    let q : perm_of (load_of flags p) ≡ g.perm = ap perm_of e in
    let r : perm_of (load_of flags p) ≤ 3 = split (loads p) (λ l. rw l (flag-most flags p t)) (λ l. rw l (omega arith)) in
    omega (arith, q, r)
