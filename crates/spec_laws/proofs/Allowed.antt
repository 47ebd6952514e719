-- What a process may read and write, page by page.
use Prim.Native.Nat.{ℕ}
use native.Mathlib.Omega.{arith}
use mathlib.Core.Path.{◌≡◌, refl, sym, ap, ◌∙◌}
use mathlib.Core.Bool.{Bool, true, false}
use Rattle.std.specs.Prelude.{Option, None, Some}
use Rattle.spec.specs.Numbers.{page_down}
use Rattle.spec.specs.Book.{book_perm}
use Rattle.spec.specs.Frames.{Store, Cell, mem_of}
use Rattle.spec.specs.Access.{cell_ok}
use Rattle.spec.specs.Sound.{gives}
use Rattle.spec.specs.History as history
use Rattle.spec_laws.proofs.Frame.{mem-perm}

-- whether a permission is given, and whether it is given to write
abbrev pub allowed : Bool → Option ℕ → Bool
allowed true o = gives o 3
allowed false None = false
allowed false (Some q) = true

-- it goes by the permission of the address's page
pub cell-allowed : (m : Store) (n a : ℕ) (write : Bool) → cell_ok write (mem_of m n a) ≡ allowed write (book_perm m.book n (page_down a))
cell-allowed m n a write = go write (mem_of m n a) ∙ ap (allowed write) (mem-perm m n a)
  where
    go : (w : Bool) (c : Option Cell) → cell_ok w c ≡ allowed w (history.perm_in c)
    go true None = refl
    go true (Some c) = refl
    go false None = refl
    go false (Some c) = refl

-- so each address of a page is allowed what the page is
pub cell-page : (m : Store) (n a : ℕ) (write : Bool) → cell_ok write (mem_of m n a) ≡ cell_ok write (mem_of m n (page_down a))
cell-page m n a write =
    let e : page_down a ≡ page_down (page_down a) = omega arith in
    cell-allowed m n a write ∙ ap (λ (x : ℕ). allowed write (book_perm m.book n x)) e ∙ sym (cell-allowed m n (page_down a) write)
