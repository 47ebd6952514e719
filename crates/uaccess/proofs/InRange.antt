-- A range, page by page.
use Rattle.std.specs.Prelude.{Ok}
use Prim.Native.Nat.{ℕ, zero, suc, ◌+◌, ◌%◌, ◌≤◌, ◌<◌}
use native.Mathlib.Omega.{arith}
use mathlib.Core.Path.{◌≡◌, sym, ap, ◌∙◌}
use mathlib.Core.Bool.{Bool, true, false}
use mathlib.Core.List.{List}
use Rattle.spec.specs.Numbers.{page_down, SetupOk}
use Rattle.spec.specs.Frames.{Mem, mem_of, store}
use Rattle.spec.specs.Access.{cell_ok, access, user_range_ok}
use Rattle.spec.proofs.Ranges.{access-passed, range-means, one-fine}
use Rattle.spec.specs.declared.Setup.{Setup}
use Rattle.spec_laws.proofs.Allowed.{cell-allowed}

-- each address is allowed what its page is
abbrev pub Paged : Mem → Type 0
Paged mem = (a : ℕ) (write : Bool) → cell_ok write (mem a) ≡ cell_ok write (mem (page_down a))

-- ---- the check

-- the addresses from low up to high are allowed
abbrev pub Clear : Mem → Bool → ℕ → ℕ → Type 0
Clear mem write low high = (a : ℕ) → low ≤ a → a < high → cell_ok write (mem a) ≡ true

-- a page that isn't has no address that is
pub page-bad : (mem : Mem) → Paged mem → (write : Bool) (va a : ℕ) → page_down a ≡ va → cell_ok write (mem va) ≡ false → cell_ok write (mem a) ≡ false
page-bad mem paged write va a p e = paged a write ∙ ap (λ (x : ℕ). cell_ok write (mem x)) p ∙ e

-- a range that is fine has passed
pub fine-ok : (setup : Setup) (mem : Mem) (write : Bool) (addr len : ℕ) → access setup mem write addr len ≡ Ok tt → user_range_ok setup mem write addr len ≡ true
fine-ok setup mem write addr len e = rw e

-- ---- what a range that passed says

-- each of its addresses may be read, or written, whatever the frames hold by now
pub range-cell : (setup : Setup) (f g book : List ℕ) (n : ℕ) (write : Bool) (addr len a : ℕ) → user_range_ok setup (mem_of (store f book) n) write addr len ≡ true → addr ≤ a → a < addr + len
    → cell_ok write (mem_of (store g book) n a) ≡ true
range-cell setup f g book n write addr len a e l h =
    cell-allowed (store g book) n a write ∙ sym (cell-allowed (store f book) n a write) ∙ ((range-means setup (mem_of (store f book) n) write addr len e).each a l h).1

-- it ends at or below the top
pub range-end : (setup : Setup) (mem : Mem) (write : Bool) (addr len : ℕ) → user_range_ok setup mem write addr len ≡ true → addr + len ≤ setup.uaddrtop
range-end setup mem write addr zero e = omega (arith, (range-means setup mem write addr 0 e).start)
range-end setup mem write addr (suc n) e = omega (arith, ((range-means setup mem write addr (suc n) e).each (addr + n) (omega arith) (omega arith)).0)

-- where one byte of a page can be read, each further one can
pub range-along : (setup : Setup) (ok : SetupOk setup) (mem : Mem) → Paged mem → (a i : ℕ) → access setup mem false a 1 ≡ Ok tt → a % 4096 + i < 4096 → access setup mem false (a + i) 1 ≡ Ok tt
range-along setup ok mem paged a i e h =
    let r = (access-passed setup mem false a 1 e).each a (omega arith) (omega arith) in
    let q : page_down (a + i) ≡ page_down a = omega arith in
    one-fine setup mem false (a + i) (omega (arith, ok, r.0), paged (a + i) false ∙ ap (λ (p : ℕ). cell_ok false (mem p)) q ∙ sym (paged a false) ∙ r.1)
