-- Flag tables: which there are, what a row holds, and that the built-in one changes nothing for its users.
use Prim.Native.Nat.{ℕ, ◌%◌, ◌≤◌, ◌<◌}
use native.Mathlib.Omega.{arith}
use mathlib.Core.Path.{◌≡◌, refl}
use mathlib.Core.Bool.{true, false}
use mathlib.Core.List.{List}
use lib.ListN.{get_or}
use borrow.Author.Tests.{eqb-true}
use Rattle.spec.specs.Tests.{◌is◌, within, ◌⇒◌else◌}
use Rattle.spec.specs.Flags.{built_in, row_ok, flags_ok}
use Rattle.spec.specs.Elf.{Phdr, flag_perm}
use Rattle.spec.proofs.Bools.{split, clash, both, below_at}

-- the built-in table: 5 (read, execute) text, 4 (read) rodata, 6 (read, write) data, others refused
pub flag-rule : (f : ℕ) → f < 8 → get_or built_in f 0 ≡ (f is 5 ⇒ 1 else f is 4 ⇒ 2 else f is 6 ⇒ 3 else 0)
flag-rule f h = eqb-true _ _ (below_at 8 (λ k. get_or built_in k 0 is (k is 5 ⇒ 1 else k is 4 ⇒ 2 else k is 6 ⇒ 3 else 0)) refl f h)

-- it is accepted
pub built-in-ok : flags_ok built_in ≡ true
unfolding flags_ok
built-in-ok = refl

-- a row of an accepted table is at most 3
row-most : (row code : ℕ) → row_ok row code ≡ true → code ≤ 3
row-most row code e =
    split (code is 0) (λ q. let z = eqb-true code 0 q in omega arith) (λ q₀.
    split (code is 1) (λ q. let z = eqb-true code 1 q in omega arith) (λ q₁.
    split (code is 2) (λ q. let z = eqb-true code 2 q in omega arith) (λ q₂.
    split (code is 3) (λ q. let z = eqb-true code 3 q in omega arith) (λ q₃.
    clash false (both (within 4 7 row) false (rw (q₀, q₁, q₂, q₃) at e)).1 refl))))

pub code-most : (flags : List ℕ) (row : ℕ) → flags_ok flags ≡ true → row < 8 → get_or flags row 0 ≤ 3
unfolding flags_ok
code-most flags row e h = row-most row (get_or flags row 0) (below_at 8 (λ k. row_ok k (get_or flags k 0)) e row h)

pub flag-most : (flags : List ℕ) (p : Phdr) → flags_ok flags ≡ true → flag_perm flags p ≤ 3
flag-most flags p e = code-most flags (p.flags % 8) e (omega arith)
