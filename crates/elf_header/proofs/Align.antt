-- An alignment as the code tests it: at most 1, then by its count of bits, then by remainders.
-- Assumes nothing.
use Prim.Native.Nat.{◌%◌, ◌^◌, ◌<◌, ◌≤◌}
use native.Mathlib.Omega.{arith}
use mathlib.Core.Path.{◌≡◌, sym}
use mathlib.Core.Logic.{inl}
use mathlib.Core.Bool.{true, false}
use lib.Count.{ones}
use borrow.Author.Tests.{eq-eqb, ne_eqb}
use Rattle.spec.specs.Tests.{◌is◌}
use Rattle.spec.specs.Elf.{Phdr, align_ok}
use Rattle.spec.proofs.Align.{align-test, one-bit-64}

pub asks_nothing : (p : Phdr) → p.align ≤ 1 → true ≡ align_ok p
asks_nothing p h = sym (align-test p (inl h))

module _ (p : Phdr) (more : 1 < p.align) (word : p.align < 2 ^ 64) where
  not-0 : p.align ≡ 0 → ⊥
  not-0 e = omega arith

  not-1 : p.align ≡ 1 → ⊥
  not-1 e = omega arith

  pub no_power : (ones p.align ≡ 1 → ⊥) → false ≡ align_ok p
  unfolding align_ok
  no_power ne = rw (ne_eqb p.align 0 not-0, ne_eqb p.align 1 not-1, ← one-bit-64 p.align word, ne_eqb (ones p.align) 1 ne)

  pub by-remainders : ones p.align ≡ 1 → (p.vaddr % p.align is p.offset % p.align) ≡ align_ok p
  unfolding align_ok
  by-remainders e = rw (ne_eqb p.align 0 not-0, ne_eqb p.align 1 not-1, ← one-bit-64 p.align word, eq-eqb (ones p.align) 1 e)
