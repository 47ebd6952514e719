-- A break inside the page of the bss's end: no byte changes, so that the page's tail stays as it was.
-- Assumes nothing.
use Prim.Native.Nat.{ℕ}
use native.Mathlib.Omega.{arith}
use mathlib.Core.Path.{◌≡◌, refl}
use borrow.Author.Tests.{ne_eqb}
use Rattle.spec.specs.Numbers.{page_up}
use Rattle.spec.specs.Machine.{break, Machine, run}
use Rattle.spec.proofs.Bools.{within-not}

pub tail-stays : (m : Machine) (addr a : ℕ) → (addr ≡ 0 → ⊥) → page_up addr ≡ m.bss.end → (run m (break addr)).mem a ≡ m.mem a
tail-stays m addr a ne e = rw (ne_eqb addr 0 ne) (rw e (rw (within-not m.bss.end m.bss.end a (λ l u. omega arith)) refl))
