-- What a push answers after numbers 1 to 4: 36, the arguments' refusal, 35 that ends the process, or registers.
use Prim.Native.Nat.{ℕ, ◌%◌}
use mathlib.Core.Path.{◌≡◌}
use mathlib.Core.List.{List}
use borrow.Author.Tests.{eq-eqb, ne_eqb}
use Rattle.spec.specs.Exec.{args_error, registers, push_access}
use Rattle.spec.specs.Machine.{Machine, weigh_push}
use Rattle.spec.specs.declared.UserRegs.{UserRegs}
use Rattle.spec.specs.declared.Answer.TheVariants.{Regs, Refused, EndedAt}
use Rattle.std.specs.Prelude.{Ok, Err}

module _ (m : Machine) (pc top : ℕ) (args : List (List ℕ)) where
  pub push-unaligned : (top % 16 ≡ 0 → ⊥) → weigh_push m pc top args ≡ Refused 36
  push-unaligned ne = rw (ne_eqb (top % 16) 0 ne)

  module _ (aligned : top % 16 ≡ 0) where
    -- with the number k that was found
    pub push-refused : (k : ℕ) → k ≡ args_error m.setup args → (k ≡ 0 → ⊥) → weigh_push m pc top args ≡ Refused k
    push-refused k e ne = rw (eq-eqb (top % 16) 0 aligned, ← e, ne_eqb k 0 ne)

    pub push-ends : (a : ℕ) → args_error m.setup args ≡ 0 → push_access m.setup m.mem top args ≡ Err a → weigh_push m pc top args ≡ EndedAt a
    push-ends a fine bad = rw (eq-eqb (top % 16) 0 aligned, eq-eqb (args_error m.setup args) 0 fine, bad)

    -- with the registers that were made
    pub push_goes : (regs : UserRegs) → regs ≡ registers pc top args → args_error m.setup args ≡ 0 → push_access m.setup m.mem top args ≡ Ok tt → weigh_push m pc top args ≡ Regs regs
    push_goes regs e fine ok = rw (eq-eqb (top % 16) 0 aligned, eq-eqb (args_error m.setup args) 0 fine, ok, e)
