-- A number that 64 bits hold stands for itself, and one that they don't for their highest.
use Prim.Native.Nat.{ℕ, ◌-◌, ◌^◌, ◌≤◌, ◌<◌}
use native.Mathlib.Omega.{arith}
use mathlib.Core.Path.{◌≡◌}
use borrow.Author.Tests.{lt-ltb, le-ltb}
use Rattle.spec_laws.proofs.Lists.{by_order}
use Rattle.exec_args.specs.Sizes.{saturated}

pub saturated-fits : (n : ℕ) → n < 2 ^ 64 → saturated n ≡ n
saturated-fits n h = rw (lt-ltb n (2 ^ 64) h)

pub saturated-past : (n : ℕ) → 2 ^ 64 ≤ n → saturated n ≡ 2 ^ 64 - 1
saturated-past n h = rw (le-ltb n (2 ^ 64) h)

-- both are above a limit, or neither
pub saturated-above : (n limit : ℕ) → limit < saturated n → limit < n
saturated-above n limit h = by_order n (2 ^ 64) (λ l. omega (arith, saturated-fits n l)) (λ l. omega (arith, saturated-past n l))

pub saturated-within : (n limit : ℕ) → limit < 2 ^ 64 - 1 → saturated n ≤ limit → n ≤ limit
saturated-within n limit b h = by_order n (2 ^ 64) (λ l. omega (arith, saturated-fits n l)) (λ l. omega (arith, saturated-past n l))
