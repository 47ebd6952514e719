-- What the calls that copy bytes answer.
use Prim.Native.Nat.{ℕ}
use mathlib.Core.Path.{◌≡◌}
use mathlib.Core.Bool.{true, false}
use mathlib.Core.List.{List}
use lib.ListN.{length}
use Rattle.spec.specs.Access.{access, bytes_at}
use Rattle.spec.specs.Machine.{plainly, Machine, weigh, copy-from-user, copy-to-user}
use Rattle.spec.specs.declared.Answer.TheVariants.{Done, EndedAt}
use Rattle.std.specs.Prelude.{Ok, Err}

module _ (m : Machine) (free : ℕ) where
  -- bytes read
  pub reads-bad : (buffer : List ℕ) (src a : ℕ) → access m.setup m.mem false src (length buffer) ≡ Err a → weigh m free 0 (copy-from-user buffer src) ≡ record { says = EndedAt a; buffer = buffer }
  reads-bad buffer src a e = rw e

  pub reads : (buffer : List ℕ) (src : ℕ) → access m.setup m.mem false src (length buffer) ≡ Ok tt → weigh m free 0 (copy-from-user buffer src) ≡ record { says = Done; buffer = bytes_at m.mem src (length buffer) }
  reads buffer src e = rw e

  -- bytes written
  pub writes-bad : (dst : ℕ) (bytes : List ℕ) (a : ℕ) → access m.setup m.mem true dst (length bytes) ≡ Err a → weigh m free 0 (copy-to-user dst bytes) ≡ plainly (EndedAt a)
  writes-bad dst bytes a e = rw e

  pub writes : (dst : ℕ) (bytes : List ℕ) → access m.setup m.mem true dst (length bytes) ≡ Ok tt → weigh m free 0 (copy-to-user dst bytes) ≡ plainly Done
  writes dst bytes e = rw e
