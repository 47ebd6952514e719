-- What calls that look at a process's memory answer.
use Prim.Native.Nat.{ℕ}
use mathlib.Core.Path.{◌≡◌, sym, ap, ◌∙◌}
use mathlib.Core.Bool.{Bool}
use Rattle.spec.specs.Access.{access, Str}
use Rattle.spec.specs.Machine.{Reply, plainly, Machine, weigh, weigh_str, user-range-ok}
use Rattle.spec.specs.declared.Answer.TheVariants.{Value, No, RefusedAt}
use Rattle.std.specs.Prelude.{Ok, Err}

module _ (m : Machine) (free : ℕ) where
  -- a range by itself
  pub range-yes : (write : Bool) (addr len : ℕ) → access m.setup m.mem write addr len ≡ Ok tt → weigh m free 0 (user-range-ok addr len write) ≡ plainly (Value 1)
  range-yes write addr len e = rw e

  pub range-no : (write : Bool) (addr len a : ℕ) → access m.setup m.mem write addr len ≡ Err a → weigh m free 0 (user-range-ok addr len write) ≡ plainly (No a)
  range-no write addr len a e = rw e

-- a string, from what its copy x came to
module _ (x y : Str) (copied : x ≡ y) where
  pub string-whole : x.access ≡ Ok tt → ◌≡◌ {A = Reply} (record { says = weigh_str y; buffer = y.buffer }) (record { says = Value x.size; buffer = x.buffer })
  string-whole e = ap (λ (z : Str). record { says = weigh_str z; buffer = z.buffer }) (sym copied) ∙ rw e

  pub string-bad : (a : ℕ) → x.access ≡ Err a → ◌≡◌ {A = Reply} (record { says = weigh_str y; buffer = y.buffer }) (record { says = RefusedAt a; buffer = x.buffer })
  string-bad a e = ap (λ (z : Str). record { says = weigh_str z; buffer = z.buffer }) (sym copied) ∙ rw e
