-- What a place of the array of pointers says of the tests that are made.
use Prim.Native.Nat.{ℕ}
use mathlib.Core.Path.{◌≡◌, refl}
use mathlib.Core.Bool.{Bool, true, false}
use Rattle.std.specs.Prelude.{Option, None, Some, Result, Ok, Err}
use Rattle.spec.specs.Tests.{◌⇒◌else◌}
use Rattle.spec.specs.Access.{Checked, ◌names◌else◌}

abbrev pub found : Checked → Bool → ℕ → Result (Option ℕ) ℕ
found t z s = t names Err else z ⇒ Ok None else Ok (Some s)

pub was-bad : (t : Checked) (z : Bool) (s a : ℕ) → found t z s ≡ Err a → t ≡ Err a
was-bad (Ok _) true s a e = cc
was-bad (Ok _) false s a e = cc
was-bad (Err b) z s a e = cc

pub was-null : (t : Checked) (z : Bool) (s : ℕ) → found t z s ≡ Ok None → (◌≡◌ {A = Checked} t (Ok tt)) × (z ≡ true)
was-null (Ok _) true s e = (refl, refl)
was-null (Ok _) false s e = cc
was-null (Err b) z s e = cc

pub was-string : (t : Checked) (z : Bool) (s a : ℕ) → found t z s ≡ Ok (Some a) → (◌≡◌ {A = Checked} t (Ok tt)) × (z ≡ false) × (s ≡ a)
was-string (Ok _) true s a e = cc
was-string (Ok _) false s a e = (refl, refl, (cc))
was-string (Err b) z s a e = cc
