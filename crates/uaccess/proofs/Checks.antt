-- A page that can't be read, told with the bytes before it.
use Prim.Native.Nat.{ℕ}
use mathlib.Core.Path.{◌≡◌, refl, subst}
use mathlib.Core.Bool.{true}
use Rattle.std.specs.Prelude.{Result, Ok, Err, MatchResult, IsErrAnd, is_ok}
use Rattle.std.proofs.lemmas.Result.{err_from_is_err_and}
use Rattle.spec.specs.Access.{Checked}
use Rattle.uaccess.specs.declared.strings.Unread.{Unread}

-- a check that passed
pub checked_ok : (r : Checked) → is_ok r ≡ true → r ≡ Ok tt
checked_ok (Ok x) e = refl
checked_ok (Err a) e = cc

-- a check that didn't, by what is made of its address
pub checked_err : (r : Checked) (s : Result (Unit {0}) Unread) (Post : ℕ → Unread → Type 0) → MatchResult r (λ x. s ≡ Ok x) (λ a. IsErrAnd s (Post a)) → (u : Unread) → s ≡ Err u → (a : ℕ) × (r ≡ Err a) × Post a u
checked_err (Ok x) s Post h u e = let z : s ≡ Ok x = h in cc
checked_err (Err a) s Post h u e = let p = err_from_is_err_and s h in
    let z : p.0 ≡ u = cc in (a, refl, subst (Post a) z p.2)
