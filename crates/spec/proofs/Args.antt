-- Arguments that pass, and how many bytes their strings and pointers are.
use Prim.Native.Nat.{ℕ, ◌+◌, ◌*◌, ◌≤◌}
use native.Mathlib.Omega.{arith}
use mathlib.Core.Path.{◌≡◌, refl, ap, ◌∙◌}
use mathlib.Core.Bool.{Bool, true, false}
use mathlib.Core.List.{List, [], ◌∷◌, ◌++◌, append_assoc}
use lib.ListN.{length, length-append}
use borrow.Author.Tests.{ltb-false}
use Rattle.spec.specs.Tests.{◌above◌, ◌⇒◌else◌, any, has}
use Rattle.spec.specs.Numbers.{arg_limit, le_bytes}
use Rattle.spec.specs.Exec.{strings, stack_size, args_error, pointers}
use Rattle.spec.specs.declared.Setup.{Setup}

-- no argument has a NUL, and they take at most a quarter of the stack
pub args-means : (setup : Setup) (args : List (List ℕ)) → args_error setup args ≡ 0 → (any (has 0) args ≡ false) × (stack_size (length (strings args)) (length args) ≤ arg_limit setup)
args-means setup args e =
    let p = passed (any (has 0) args) (stack_size (length (strings args)) (length args) above arg_limit setup) e in
    (p.0, ltb-false _ _ p.1)
  where
    passed : (a b : Bool) → ◌≡◌ {A = ℕ} (a ⇒ 32 else b ⇒ 33 else 0) 0 → (a ≡ false) × (b ≡ false)
    passed true b e = absurd (omega arith)
    passed false true e = absurd (omega arith)
    passed false false e = (refl, refl)

pub length-string : (a : List ℕ) (x : List (List ℕ)) → length (strings (a ∷ x)) ≡ length a + 1 + length (strings x)
length-string a x = let e = length-append a (0 ∷ strings x) in omega arith

pub strings-append : (x y : List (List ℕ)) → strings (x ++ y) ≡ strings x ++ strings y
strings-append [] y = refl
strings-append (a ∷ x) y = rw (strings-append x y, append_assoc a (0 ∷ strings x) (strings y)) refl

pub strings-more : (args : List (List ℕ)) (a : List ℕ) → length (strings (args ++ a ∷ [])) ≡ length (strings args) + length a + 1
strings-more args a = ap length (strings-append args (a ∷ [])) ∙ length-append (strings args) (strings (a ∷ [])) ∙ omega (arith, length-string a [])

pub length-pointers : (args : List (List ℕ)) (s : ℕ) → length (pointers s args) ≡ 8 * (length args + 1)
length-pointers [] s = refl
length-pointers (a ∷ args) s =
    let e = length-append (le_bytes 8 s) (pointers (s + length a + 1) args) in
    let ih = length-pointers args (s + length a + 1) in
    omega arith
