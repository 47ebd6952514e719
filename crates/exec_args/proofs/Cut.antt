-- Bytes cut into arguments by lengths that sum to them.
use Prim.Native.Nat.{ℕ, suc, ◌+◌}
use native.Mathlib.Omega.{arith}
use mathlib.Core.Path.{◌≡◌, refl, sym, ap, ◌∙◌}
use mathlib.Core.Bool.{Bool, ◌||◌}
use mathlib.Core.List.{List, [], ◌∷◌, ◌++◌}
use lib.ListN.{length, take, drop, length-append, length-drop, take-append-drop}
use lib.Seq.{length-take-le}
use Rattle.spec.specs.Tests.{◌is◌, any, has, sum}
use Rattle.spec.proofs.Lists.{any_append}
use Rattle.spec.specs.Numbers.{le_bytes}
use Rattle.spec.specs.Exec.{args_of, strings, pointers, copies}
use Rattle.exec_args.specs.Sizes.{pointers_by, copies_by}

-- as many arguments as lengths
pub cut-count : (bytes lengths : List ℕ) → length (args_of bytes lengths) ≡ length lengths
cut-count bytes [] = refl
cut-count bytes (n ∷ ns) = ap suc (cut-count (drop n bytes) ns)

-- what is left after the first argument
cut-rest : (bytes : List ℕ) (n : ℕ) (ns : List ℕ) → n + sum ns ≡ length bytes → sum ns ≡ length (drop n bytes)
cut-rest bytes n ns e = rw (length-drop n bytes) (omega arith)

-- their strings are the bytes and a NUL for each
pub cut-size : (bytes lengths : List ℕ) → sum lengths ≡ length bytes → length (strings (args_of bytes lengths)) ≡ length bytes + length lengths
cut-size bytes [] e = omega arith
cut-size bytes (n ∷ ns) e =
    let l = length-append (take n bytes) (0 ∷ strings (args_of (drop n bytes) ns)) in
    let h : length (take n bytes) ≡ n = length-take-le n bytes (omega arith) in
    let d = length-drop n bytes in
    let r = cut-size (drop n bytes) ns (cut-rest bytes n ns e) in
    omega arith

-- a byte stands in one of them if it stands in the bytes
pub cut_has : (x : ℕ) (bytes lengths : List ℕ) → sum lengths ≡ length bytes → any (has x) (args_of bytes lengths) ≡ has x bytes
cut_has x [] [] e = refl
cut_has x (b ∷ bytes) [] e = absurd (omega arith)
cut_has x bytes (n ∷ ns) e =
    ap (λ (b : Bool). has x (take n bytes) || b) (cut_has x (drop n bytes) ns (cut-rest bytes n ns e))
    ∙ sym (any_append (λ b. b is x) (take n bytes) (drop n bytes)) ∙ ap (has x) (take-append-drop n bytes)

-- their pointers follow from the lengths alone
pub cut-pointers : (s : ℕ) (bytes lengths : List ℕ) → sum lengths ≡ length bytes → pointers s (args_of bytes lengths) ≡ pointers_by s lengths
cut-pointers s bytes [] e = refl
cut-pointers s bytes (n ∷ ns) e =
    rw (length-take-le n bytes (omega arith)) (ap (λ (x : List ℕ). le_bytes 8 s ++ x) (cut-pointers (s + n + 1) (drop n bytes) ns (cut-rest bytes n ns e)))

-- and so do the copies of a push
pub cut-copies : (s p : ℕ) (bytes lengths : List ℕ) → sum lengths ≡ length bytes → copies s p (args_of bytes lengths) ≡ copies_by s p lengths
cut-copies s p bytes [] e = refl
cut-copies s p bytes (n ∷ ns) e =
    rw (length-take-le n bytes (omega arith))
    (ap (λ (x : List (ℕ × ℕ)). (s, n) ∷ (s + n, 1) ∷ (p, 8) ∷ x) (cut-copies (s + n + 1) (p + 8) (drop n bytes) ns (cut-rest bytes n ns e)))
