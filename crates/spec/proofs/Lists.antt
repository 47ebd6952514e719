-- Lists with one element more, lists one behind the other, and tests of whole lists.
use Prim.Native.Nat.{ℕ, ◌+◌, ◌<◌}
use native.Mathlib.Numerals.{add-one}
use mathlib.Core.Path.{◌≡◌, refl, sym, ap, ap₂, ◌∙◌}
use mathlib.Core.Bool.{Bool, true, false, ◌||◌, or_assoc}
use mathlib.Core.List.{List, [], ◌∷◌, ◌++◌, append_assoc, append-nil}
use lib.ListN.{length, get_or, set, take, drop}
use lib.Seq.{take-suc, drop-cons, take-suc-set}
use Rattle.spec.proofs.Bools.{clash, both, and-test}
use Rattle.spec.specs.Tests.{any, same}

-- what stands before the next place, and from a place on
pub take_next : {A : Type 0} (l : List A) (i : ℕ) (d : A) → i < length l → take (i + 1) l ≡ take i l ++ get_or l i d ∷ []
take_next l i d h = rw (add-one i) (take-suc l i d h)

pub drop-next : {A : Type 0} (l : List A) (i : ℕ) (d : A) → i < length l → drop i l ≡ get_or l i d ∷ drop (i + 1) l
drop-next l i d h = rw (add-one i) (drop-cons l i d h)

-- an element set behind the first i
pub take-set : {A : Type 0} (l : List A) (i : ℕ) (a : A) → i < length l → take (i + 1) (set l i a) ≡ take i l ++ a ∷ []
take-set l i a h = rw (add-one i) (take-suc-set l i a h)

-- g of a list is f of each of its elements, one behind the other
module _ {A B : Type 0} (f : A → List B) (g : List A → List B) (none : g [] ≡ []) (some : (x : A) (xs : List A) → g (x ∷ xs) ≡ f x ++ g xs) where
  pub flat_append : (xs ys : List A) → g (xs ++ ys) ≡ g xs ++ g ys
  flat_append [] ys = sym (ap (λ (s : List B). s ++ g ys) none)
  flat_append (x ∷ xs) ys =
      some x (xs ++ ys) ∙ ap (λ (s : List B). f x ++ s) (flat_append xs ys) ∙ sym (append_assoc (f x) (g xs) (g ys)) ∙ ap (λ (s : List B). s ++ g ys) (sym (some x xs))

  pub flat-next : (l : List A) (i : ℕ) (d : A) → i < length l → g (take i l) ++ f (get_or l i d) ≡ g (take (i + 1) l)
  flat-next l i d h =
      let x = get_or l i d in
      let one : g (x ∷ []) ≡ f x = some x [] ∙ ap (λ (s : List B). f x ++ s) none ∙ append-nil (f x) in
      sym (ap g (take_next l i d h) ∙ flat_append (take i l) (x ∷ []) ∙ ap (λ (s : List B). g (take i l) ++ s) one)

-- a test of some element
pub any_append : {A : Type 0} (t : A → Bool) (xs ys : List A) → any t (xs ++ ys) ≡ (any t xs || any t ys)
any_append t [] ys = refl
any_append t (x ∷ xs) ys = rw (any_append t xs ys, or_assoc)

-- a list is the same as itself, and as no other, where its elements are
pub same_self : {A : Type 0} (t : A → A → Bool) → ((x : A) → t x x ≡ true) → (xs : List A) → same t xs xs ≡ true
same_self t f [] = refl
same_self t f (x ∷ xs) = and-test (t x x) (same t xs xs) (f x) (same_self t f xs)

pub same-means : {A : Type 0} (t : A → A → Bool) → ((x y : A) → t x y ≡ true → x ≡ y) → (xs ys : List A) → same t xs ys ≡ true → xs ≡ ys
same-means t f [] [] e = refl
same-means t f [] (y ∷ ys) e = clash false e refl
same-means t f (x ∷ xs) [] e = clash false e refl
same-means t f (x ∷ xs) (y ∷ ys) e = let b = both (t x y) (same t xs ys) e in ap₂ ◌∷◌ (f x y b.0) (same-means t f xs ys b.1)
