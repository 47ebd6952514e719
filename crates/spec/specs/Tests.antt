-- How the rules are written: tests on numbers and lists, and a chain of them in order, `test ⇒ answer else rest`. Every rule below
-- is such a chain, so that it can be read from the top like the sentence in docs/RULES.md.
-- Assumes nothing.
use Rattle.std.specs.Prelude.{ℕ, zero, suc, ◌+◌, Bool, true, false, not, ◌&&◌, ◌||◌, List, [], ◌∷◌, eqb, ltb}
use Prim.Native.Char.{code}
use Prim.Native.String.{String, [] as no_text, ◌∷◌ as ◌then◌}

infix 45 ◌is◌ ◌isnt◌ ◌below◌ ◌above◌
infixr 20 ◌⇒◌else◌
infixr 20 ◌or_else◌
abbrev pub ◌is◌ : ℕ → ℕ → Bool
a is b = eqb a b

abbrev pub ◌isnt◌ : ℕ → ℕ → Bool
a isnt b = not (eqb a b)

abbrev pub ◌below◌ : ℕ → ℕ → Bool
a below b = ltb a b

abbrev pub ◌above◌ : ℕ → ℕ → Bool
a above b = ltb b a

-- a number from `low` up to, but not including, `high`
abbrev pub within : ℕ → ℕ → ℕ → Bool
within low high a = not (a below low) && a below high

-- the answer where the test holds, and the rest where not
abbrev pub ◌⇒◌else◌ {ℓ} : {A : Type ℓ} → Bool → A → A → A
true ⇒ a else b = a
false ⇒ a else b = b

-- a refusal's number, or, where it is 0, the next
abbrev pub ◌or_else◌ : ℕ → ℕ → ℕ
a or_else b = a is 0 ⇒ b else a

-- a test of each element, and of some element
abbrev pub all : {A : Type 0} → (A → Bool) → List A → Bool
all t [] = true
all t (x ∷ xs) = t x && all t xs

abbrev pub any : {A : Type 0} → (A → Bool) → List A → Bool
any t [] = false
any t (x ∷ xs) = t x || any t xs

-- a test of each number below k, and of some number below k
abbrev pub all_below : ℕ → (ℕ → Bool) → Bool
all_below zero t = true
all_below (suc k) t = t k && all_below k t

abbrev pub any_below : ℕ → (ℕ → Bool) → Bool
any_below zero t = false
any_below (suc k) t = t k || any_below k t

-- whether a byte stands in bytes
abbrev pub has : ℕ → List ℕ → Bool
has x xs = any (λ y. y is x) xs

-- the elements that pass a test, in order
abbrev pub filter : {A : Type 0} → (A → Bool) → List A → List A
filter t [] = []
filter t (x ∷ xs) = t x ⇒ x ∷ filter t xs else filter t xs

-- whether two lists are equal, by a test of their elements
abbrev pub same : {A : Type 0} → (A → A → Bool) → List A → List A → Bool
same eq [] [] = true
same eq [] (y ∷ ys) = false
same eq (x ∷ xs) [] = false
same eq (x ∷ xs) (y ∷ ys) = eq x y && same eq xs ys

-- the sum of numbers
abbrev pub sum : List ℕ → ℕ
sum [] = 0
sum (n ∷ ns) = n + sum ns

-- the bytes of a text in ASCII
abbrev pub ascii : String → List ℕ
ascii no_text = []
ascii (c then s) = code c ∷ ascii s
