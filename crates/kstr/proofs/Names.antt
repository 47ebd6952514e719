-- Laws of the definitions of names.
use Prim.Native.Nat.{ℕ, zero, suc, ◌+◌, ◌-◌, ◌≤◌, ◌<◌}
use native.Mathlib.Omega.{arith}
use native.Mathlib.Nat.{not-suc-le-zero}
use mathlib.Core.Path.{◌≡◌, refl, sym, ap, ◌∙◌}
use mathlib.Core.Bool.{true, false, or-true}
use mathlib.Core.List.{List, [], ◌∷◌, ◌++◌}
use lib.Dec.{eqb}
use lib.ListN.{length, take, drop, get_or, replicate, length-append}
use lib.Seq.{take-append_seam, drop-append-add, length-take-le}
use borrow.Author.Tests.{eq-eqb, ne_eqb, lt-ltb, le-ltb}
use Rattle.spec.specs.Tests.{within, has, ascii}
use Rattle.spec.specs.Name.{elem, cut, padded, kstrcpy}
use Rattle.spec.specs.Frames.{put}
use Rattle.spec.proofs.Bools.{split, clash}

has-at : (x : ℕ) (l : List ℕ) (i : ℕ) → i < length l → get_or l i 0 ≡ x → has x l ≡ true
has-at x [] i h e = absurd (not-suc-le-zero h)
has-at x (y ∷ l) zero h e = rw (eq-eqb y x e)
has-at x (y ∷ l) (suc i) h e = rw (has-at x l i (omega arith) e) (or-true (eqb y x))

-- a name without `/` is its own last element
pub elem-whole : (name : List ℕ) → has 47 name ≡ false → name ≡ elem name
elem-whole [] e = refl
elem-whole (c ∷ name) e =
    split (eqb c 47)
    (λ q. clash true refl (rw q at e))
    (λ q. let r : has 47 name ≡ false = rw q at e in rw (r, q))

-- and otherwise it is what follows the last one
pub after_first : (name : List ℕ) (i : ℕ) → i < length name → get_or name i 0 ≡ 47 → has 47 (drop (suc i) name) ≡ false → drop (suc i) name ≡ elem name
after_first [] i h e n = absurd (not-suc-le-zero h)
after_first (c ∷ name) zero h e n = rw (n, eq-eqb c 47 e)
after_first (c ∷ name) (suc i) h e n = rw (has-at 47 name i (omega arith) e) (after_first name i (omega arith) e n)

-- the search for `/` from the end: none where no byte is one, and none behind a place where no later one is
pub has-none : (x : ℕ) (l : List ℕ) → ((k : ℕ) → k < length l → get_or l k 0 ≡ x → ⊥) → has x l ≡ false
has-none x [] f = refl
has-none x (y ∷ l) f = rw (ne_eqb y x (f 0 (omega arith)), has-none x l (λ k h. f (suc k) (omega arith)))

pub none-behind : (x : ℕ) (l : List ℕ) (i : ℕ) → ((k : ℕ) → i < k → k < length l → get_or l k 0 ≡ x → ⊥) → has x (drop (suc i) l) ≡ false
none-behind x [] i f = refl
none-behind x (y ∷ l) zero f = has-none x l (λ k h. f (suc k) (omega arith) (omega arith))
none-behind x (y ∷ l) (suc i) f = none-behind x l i (λ k g h. f (suc k) (omega arith) (omega arith))

-- the search for a place to cut at
pub cut-here : (s : List ℕ) (n : ℕ) → 0 < n → within 128 192 (get_or s n 0) ≡ false → n ≡ cut s n
cut-here s n h e =
    let d : n ≡ suc (n - 1) = omega arith in
    let q : within 128 192 (get_or s (suc (n - 1)) 0) ≡ false = rw d at e in
    d ∙ sym (rw q) ∙ ap (cut s) (sym d)

pub cut-less : (s : List ℕ) (n : ℕ) → 0 < n → within 128 192 (get_or s n 0) ≡ true → cut s n ≡ cut s (n - 1)
cut-less s n h e = let d : n ≡ suc (n - 1) = omega arith in ap (cut s) d ∙ rw (rw d at e)

-- bytes put over zeros, and bytes put right behind them
drop-replicate : (k n a : ℕ) → drop k (replicate n a) ≡ replicate (n - k) a
drop-replicate zero n a = let e : n ≡ n - 0 = omega arith in ap (λ (m : ℕ). replicate m a) e
drop-replicate (suc k) zero a = let e : 0 ≡ 0 - suc k = omega arith in ap (λ (m : ℕ). replicate m a) e
drop-replicate (suc k) (suc n) a = let e : n - k ≡ suc n - suc k = omega arith in drop-replicate k n a ∙ ap (λ (m : ℕ). replicate m a) e

put-padded : (s : List ℕ) → put (replicate 28 0) 0 s ≡ padded s
put-padded s =
    let e : 28 - (0 + length s) ≡ 28 - length s = omega arith in
    ap (λ (z : List ℕ). s ++ z) (drop-replicate (0 + length s) 28 0 ∙ ap (λ (m : ℕ). replicate m 0) e)

put-behind : (s t : List ℕ) (n : ℕ) → length s ≡ n → put (padded s) n t ≡ padded (s ++ t)
put-behind s t n h =
    let l = length-append s t in
    let e : 28 - length s - length t ≡ 28 - length (s ++ t) = omega arith in
    rw (← h, take-append_seam s (replicate (28 - length s) 0), drop-append-add s (replicate (28 - length s) 0) (length t), drop-replicate (length t) (28 - length s) 0, e)

-- what the two ways through `kstrcpy` leave
pub copied-whole : (s d : List ℕ) → length s < 28 → d ≡ put (replicate 28 0) 0 s → d ≡ kstrcpy s
copied-whole s d h e = e ∙ put-padded s ∙ sym (rw (lt-ltb (length s) 28 h))

pub copied-cut : (s d r : List ℕ) (n : ℕ) → 28 ≤ length s → n ≤ 24 → n ≡ cut s 24 → d ≡ put (replicate 28 0) 0 (take n s) → r ≡ put d n (ascii "...") → r ≡ kstrcpy s
copied-cut s d r n h m cutting ed er =
    er ∙ ap (λ (x : List ℕ). put x n (ascii "...")) (ed ∙ put-padded (take n s)) ∙ put-behind (take n s) (ascii "...") n (length-take-le n s (omega arith))
    ∙ ap (λ (k : ℕ). padded (take k s ++ ascii "...")) cutting ∙ sym (rw (le-ltb (length s) 28 h))
