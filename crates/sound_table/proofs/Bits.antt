-- Bits of a word: one that is 0 is set by an OR, which is a sum, and the first n are all 1 where the word ends in n ones. Bits of ranks.
use Prim.Native.Nat.{ℕ, zero, suc, ◌+◌, ◌-◌, ◌*◌, ◌/◌, ◌%◌, ◌^◌, ◌<◌, ◌≤◌, min}
use native.Mathlib.Omega.{arith}
use native.Mathlib.Nat.{zero-div, min-zero}
use mathlib.Core.Path.{◌≡◌, refl, sym, ap, ap₂, ◌∙◌}
use mathlib.Core.Bool.{Bool, ◌&&◌, and_assoc}
use mathlib.Core.List.{List}
use lib.Bits.{bit_and, bit_or, and_step, and_zero_r, or_disjoint}
use lib.Dec.{eqb}
use lib.ListN.{length, get_or, set, replicate, length-set}
use lib.Seq.{get_or-set_same, get_or-set_other}
use lib.Pow.{pow_pos, shl_exact, shr-shr, mod-pow-add}
use borrow.Author.Tests.{eqb-true, eqb-false, eq-eqb}
use Rattle.spec.specs.Tests.{◌is◌, ◌isnt◌, all_below}
use Rattle.spec.proofs.Bools.{split, same_test, below_at, below-test}
use Rattle.sound_table.specs.Table.{bit_of, marked, BitSet}

half : (x k : ℕ) → x / 2 ^ suc k ≡ x / 2 / 2 ^ k
half x k = let e : 1 + k ≡ suc k = omega arith in sym (shr-shr x 1 k ∙ ap (λ (i : ℕ). x / 2 ^ i) e)

-- a 1 shifted
pub shl_one : (k : ℕ) → k < 64 → 1 * 2 ^ k % 2 ^ 64 ≡ 2 ^ k
shl_one k l = shl_exact {a = 1} 1 k 64 (omega arith) (omega arith) ∙ omega arith

-- ---- a bit that is 0 is set

pub add-here : (k x : ℕ) → x / 2 ^ k % 2 ≡ 0 → (x + 2 ^ k) / 2 ^ k % 2 ≡ 1
add-here zero x z = omega arith
add-here (suc k) x z =
    let e : (x + 2 ^ suc k) / 2 ≡ x / 2 + 2 ^ k = omega arith in
    ap (λ (y : ℕ). y % 2) (half (x + 2 ^ suc k) k ∙ ap (λ (y : ℕ). y / 2 ^ k) e) ∙ add-here k (x / 2) (ap (λ (y : ℕ). y % 2) (sym (half x k)) ∙ z)

pub add-other : (k j x : ℕ) → (j ≡ k → ⊥) → x / 2 ^ k % 2 ≡ 0 → (x + 2 ^ k) / 2 ^ j % 2 ≡ x / 2 ^ j % 2
add-other zero zero x ne z = absurd (ne refl)
add-other zero (suc j) x ne z =
    let e : (x + 1) / 2 ≡ x / 2 = omega arith in
    ap (λ (y : ℕ). y % 2) (half (x + 1) j ∙ ap (λ (y : ℕ). y / 2 ^ j) e ∙ sym (half x j))
add-other (suc k) zero x ne z = omega arith
add-other (suc k) (suc j) x ne z =
    let e : (x + 2 ^ suc k) / 2 ≡ x / 2 + 2 ^ k = omega arith in
    ap (λ (y : ℕ). y % 2) (half (x + 2 ^ suc k) j ∙ ap (λ (y : ℕ). y / 2 ^ j) e) ∙ add-other k j (x / 2) (λ q. ne (ap suc q)) (ap (λ (y : ℕ). y % 2) (sym (half x k)) ∙ z) ∙ ap (λ (y : ℕ). y % 2) (sym (half x j))

and-bit : (k x : ℕ) → x / 2 ^ k % 2 ≡ 0 → bit_and x (2 ^ k) ≡ 0
and-bit zero x z =
    let e : x % 2 ≡ 0 = omega arith in
    and_step x 1 ∙ ap₂ (λ (a b : ℕ). a * 2 + b) (and_zero_r (x / 2)) (ap (λ (y : ℕ). min y 1) e)
and-bit (suc k) x z =
    let h : 2 ^ suc k / 2 ≡ 2 ^ k = omega arith in
    let e : 2 ^ suc k % 2 ≡ 0 = omega arith in
    and_step x (2 ^ suc k) ∙ ap₂ (λ (a b : ℕ). a * 2 + b) (ap (bit_and (x / 2)) h ∙ and-bit k (x / 2) (ap (λ (y : ℕ). y % 2) (sym (half x k)) ∙ z)) (ap (min (x % 2)) e ∙ min-zero (x % 2))

pub or-bit : (k x : ℕ) → x / 2 ^ k % 2 ≡ 0 → bit_or x (2 ^ k) ≡ x + 2 ^ k
or-bit k x z = or_disjoint x (2 ^ k) (and-bit k x z)

-- ---- ones

low_half : (x r : ℕ) → x % 2 ^ suc r ≡ (x / 2 % 2 ^ r) * 2 + x % 2
low_half x r = let e : suc r ≡ r + 1 = omega arith in ap (λ (i : ℕ). x % 2 ^ i) e ∙ mod-pow-add x r 1

ones-mod : (r x : ℕ) → ((k : ℕ) → k < r → x / 2 ^ k % 2 ≡ 1) → x % 2 ^ r ≡ 2 ^ r - 1
ones-mod zero x f = omega arith
ones-mod (suc r) x f =
    let e = ones-mod r (x / 2) (λ k l. ap (λ (y : ℕ). y % 2) (sym (half x k)) ∙ f (suc k) (omega arith)) in
    let o : x % 2 ≡ 1 = omega (arith, f 0 (omega arith)) in
    low_half x r ∙ omega (arith, e, pow_pos r)

mod-ones : (r x : ℕ) → x % 2 ^ r ≡ 2 ^ r - 1 → (k : ℕ) → k < r → x / 2 ^ k % 2 ≡ 1
mod-ones zero x e k l = absurd (omega arith)
mod-ones (suc r) x e zero l = let h = sym (low_half x r) ∙ e in let p = pow_pos r in omega arith
mod-ones (suc r) x e (suc k) l =
    let h = sym (low_half x r) ∙ e in
    let p = pow_pos r in
    let d : x / 2 % 2 ^ r ≡ 2 ^ r - 1 = omega arith in
    ap (λ (y : ℕ). y % 2) (half x k) ∙ mod-ones r (x / 2) d k (omega arith)

pub ones-test : (r x : ℕ) → (x % 2 ^ r is 2 ^ r - 1) ≡ all_below r (λ k. x / 2 ^ k % 2 is 1)
ones-test r x =
    same_test (x % 2 ^ r is 2 ^ r - 1) (all_below r (λ k. x / 2 ^ k % 2 is 1))
    (λ e. below-test r _ (λ k l. eq-eqb _ _ (mod-ones r x (eqb-true _ _ e) k l)))
    (λ e. eq-eqb _ _ (ones-mod r x (λ k l. eqb-true _ _ (below_at r (λ k. x / 2 ^ k % 2 is 1) e k l))))

-- ---- bits of ranks

module _ (bits : List ℕ) (t : ℕ) where
  pub bit_is : bit_of bits t ≡ get_or bits (t / 64) 0 / 2 ^ (t % 64) % 2
  unfolding bit_of
  bit_is = refl

  -- a rank that is free is taken
  pub bit-set : (v : ℕ) → v ≡ get_or bits (t / 64) 0 + 2 ^ (t % 64) → t < 16384 → length bits ≡ 256 → get_or bits (t / 64) 0 / 2 ^ (t % 64) % 2 ≡ 0 → BitSet bits (set bits (t / 64) v) t
  unfolding bit_of
  bit-set v ev l long z = record {
    here = ap (λ (x : ℕ). x / 2 ^ (t % 64) % 2) (now ∙ ev) ∙ add-here (t % 64) (get_or bits (t / 64) 0) z;
    other = λ u ne. split (eqb (u / 64) (t / 64))
        (λ q. let e = eqb-true (u / 64) (t / 64) q in
        ap (λ (i : ℕ). get_or (set bits (t / 64) v) i 0 / 2 ^ (u % 64) % 2) e ∙ ap (λ (x : ℕ). x / 2 ^ (u % 64) % 2) (now ∙ ev)
        ∙ add-other (t % 64) (u % 64) (get_or bits (t / 64) 0) (λ d. ne (omega arith)) z ∙ ap (λ (i : ℕ). get_or bits i 0 / 2 ^ (u % 64) % 2) (sym e))
        (λ q. ap (λ (x : ℕ). x / 2 ^ (u % 64) % 2) (get_or-set_other bits (t / 64) (u / 64) v 0 (eqb-false (u / 64) (t / 64) q)));
    long = simp length-set long;
  }
    where
      now : get_or (set bits (t / 64) v) (t / 64) 0 ≡ v
      now = get_or-set_same bits (t / 64) v 0 (omega arith)

-- a list of zeros
pub zeros : (c i : ℕ) → ◌≡◌ {A = ℕ} (get_or (replicate c 0) i 0) 0
zeros zero i = refl
zeros (suc c) zero = refl
zeros (suc c) (suc i) = zeros c i

-- no rank is taken
pub bits_none : (t : ℕ) → bit_of (replicate 256 0) t ≡ 0
unfolding bit_of
bits_none t = ap (λ (x : ℕ). x / 2 ^ (t % 64) % 2) (zeros 256 (t / 64)) ∙ ap (λ (x : ℕ). x % 2) (zero-div (2 ^ (t % 64)))

-- ---- all ranks

below-same : (n : ℕ) (f g : ℕ → Bool) → ((i : ℕ) → i < n → f i ≡ g i) → all_below n f ≡ all_below n g
below-same zero f g h = refl
below-same (suc n) f g h = ap₂ ◌&&◌ (h n (omega arith)) (below-same n f g (λ i l. h i (omega arith)))

below-add : (a n : ℕ) (f : ℕ → Bool) → all_below (a + n) f ≡ (all_below n (λ i. f (a + i)) && all_below a f)
below-add a zero f = let e : a + 0 ≡ a = omega arith in ap (λ (x : ℕ). all_below x f) e
below-add a (suc n) f =
    let e : a + suc n ≡ suc (a + n) = omega arith in
    ap (λ (x : ℕ). all_below x f) e ∙ ap (λ (b : Bool). f (a + n) && b) (below-add a n f) ∙ sym (and_assoc (f (a + n)) (all_below n (λ i. f (a + i))) (all_below a f))

one-test : (d : ℕ) → d < 2 → (d is 1) ≡ (d isnt 0)
one-test d l = split (eqb d 0) (λ q. let e = eqb-true d 0 q in rw e refl) (λ q. let ne = eqb-false d 0 q in let e : d ≡ 1 = omega arith in rw e refl)

-- the first n bits of word j, and all before
pub word_more : (bits : List ℕ) (j n : ℕ) → n ≤ 64 → (all_below n (λ i. get_or bits j 0 / 2 ^ i % 2 is 1) && all_below (64 * j) (marked bits)) ≡ all_below (64 * j + n) (marked bits)
word_more bits j n h =
    ap (λ (b : Bool). b && all_below (64 * j) (marked bits)) (below-same n (λ i. get_or bits j 0 / 2 ^ i % 2 is 1) (λ i. marked bits (64 * j + i)) each)
    ∙ sym (below-add (64 * j) n (marked bits))
  where
    each : (i : ℕ) → i < n → (get_or bits j 0 / 2 ^ i % 2 is 1) ≡ marked bits (64 * j + i)
    each i l =
        let d : (64 * j + i) / 64 ≡ j = omega arith in
        let m : (64 * j + i) % 64 ≡ i = omega arith in
        let e : bit_of bits (64 * j + i) ≡ get_or bits j 0 / 2 ^ i % 2 = bit_is bits (64 * j + i) ∙ ap₂ (λ (x y : ℕ). get_or bits x 0 / 2 ^ y % 2) d m in
        one-test (get_or bits j 0 / 2 ^ i % 2) (omega arith) ∙ ap (λ (x : ℕ). x isnt 0) (sym e)

-- a word of ones
pub word-full : (x : ℕ) → x < 2 ^ 64 → (x is 18446744073709551615) ≡ all_below 64 (λ i. x / 2 ^ i % 2 is 1)
word-full x l = let e : x % 2 ^ 64 ≡ x = omega arith in ap (λ (y : ℕ). y is 18446744073709551615) (sym e) ∙ ones-test 64 x
