-- Request 1: an alignment. Agreement modulo a number is lying a multiple of it apart; a number of 64 bits with one bit set is a power of
-- two; and what check 28 passes and refuses.
use Prim.Native.Nat.{ℕ, zero, suc, ◌+◌, ◌-◌, ◌*◌, ◌/◌, ◌%◌, ◌^◌, ◌≤◌, ◌<◌}
use native.Mathlib.Omega.{arith}
use native.Mathlib.Nat.{add-mul, mul_assoc, div-add-mod', add-mul-mod_self_right}
use mathlib.Core.Path.{◌≡◌, refl, sym, ap, ◌∙◌}
use mathlib.Core.Logic.{inl, inr}
use mathlib.Core.Bool.{true}
use lib.Dec.{leb}
use lib.Count.{ones, ones_step, ones_cat}
use lib.Pow.{pow_pos, pow-add}
use borrow.Author.Tests.{eqb-true, eqb-false, leb-true, leb-false, eq-eqb}
use Rattle.spec.specs.Tests.{◌is◌, any_below}
use Rattle.spec.specs.Elf.{Phdr, agree, power_of_two, align_ok, Apart, Aligned, AlignMeans}
use Rattle.spec.proofs.Bools.{split, clash, both, same_test, some_at, some-test}

-- ---- agreement

-- numbers with equal remainders lie as many multiples apart as their quotients differ
more : (m a b : ℕ) → b / m ≤ a / m → a % m ≡ b % m → a ≡ b + (a / m - b / m) * m
more m a b h e =
    let q : a / m ≡ b / m + (a / m - b / m) = omega arith in
    let s : a / m * m ≡ b / m * m + (a / m - b / m) * m = ap (λ (x : ℕ). x * m) q ∙ add-mul (b / m) (a / m - b / m) m in
    omega (arith, s, e, div-add-mod' a m, div-add-mod' b m)

pub agree-apart : (m a b : ℕ) → agree m a b ≡ true → Apart m a b
agree-apart m a b e =
    let r = eqb-true (a % m) (b % m) e in
    split (leb (b / m) (a / m))
    (λ q. (a / m - b / m, inl (more m a b (leb-true _ _ q) r)))
    (λ q. (b / m - a / m, inr (more m b a (less (leb-false (b / m) (a / m) q)) (sym r))))
  where
    less : a / m < b / m → a / m ≤ b / m
    less l = omega arith

pub apart-agree : (m a b : ℕ) → Apart m a b → agree m a b ≡ true
apart-agree m a b (n, inl h) = eq-eqb _ _ (ap (λ (x : ℕ). x % m) h ∙ add-mul-mod_self_right b n m)
apart-agree m a b (n, inr h) = eq-eqb _ _ (sym (ap (λ (x : ℕ). x % m) h ∙ add-mul-mod_self_right a n m))

-- what agrees modulo i · m agrees modulo m
pub agree-part : (i m a b : ℕ) → agree (i * m) a b ≡ true → agree m a b ≡ true
agree-part i m a b e = apart-agree m a b (part (agree-apart (i * m) a b e))
  where
    part : Apart (i * m) a b → Apart m a b
    part (n, inl h) = (n * i, inl (h ∙ ap (λ (x : ℕ). b + x) (sym (mul_assoc n i m))))
    part (n, inr h) = (n * i, inr (h ∙ ap (λ (x : ℕ). a + x) (sym (mul_assoc n i m))))

-- ---- one bit

one : ones 1 ≡ 1
unfolding ones
one = refl

none-set : ones 0 ≡ 0
unfolding ones
none-set = refl

-- a number of k bits, none of which is set
no-bit : (k n : ℕ) → n < 2 ^ k → ones n ≡ 0 → n ≡ 0
no-bit zero n h e = omega arith
no-bit (suc k) n h e =
    let s = ones_step n in
    let z = no-bit k (n / 2) (omega arith) (omega (arith, s, e)) in
    omega (arith, s, e, z)

pub bit-of-power : (k : ℕ) → ones (2 ^ k) ≡ 1
bit-of-power k =
    let e : 2 ^ k ≡ 1 * 2 ^ k + 0 = omega arith in
    omega (arith, ap ones e, ones_cat k 1 0 (pow_pos k), one, none-set)

pub power-of-bit : (k n : ℕ) → n < 2 ^ k → ones n ≡ 1 → (j : ℕ) × (j < k) × (n ≡ 2 ^ j)
power-of-bit zero n h e = absurd (let z : n ≡ 0 = omega arith in omega (arith, ap ones z, none-set, e))
power-of-bit (suc k) n h e =
    let s = ones_step n in
    split (n % 2 is 1)
    (λ q.
    let odd = eqb-true (n % 2) 1 q in
    let z = no-bit k (n / 2) (omega arith) (omega (arith, s, e, odd)) in
    (0, omega arith, omega (arith, odd, z)))
    (λ q.
    let ne = eqb-false (n % 2) 1 q in
    let even : n % 2 ≡ 0 = two ne in
    let r = power-of-bit k (n / 2) (omega arith) (omega (arith, s, e, even)) in
    (suc r.0, omega (arith, r.1), twice r.0 even r.2))
  where
    two : (n % 2 ≡ 1 → ⊥) → n % 2 ≡ 0
    two ne = omega arith

    twice : (j : ℕ) → n % 2 ≡ 0 → n / 2 ≡ 2 ^ j → n ≡ 2 ^ suc j
    twice j z q = omega arith

-- one bit set, for numbers of k bits
pub one_bit : (k n : ℕ) → n < 2 ^ k → (ones n is 1) ≡ any_below k (λ j. n is 2 ^ j)
one_bit k n h =
    same_test _ _
    (λ e. let r = power-of-bit k n h (eqb-true _ _ e) in some-test k (λ j. n is 2 ^ j) r.0 r.1 (eq-eqb _ _ r.2))
    (λ e. let r = some_at k (λ j. n is 2 ^ j) e in eq-eqb _ _ (ap ones (eqb-true _ _ r.2) ∙ bit-of-power r.0))

pub one-bit-64 : (n : ℕ) → n < 2 ^ 64 → (ones n is 1) ≡ power_of_two n
unfolding power_of_two
one-bit-64 n h = one_bit 64 n h

-- ---- check 28

power_at : (n : ℕ) → power_of_two n ≡ true → (k : ℕ) × (k < 64) × (n ≡ 2 ^ k)
unfolding power_of_two
power_at n e = let k = some_at 64 (λ j. n is 2 ^ j) e in (k.0, k.1, eqb-true _ _ k.2)

power-test : (n k : ℕ) → k < 64 → n ≡ 2 ^ k → power_of_two n ≡ true
unfolding power_of_two
power-test n k l e = some-test 64 (λ j. n is 2 ^ j) k l (eq-eqb _ _ e)

aligned : (p : Phdr) → align_ok p ≡ true → Aligned p
unfolding align_ok
aligned p e =
    split (p.align is 0) (λ q. let z = eqb-true p.align 0 q in inl (omega (arith, z))) (λ q₀.
    split (p.align is 1) (λ q. let z = eqb-true p.align 1 q in inl (omega (arith, z))) (λ q₁.
    let r = both (power_of_two p.align) (agree p.align p.vaddr p.offset) (rw (q₀, q₁) at e) in
    let k = power_at p.align r.0 in
    inr (k.0, k.1, k.2, agree-apart p.align p.vaddr p.offset r.1)))

pub align-test : (p : Phdr) → Aligned p → align_ok p ≡ true
unfolding align_ok
align-test p (inl h) =
    split (p.align is 0) (λ q. rw q) (λ q. rw (q, eq-eqb p.align 1 (least (eqb-false p.align 0 q))))
  where
    least : (p.align ≡ 0 → ⊥) → p.align ≡ 1
    least ne = omega (arith, h)
align-test p (inr (k, l, e, apart)) =
    let power = power-test p.align k l e in
    let agreed = apart-agree p.align p.vaddr p.offset apart in
    split (p.align is 0) (λ q. rw q) (λ q₀. split (p.align is 1) (λ q. rw (q₀, q)) (λ q₁. rw (q₀, q₁, power, agreed)))

pub align-means : AlignMeans
align-means = record { passed = aligned; refused = λ p e h. clash (align_ok p) (align-test p h) e }

-- an alignment up to 4,096 asks for no more than 23 does, but that it is a power of two
pub small-align : (p : Phdr) (k : ℕ) → k ≤ 12 → p.align ≡ 2 ^ k → agree 4096 p.vaddr p.offset ≡ true → align_ok p ≡ true
small-align p k h e a =
    let s : 2 ^ (12 - k) * 2 ^ k ≡ 4096 = sym (pow-add 2 (12 - k) k) ∙ whole in
    let b : agree (2 ^ (12 - k) * 2 ^ k) p.vaddr p.offset ≡ true = rw s a in
    let c : agree p.align p.vaddr p.offset ≡ true = rw e (agree-part (2 ^ (12 - k)) (2 ^ k) p.vaddr p.offset b) in
    align-test p (inr (k, omega arith, e, agree-apart p.align p.vaddr p.offset c))
  where
    whole : 2 ^ (12 - k + k) ≡ 4096
    whole = let q : 12 - k + k ≡ 12 = omega arith in ap (λ (x : ℕ). 2 ^ x) q
