-- An OR of words, one word more.
use Prim.Native.Nat.{ℕ, ◌+◌, ◌*◌, ◌^◌, ◌<◌}
use native.Mathlib.Omega.{arith}
use mathlib.Core.Path.{◌≡◌, sym, ap, ◌∙◌}
use mathlib.Core.List.{List}
use lib.Dec.{eqb}
use lib.ListN.{get_or}
use lib.Bits.{bit_or, bit_and, or_add_and, and_le_l, and_le_r, and_mask, or_lt}
use borrow.Author.Tests.{eqb-true, eqb-false}
use Rattle.spec.proofs.Bools.{split}
use Rattle.sound_table.specs.Rows.{OrOf, OrBut, FourBut}

pub or-zero : (a b : ℕ) → bit_or a b ≡ 0 → (a ≡ 0) × (b ≡ 0)
or-zero a b e = let x = or_add_and a b in let y = and_le_l a b in let z = and_le_r a b in (omega arith, omega arith)

pub or-next : (book : List ℕ) (at k a w : ℕ) → w ≡ get_or book (at + k) 0 → OrOf book at k a → OrOf book at (k + 1) (bit_or a w)
or-next book at k a w e h z i l =
    let p = or-zero a w z in
    split (eqb i k)
    (λ q. let s = eqb-true i k q in rw s (sym e ∙ p.1))
    (λ q. let ne = eqb-false i k q in h p.0 i (omega arith))

-- ---- all places but one

-- a word through a mask of all bits is itself
and-all : (w : ℕ) → w < 2 ^ 64 → bit_and w 18446744073709551615 ≡ w
and-all w l = and_mask w 64 ∙ omega arith

pub but-next : (book : List ℕ) (at n i a w m : ℕ) → w ≡ get_or book (at + i) 0 → w < 2 ^ 64 → ((i ≡ n → ⊥) → m ≡ 18446744073709551615) → OrBut book at n i a → OrBut book at n (i + 1) (bit_or a (bit_and w m))
but-next book at n i a w m e small mask h z j l ne =
    let p = or-zero a (bit_and w m) z in
    split (eqb j i)
    (λ q.
    let s = eqb-true j i q in
    let full : m ≡ 18446744073709551615 = mask (λ t. ne (s ∙ t)) in
    rw s (sym e ∙ sym (ap (bit_and w) full ∙ and-all w small) ∙ p.1))
    (λ q. let d = eqb-false j i q in h p.0 j (omega arith) ne)

-- ---- four words at once

abbrev pub or4 : ℕ → ℕ → ℕ → ℕ → ℕ
or4 a b c d = bit_or (bit_or (bit_or a b) c) d

or4-small : (a b c d : ℕ) → a < 2 ^ 64 → b < 2 ^ 64 → c < 2 ^ 64 → d < 2 ^ 64 → or4 a b c d < 2 ^ 64
or4-small a b c d p q r s = or_lt 64 _ d (or_lt 64 _ c (or_lt 64 a b p q) r) s

or4-zero : (f : ℕ → ℕ) → or4 (f 0) (f 1) (f 2) (f 3) ≡ 0 → (j : ℕ) → j < 4 → f j ≡ 0
or4-zero f z j l =
    let p = or-zero _ _ z in
    let q = or-zero _ _ p.0 in
    let r = or-zero _ _ q.0 in
    split (eqb j 0)
    (λ x. ap f (eqb-true j 0 x) ∙ r.0)
    (λ x. split (eqb j 1)
    (λ y. ap f (eqb-true j 1 y) ∙ r.1)
    (λ y. split (eqb j 2)
    (λ v. ap f (eqb-true j 2 v) ∙ q.1)
    (λ v. let a = eqb-false j 0 x in let b = eqb-false j 1 y in let c = eqb-false j 2 v in let e : j ≡ 3 = omega arith in ap f e ∙ p.1)))

pub four-next : (book : List ℕ) (at n i a m : ℕ) → ((x : ℕ) → get_or book x 0 < 2 ^ 64) → ((i ≡ n → ⊥) → m ≡ 18446744073709551615) → FourBut book at n i a
    → FourBut book at n (i + 1) (bit_or a (bit_and (or4 (get_or book (at + i) 0) (get_or book (at + 17 + i) 0) (get_or book (at + 34 + i) 0) (get_or book (at + 51 + i) 0)) m))
four-next book at n i a m small mask h z j lj x l ne =
    let v = or4 (get_or book (at + i) 0) (get_or book (at + 17 + i) 0) (get_or book (at + 34 + i) 0) (get_or book (at + 51 + i) 0) in
    let p = or-zero a (bit_and v m) z in
    split (eqb x i)
    (λ q.
    let s = eqb-true x i q in
    let full : m ≡ 18446744073709551615 = mask (λ t. ne (s ∙ t)) in
    let none : v ≡ 0 = sym (ap (bit_and v) full ∙ and-all v (or4-small _ _ _ _ (small _) (small _) (small _) (small _))) ∙ p.1 in
    rw s (or4-zero (λ j. get_or book (at + 17 * j + i) 0) (words none) j lj))
    (λ q. let d = eqb-false x i q in h p.0 j lj x (omega arith) ne)
  where
    words : or4 (get_or book (at + i) 0) (get_or book (at + 17 + i) 0) (get_or book (at + 34 + i) 0) (get_or book (at + 51 + i) 0) ≡ 0
        → or4 (get_or book (at + 17 * 0 + i) 0) (get_or book (at + 17 * 1 + i) 0) (get_or book (at + 17 * 2 + i) 0) (get_or book (at + 17 * 3 + i) 0) ≡ 0
    words e =
        let a : at + 17 * 0 + i ≡ at + i = omega arith in
        rw a e
