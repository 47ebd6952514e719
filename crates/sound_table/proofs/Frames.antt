-- What is found of a frame, and of four.
use Prim.Native.Nat.{ℕ, ◌+◌, ◌*◌, ◌≤◌, ◌<◌}
use native.Mathlib.Omega.{arith}
use mathlib.Core.Path.{◌≡◌, refl, sym, ap, ◌∙◌, subst}
use mathlib.Core.List.{List}
use lib.Dec.{eqb}
use lib.ListN.{length, get_or, set, length-set}
use lib.Seq.{get_or-set_same, get_or-set_other}
use borrow.Author.Tests.{eqb-true, eqb-false}
use Rattle.spec.proofs.Bools.{split}
use Rattle.sound_table.specs.Rows.{OrOf, FourBut, Own, Only, FourOwn, Free, Single, Singles}

module _ (book : List ℕ) where
  pub single-none : (k : ℕ) → Single book k 0
  single-none k = record { free = λ e. absurd (omega arith); only = λ l. absurd (omega arith) }

  pub single-free : (k : ℕ) → Free book k → Single book k 1
  single-free k f = record { free = λ e. f; only = λ l. absurd (omega arith) }

  pub single-only : (k w : ℕ) → Only book k w → Single book k w
  single-only k w o = record { free = λ e. absurd (omega (arith, o.owner)); only = λ l. o }

  pub only-own : (k n : ℕ) → n < 16 → Own book k n → ((i : ℕ) → i < 16 → (i ≡ n → ⊥) → get_or book (17 * k + i) 0 ≡ 0) → Only book k (get_or book (17 * k + n) 0)
  only-own k n l o rest = record { place = n; low = l; word = refl; owner = o.0; count = o.1; rest = rest }

  -- ---- four frames

  place_is : (k j i : ℕ) → get_or book (17 * k + 17 * j + i) 0 ≡ get_or book (17 * (k + j) + i) 0
  place_is k j i = ap (λ (x : ℕ). get_or book x 0) (omega arith)

  pub four-owned : (k n r : ℕ) → n < 16 → ((j : ℕ) → j < 4 → Own book (k + j) n) → FourBut book (17 * k) n 16 r → r ≡ 0 → FourOwn book k n
  four-owned k n r l own but z j h = only-own (k + j) n l (own j h) (λ i hi ne. sym (place_is k j i) ∙ but z j h i hi ne)

  pub four-free : (k r : ℕ) → OrOf book (17 * k) 68 r → r ≡ 0 → (j : ℕ) → j < 4 → Free book (k + j)
  four-free k r h z j l = record { count = word 16 (omega arith); places = λ i hi. word i (omega arith) }
    where
      word : (i : ℕ) → i < 17 → get_or book (17 * (k + j) + i) 0 ≡ 0
      word i hi = ap (λ (x : ℕ). get_or book x 0) (omega arith) ∙ h z (17 * j + i) (omega arith)

  -- ---- one frame more, and four

  module _ (from : ℕ) where
    pub singles-more : (words : List ℕ) (i w : ℕ) → length words ≡ 128 → i < 128 → Singles book words from i → Single book (from + i) w → Singles book (set words i w) from (i + 1)
    singles-more words i w long low all s j h =
        split (eqb j i)
        (λ q. let e = eqb-true j i q in rw e (subst (Single book (from + i)) (sym (get_or-set_same words i w 0 (omega arith))) s))
        (λ q. let ne = eqb-false j i q in subst (Single book (from + j)) (sym (get_or-set_other words i j w 0 ne)) (all j (omega arith)))

    pub singles-four : (words : List ℕ) (i a b c d : ℕ) → length words ≡ 128 → i + 4 ≤ 128 → Singles book words from i
        → Single book (from + i) a → Single book (from + (i + 1)) b → Single book (from + (i + 2)) c → Single book (from + (i + 3)) d
        → Singles book (set (set (set (set words i a) (i + 1) b) (i + 2) c) (i + 3) d) from (i + 4)
    singles-four words i a b c d long low all p q r s =
        let la : length (set words i a) ≡ 128 = simp length-set long in
        let lb : length (set (set words i a) (i + 1) b) ≡ 128 = simp length-set long in
        let lc : length (set (set (set words i a) (i + 1) b) (i + 2) c) ≡ 128 = simp length-set long in
        let xa = singles-more words i a long (omega arith) all p in
        let xb = subst (Singles book (set (set words i a) (i + 1) b) from) two (singles-more (set words i a) (i + 1) b la (omega arith) xa q) in
        let xc = subst (Singles book (set (set (set words i a) (i + 1) b) (i + 2) c) from) three (singles-more (set (set words i a) (i + 1) b) (i + 2) c lb (omega arith) xb r) in
        subst (Singles book (set (set (set (set words i a) (i + 1) b) (i + 2) c) (i + 3) d) from) fourth (singles-more (set (set (set words i a) (i + 1) b) (i + 2) c) (i + 3) d lc (omega arith) xc s)
      where
        two : i + 1 + 1 ≡ i + 2
        two = omega arith

        three : i + 2 + 1 ≡ i + 3
        three = omega arith

        fourth : i + 3 + 1 ≡ i + 4
        fourth = omega arith

    -- ---- the words of four frames set

    module _ (words later : List ℕ) (i : ℕ) (long : length words ≡ 128) (low : i + 4 ≤ 128) (all : Singles book words from i) where
      on : (w j : ℕ) → Single book (from + i + j) w → Single book (from + (i + j)) w
      on w j s = subst (λ (x : ℕ). Single book x w) (omega arith) s

      set-four : (a b c d : ℕ) → later ≡ set (set (set (set words i a) (i + 1) b) (i + 2) c) (i + 3) d
          → Single book (from + i) a → Single book (from + i + 1) b → Single book (from + i + 2) c → Single book (from + i + 3) d
          → Singles book later from (i + 4)
      set-four a b c d e p q r s =
          subst (λ (x : List ℕ). Singles book x from (i + 4)) (sym e) (singles-four words i a b c d long low all p (on b 1 q) (on c 2 r) (on d 3 s))

      pub set_own : (n : ℕ) → FourOwn book (from + i) n
          → later ≡ set (set (set (set words i (get_or book (17 * (from + i) + n) 0)) (i + 1) (get_or book (17 * (from + i) + n + 17) 0)) (i + 2) (get_or book (17 * (from + i) + n + 34) 0)) (i + 3) (get_or book (17 * (from + i) + n + 51) 0)
          → Singles book later from (i + 4)
      set_own n own e = set-four _ _ _ _ e (first (own 0 (omega arith))) (at 1 17 (omega arith) (own 1 (omega arith))) (at 2 34 (omega arith) (own 2 (omega arith))) (at 3 51 (omega arith) (own 3 (omega arith)))
        where
          at : (j d : ℕ) → d ≡ 17 * j → Only book (from + i + j) (get_or book (17 * (from + i + j) + n) 0) → Single book (from + i + j) (get_or book (17 * (from + i) + n + d) 0)
          at j d e o = single-only (from + i + j) _ (subst (λ (x : ℕ). Only book (from + i + j) (get_or book x 0)) (omega arith) o)

          first : Only book (from + i + 0) (get_or book (17 * (from + i + 0) + n) 0) → Single book (from + i) (get_or book (17 * (from + i) + n) 0)
          first o = let z : from + i + 0 ≡ from + i = omega arith in single-only (from + i) _ (rw z at o)

      pub set_free : (r : ℕ) → OrOf book (17 * (from + i)) 68 r → r ≡ 0 → later ≡ set (set (set (set words i 1) (i + 1) 1) (i + 2) 1) (i + 3) 1 → Singles book later from (i + 4)
      set_free r h z e =
          let f = four-free (from + i) r h z in
          let s : from + i + 0 ≡ from + i = omega arith in
          set-four 1 1 1 1 e (single-free (from + i) (rw s at (f 0 (omega arith)))) (single-free (from + i + 1) (f 1 (omega arith))) (single-free (from + i + 2) (f 2 (omega arith))) (single-free (from + i + 3) (f 3 (omega arith)))
