-- A number's digits, written from the last to the first.
-- Assumes nothing.
use mathlib.Core.Path.{◌≡◌, ap, ap₂, ◌∙◌}
use mathlib.Core.List.{List, [], ◌∷◌, ◌++◌, append_assoc}
use Prim.Native.Nat.{ℕ, zero, suc, ◌+◌, ◌-◌, ◌/◌, ◌%◌, ◌^◌, ◌<◌, ◌≤◌}
use native.Mathlib.Nat.{not-suc-le-zero, pow-suc}
use native.Mathlib.Omega.{arith}
use lib.ListN.{length, drop, set}
use lib.Seq.{drop-cons, drop-set-lt, get_or-set_same, lt-length-set}
use borrow.Author.Tests.{lt-ltb, le-ltb}
use Rattle.spec.specs.Listing.{decimal_of}

-- one more digit in front of those written
front : (digits : List ℕ) (j d : ℕ) → j < length digits → drop j (set digits j d) ≡ d ∷ drop (suc j) digits
front digits j d h =
    drop-cons (set digits j d) j 0 (lt-length-set digits j d h)
    ∙ ap₂ (λ (x : ℕ) (l : List ℕ). x ∷ l) (get_or-set_same digits j d 0 h) (drop-set-lt (suc j) digits j d (omega arith))

-- of two digits or more the last is written
pub digit-turn : (s : List ℕ) (m i : ℕ) (digits : List ℕ) → 0 < i → i ≤ length digits → 10 ≤ m → s ≡ decimal_of i m ++ drop i digits
    → s ≡ decimal_of (i - 1) (m / 10) ++ drop (i - 1) (set digits (i - 1) (48 + m % 10))
digit-turn s m zero digits z h t e = absurd (not-suc-le-zero z)
digit-turn s m (suc k) digits z h t e =
    let one : suc k - 1 ≡ k = omega arith in
    let two : decimal_of (suc k) m ≡ decimal_of k (m / 10) ++ (48 + m % 10) ∷ [] = rw (le-ltb m 10 t) in
    rw (one, front digits k (48 + m % 10) h)
    (e ∙ ap (λ (l : List ℕ). l ++ drop (suc k) digits) two ∙ append_assoc (decimal_of k (m / 10)) ((48 + m % 10) ∷ []) (drop (suc k) digits))

-- the first digit ends it
pub digit-end : (s : List ℕ) (m i : ℕ) (digits : List ℕ) → 0 < i → i ≤ length digits → m < 10 → s ≡ decimal_of i m ++ drop i digits
    → s ≡ drop (i - 1) (set digits (i - 1) (48 + m))
digit-end s m zero digits z h t e = absurd (not-suc-le-zero z)
digit-end s m (suc k) digits z h t e =
    let one : suc k - 1 ≡ k = omega arith in
    let two : decimal_of (suc k) m ≡ (48 + m) ∷ [] = rw (lt-ltb m 10 t) in
    rw (one, front digits k (48 + m) h) (e ∙ ap (λ (l : List ℕ). l ++ drop (suc k) digits) two)

-- room for the digits that are left
pub digits-left : (m i : ℕ) → 10 ≤ m → m < 10 ^ i → (1 < i) × (m / 10 < 10 ^ (i - 1))
digits-left m zero t h = absurd (omega arith)
digits-left m (suc zero) t h = absurd (omega arith)
digits-left m (suc (suc k)) t h =
    let one : suc (suc k) - 1 ≡ suc k = omega arith in
    (omega arith, rw one (omega (arith, pow-suc 10 (suc k))))
