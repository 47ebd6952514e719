-- A line of the machine numbers, byte by byte.
-- Assumes nothing.
use mathlib.Core.Path.{◌≡◌, refl, sym, ap, ◌∙◌}
use Rattle.std.specs.Prelude.{Some}
use mathlib.Core.List.{List, [], ◌∷◌}
use Prim.Native.Nat.{ℕ, zero, suc, ◌+◌, ◌*◌, ◌-◌, ◌^◌, ◌≤◌, ◌<◌}
use native.Mathlib.Nat.{pow-le-pow_right}
use native.Mathlib.Omega.{arith}
use lib.ListN.{length, get_or, take, drop, length-drop}
use lib.Seq.{take_all}
use borrow.Author.Tests.{eq-eqb, ne_eqb}
use Rattle.spec.specs.Tests.{within, ascii}
use Rattle.spec.specs.SetupText.{Read, digits, decimal_from, digits_line, on_line, read_setup}
use Rattle.spec.specs.Flags.{built_in}
use Rattle.setup.specs.Said.{line_named, judged_as}
use Rattle.spec.proofs.Bools.{split, within-test}

-- ---- digits

-- ten times a number of fewer than 15 bytes, and what one more adds, fit: each byte adds at most 207
pub bound-fits : (i n : ℕ) → n + 23 ≤ 23 * 10 ^ i → i < 15 → 10 * n + 208 < 2 ^ 64
bound-fits i n h l = let p : 10 ^ i ≤ 10 ^ 14 = pow-le-pow_right {n = 10} (omega arith) {i = i} {j = 14} (omega arith) in omega arith

-- ---- a line of digits

-- the digits begin the bytes
pub digits-take : (s : List ℕ) → take (length (digits s)) s ≡ digits s
digits-take [] = refl
digits-take (b ∷ s) = split (within 48 58 b) (λ q. rw (q, digits-take s)) (λ q. rw q)

digits-first : (s : List ℕ) → 0 < length (digits s) → get_or (digits s) 0 48 ≡ get_or s 0 0
digits-first [] h = absurd (omega arith)
digits-first (b ∷ s) h = split (within 48 58 b) (λ q. rw q) (λ q. absurd (let z = rw q at h in omega arith))

module _ (s : List ℕ) (k : ℕ) (e : k ≡ length (digits s)) where
  first : 0 < k → get_or (digits s) 0 48 ≡ get_or s 0 0
  first l = digits-first s (omega arith)

  pub line-is : 0 < k → k ≤ 15 → (get_or s 0 0 ≡ 48 → ⊥) → get_or s k 0 ≡ 10 → (n : ℕ) → n ≡ decimal_from 0 (take k s)
      → Some (record { number = n; rest = drop (k + 1) s }) ≡ digits_line s
  line-is l h z f n v =
      let t : decimal_from 0 (digits s) ≡ n = ap (decimal_from 0) (sym (digits-take s) ∙ ap (λ (i : ℕ). take i s) (sym e)) ∙ sym v in
      rw (← e, within-test 1 16 k l (omega arith), ne_eqb (get_or (digits s) 0 48) 48 (λ q. z (sym (first l) ∙ q)), eq-eqb (get_or s k 0) 10 f, t)

-- past the end stands nothing
pub get_d_past : (s : List ℕ) (i : ℕ) → length s ≤ i → get_or s i 0 ≡ 0
get_d_past [] i h = refl
get_d_past (x ∷ s) zero h = absurd (omega arith)
get_d_past (x ∷ s) (suc i) h = get_d_past s i (omega arith)

-- the bytes from a place on, as they are lent
pub part-is : (s : List ℕ) (k : ℕ) → take (length s - k) (drop k s) ≡ drop k s
part-is s k = take_all (length s - k) (drop k s) (simp length-drop (omega arith))

-- ---- four lines

-- what the lines that are left come to, after the numbers of those read
abbrev pub on_fourth : ℕ → ℕ → ℕ → List ℕ → Read
on_fourth a b c s =
    on_line (line_named (ascii "UADDRTOP=") s) (λ d. judged_as (record { utzero = a; ustktop = b; ustksize = c; uaddrtop = d.number; flags = built_in }) (length d.rest))

abbrev pub on_third : ℕ → ℕ → List ℕ → Read
on_third a b s = on_line (line_named (ascii "USTKSIZE=") s) (λ c. on_fourth a b c.number c.rest)

abbrev pub on_second : ℕ → List ℕ → Read
on_second a s = on_line (line_named (ascii "USTKTOP=") s) (λ b. on_third a b.number b.rest)

pub on-first : (s : List ℕ) → on_line (line_named (ascii "UTZERO=") s) (λ a. on_second a.number a.rest) ≡ read_setup s
unfolding read_setup
on-first s = refl
