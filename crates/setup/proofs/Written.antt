-- The round trip: the four lines that a setup is written as are read back as it. It holds of every setup with the built-in flag table
-- whose numbers have 1 to 15 digits, that is, lie from 1 to 10^15 − 1.
-- Assumes nothing.
use mathlib.Core.Path.{◌≡◌, refl, sym, ap, ◌∙◌}
use mathlib.Core.Bool.{Bool, true}
use Rattle.std.specs.Prelude.{Option, Some}
use mathlib.Core.List.{List, [], ◌∷◌, ◌++◌, append_assoc}
use Prim.Native.Nat.{ℕ, zero, suc, ◌+◌, ◌*◌, ◌-◌, ◌/◌, ◌%◌, ◌^◌, ◌≤◌, ◌<◌}
use native.Mathlib.Nat.{pow-suc}
use native.Mathlib.Omega.{arith}
use lib.ListN.{length, get_or, length-append}
use lib.Seq.{drop-append-add, get_or-append_seam}
use borrow.Author.Tests.{ltb-true, ltb-false, lt-ltb, ne_eqb}
use Rattle.spec.specs.Tests.{◌below◌, within, all, ascii}
use Rattle.spec.specs.Listing.{decimal_of, decimal}
use Rattle.spec.specs.Flags.{built_in}
use Rattle.spec.specs.Numbers.{setup_ok, setup_error}
use Rattle.spec.specs.SetupText.{Line as Lined, Read, digits, decimal_from, digits_line, setup_text, read_setup, on_line}
use Rattle.spec.specs.declared.Setup.{Setup}
use Rattle.spec.proofs.Bools.{split, both, and-test, within-test}
use Rattle.spec.proofs.Flags.{built-in-ok}
use Rattle.spec.proofs.Setups.{setup-means}
use Rattle.setup.specs.Said.{line_named, judged_as}
use Rattle.setup.proofs.Lines.{on_second, on_third, on_fourth, on-first}

-- ---- a number as it is written

-- digits that stand for a number, one to 15, the first not 0
pub record Written (ds : List ℕ) (n : ℕ) : Type 0 where
  pub digits-only : all (within 48 58) ds ≡ true
  pub value : decimal_from 0 ds ≡ n
  pub some-digits : 0 < length ds
  pub few : length ds ≤ 15
  pub first : get_or ds 0 48 ≡ 48 → ⊥

all_append : (t : ℕ → Bool) (xs ys : List ℕ) → all t xs ≡ true → all t ys ≡ true → all t (xs ++ ys) ≡ true
all_append t [] ys p q = q
all_append t (x ∷ xs) ys p q = let h = both (t x) (all t xs) p in and-test (t x) (all t (xs ++ ys)) h.0 (all_append t xs ys h.1 q)

last-digit : (m : ℕ) (xs : List ℕ) (d : ℕ) → decimal_from m (xs ++ d ∷ []) ≡ 10 * decimal_from m xs + (d - 48)
last-digit m [] d = refl
last-digit m (x ∷ xs) d = last-digit (10 * m + (x - 48)) xs d

first_of : (xs ys : List ℕ) → 0 < length xs → get_or (xs ++ ys) 0 48 ≡ get_or xs 0 48
first_of [] ys h = absurd (omega arith)
first_of (x ∷ xs) ys h = refl

-- the digits of a number of at most k
module _ where
  digits-only : (k n : ℕ) → all (within 48 58) (decimal_of k n) ≡ true
  digits-only zero n = refl
  digits-only (suc k) n =
      split (n below 10)
      (λ q. let l = ltb-true n 10 q in rw q (and-test (within 48 58 (48 + n)) true (within-test 48 58 (48 + n) (omega arith) (omega arith)) refl))
      (λ q. rw q (all_append (within 48 58) (decimal_of k (n / 10)) ((48 + n % 10) ∷ []) (digits-only k (n / 10)) (and-test (within 48 58 (48 + n % 10)) true (within-test 48 58 (48 + n % 10) (omega arith) (omega arith)) refl)))

  some-digits : (k n : ℕ) → 0 < k → 0 < length (decimal_of k n)
  some-digits zero n h = absurd (omega arith)
  some-digits (suc k) n h = split (n below 10) (λ q. rw q (omega arith)) (λ q. rw q (omega (arith, length-append (decimal_of k (n / 10)) ((48 + n % 10) ∷ []))))

  -- a number below 10^j has at most j digits
  few-digits : (k j n : ℕ) → 0 < j → n < 10 ^ j → length (decimal_of k n) ≤ j
  few-digits zero j n z h = omega arith
  few-digits (suc k) zero n z h = absurd (omega arith)
  few-digits (suc k) (suc zero) n z h = let q = lt-ltb n 10 (omega arith) in rw q (omega arith)
  few-digits (suc k) (suc (suc j)) n z h =
      split (n below 10)
      (λ q. rw q (omega arith))
      (λ q. rw q (omega (arith, length-append (decimal_of k (n / 10)) ((48 + n % 10) ∷ []), few-digits k (suc j) (n / 10) (omega arith) (omega (arith, pow-suc 10 (suc j))))))

  value : (k n : ℕ) → n < 10 ^ k → decimal_from 0 (decimal_of k n) ≡ n
  value zero n h = omega arith
  value (suc k) n h =
      split (n below 10)
      (λ q. rw q (omega arith))
      (λ q. rw (q, last-digit 0 (decimal_of k (n / 10)) (48 + n % 10), value k (n / 10) (omega (arith, pow-suc 10 k))) (omega arith))

  first-digit : (k n : ℕ) → 0 < n → n < 10 ^ k → get_or (decimal_of k n) 0 48 ≡ 48 → ⊥
  first-digit zero n z h e = omega arith
  first-digit (suc zero) n z h e = let q = lt-ltb n 10 (omega arith) in let w = rw q at e in omega arith
  first-digit (suc (suc k)) n z h e =
      split (n below 10)
      (λ q. let w = rw q at e in omega arith)
      (λ q. let l = ltb-false n 10 q in
      first-digit (suc k) (n / 10) (omega arith) (omega (arith, pow-suc 10 (suc k))) (sym (first_of (decimal_of (suc k) (n / 10)) ((48 + n % 10) ∷ []) (some-digits (suc k) (n / 10) (omega arith))) ∙ rw q at e))

written : (k n : ℕ) → 15 ≤ k → 0 < n → n < 10 ^ 15 → n < 10 ^ k → Written (decimal_of k n) n
written k n w z h g = record {
  digits-only = digits-only k n;
  value = value k n g;
  some-digits = some-digits k n (omega arith);
  few = few-digits k 15 n (omega arith) h;
  first = first-digit k n z g;
}

-- ---- a line read back

digits-end : (ds rest : List ℕ) → all (within 48 58) ds ≡ true → digits (ds ++ 10 ∷ rest) ≡ ds
digits-end [] rest p = refl
digits-end (d ∷ ds) rest p = let h = both (within 48 58 d) (all (within 48 58) ds) p in rw (h.0, digits-end ds rest h.1)

line-back : (ds rest : List ℕ) (n : ℕ) → Written ds n → Some (record { number = n; rest = rest }) ≡ digits_line (ds ++ 10 ∷ rest)
line-back ds rest n w =
    rw (digits-end ds rest w.digits-only, within-test 1 16 (length ds) w.some-digits (omega (arith, w.few)), ne_eqb (get_or ds 0 48) 48 w.first, get_or-append_seam ds 10 rest 0, w.value, drop-append-add ds (10 ∷ rest) 1)

-- ---- four lines read back

on_some : (o : Option Lined) (f : Lined → Read) (l : Lined) → Some l ≡ o → on_line o f ≡ f l
on_some o f l e = ap (λ (x : Option Lined). on_line x f) (sym e)

-- the text of four numbers in digits: as the specification has it, and line behind line
abbrev text : List ℕ → List ℕ → List ℕ → List ℕ → List ℕ
text a b c d =
    (ascii "UTZERO" ++ ascii "=" ++ a ++ 10 ∷ []) ++ (ascii "USTKTOP" ++ ascii "=" ++ b ++ 10 ∷ [])
    ++ (ascii "USTKSIZE" ++ ascii "=" ++ c ++ 10 ∷ []) ++ (ascii "UADDRTOP" ++ ascii "=" ++ d ++ 10 ∷ [])

abbrev pub line-4 : List ℕ → List ℕ
line-4 d = ascii "UADDRTOP=" ++ (d ++ 10 ∷ [])

abbrev pub line-3 : List ℕ → List ℕ → List ℕ
line-3 c d = ascii "USTKSIZE=" ++ (c ++ 10 ∷ line-4 d)

abbrev pub line-2 : List ℕ → List ℕ → List ℕ → List ℕ
line-2 b c d = ascii "USTKTOP=" ++ (b ++ 10 ∷ line-3 c d)

abbrev pub line-1 : List ℕ → List ℕ → List ℕ → List ℕ → List ℕ
line-1 a b c d = ascii "UTZERO=" ++ (a ++ 10 ∷ line-2 b c d)

pub flat : (a b c d : List ℕ) → text a b c d ≡ line-1 a b c d
flat a b c d = parts (ascii "UTZERO=") (ascii "USTKTOP=") (ascii "USTKSIZE=") (ascii "UADDRTOP=") (10 ∷ []) a b c d
  where
    parts : (p q r t n a b c d : List ℕ) → (p ++ a ++ n) ++ (q ++ b ++ n) ++ (r ++ c ++ n) ++ (t ++ d ++ n)
        ≡ p ++ (a ++ (n ++ (q ++ (b ++ (n ++ (r ++ (c ++ (n ++ (t ++ (d ++ n))))))))))
    parts p q r t n a b c d = simp append_assoc

pub lines-back : (a b c d : List ℕ) (s : Setup) → s.flags ≡ built_in → Written a s.utzero → Written b s.ustktop → Written c s.ustksize → Written d s.uaddrtop
    → read_setup (text a b c d) ≡ judged_as s 0
lines-back a b c d s e wa wb wc wd =
    ap read_setup (flat a b c d)
    ∙ sym (on-first (line-1 a b c d))
    ∙ on_some (line_named (ascii "UTZERO=") (line-1 a b c d)) (λ (l : Lined). on_second l.number l.rest) (record { number = s.utzero; rest = line-2 b c d }) (line-back a (line-2 b c d) s.utzero wa)
    ∙ on_some (line_named (ascii "USTKTOP=") (line-2 b c d)) (λ (l : Lined). on_third s.utzero l.number l.rest) (record { number = s.ustktop; rest = line-3 c d }) (line-back b (line-3 c d) s.ustktop wb)
    ∙ on_some (line_named (ascii "USTKSIZE=") (line-3 c d)) (λ (l : Lined). on_fourth s.utzero s.ustktop l.number l.rest) (record { number = s.ustksize; rest = line-4 d }) (line-back c (line-4 d) s.ustksize wc)
    ∙ on_some (line_named (ascii "UADDRTOP=") (line-4 d)) (λ (l : Lined). judged_as (record { utzero = s.utzero; ustktop = s.ustktop; ustksize = s.ustksize; uaddrtop = l.number; flags = built_in }) (length l.rest)) (record { number = s.uaddrtop; rest = [] }) (line-back d [] s.uaddrtop wd)
    ∙ ap (λ (flags : List ℕ). judged_as (record { utzero = s.utzero; ustktop = s.ustktop; ustksize = s.ustksize; uaddrtop = s.uaddrtop; flags = flags }) 0) (sym e)

-- ---- the laws

-- one to 15 digits
abbrev pub short : ℕ → Type 0
short n = (0 < n) × (n < 10 ^ 15)

text-is : (s : Setup) → setup_text s ≡ text (decimal s.utzero) (decimal s.ustktop) (decimal s.ustksize) (decimal s.uaddrtop)
unfolding setup_text
text-is s = refl

-- the text of a setup, line behind line
pub text-lines : (s : Setup) → setup_text s ≡ line-1 (decimal s.utzero) (decimal s.ustktop) (decimal s.ustksize) (decimal s.uaddrtop)
text-lines s = text-is s ∙ flat (decimal s.utzero) (decimal s.ustktop) (decimal s.ustksize) (decimal s.uaddrtop)

decimal-written : (n : ℕ) → short n → Written (decimal n) n
decimal-written n h = written 20 n (omega arith) h.0 h.1 (omega (arith, h.1))

-- what is written of a set with the built-in flag table is read back: the set, or 38
pub round_trip : (s : Setup) → s.flags ≡ built_in → short s.utzero → short s.ustktop → short s.ustksize → short s.uaddrtop → read_setup (setup_text s) ≡ judged_as s 0
round_trip s e a b c d =
    ap read_setup (text-is s)
    ∙ lines-back (decimal s.utzero) (decimal s.ustktop) (decimal s.ustksize) (decimal s.uaddrtop) s e (decimal-written s.utzero a) (decimal-written s.ustktop b) (decimal-written s.ustksize c) (decimal-written s.uaddrtop d)

-- and a set that meets the conditions is read back as itself
no-error : (s : Setup) → s.flags ≡ built_in → setup_ok s ≡ true → setup_error s ≡ 0
unfolding setup_error
no-error s e ok = rw (ok, e, built-in-ok)

pub accepted-trip : (s : Setup) → s.flags ≡ built_in → setup_ok s ≡ true → read_setup (setup_text s) ≡ record { error = 0; setup = s }
accepted-trip s e ok =
    let f = setup-means s (no-error s e ok) in
    round_trip s e (omega (arith, f.text-least), omega (arith, f.room, f.in-space, f.space-most)) (omega (arith, f.stack-fits), omega (arith, f.in-space, f.space-most)) (omega (arith, f.stack-least), omega (arith, f.stack-most)) (omega (arith, f.stack-fits, f.in-space), omega (arith, f.space-most))
    ∙ rw ok
