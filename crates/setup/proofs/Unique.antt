-- The other direction: bytes that aren't 37 are the text of a setup, so that each set has one text.
-- Assumes nothing.
use mathlib.Core.Path.{◌≡◌, refl, sym, ap, ap₂, subst, ◌∙◌}
use mathlib.Core.Bool.{true, false}
use Rattle.std.specs.Prelude.{Option, None, Some}
use mathlib.Core.List.{List, [], ◌∷◌, ◌++◌, append_assoc, append-nil}
use Prim.Native.Nat.{ℕ, zero, suc, ◌+◌, ◌*◌, ◌-◌, ◌/◌, ◌%◌, ◌^◌, ◌≤◌, ◌<◌}
use native.Mathlib.Nat.{pow-suc, pow-le-pow_right}
use native.Mathlib.Numerals.{add-one}
use native.Mathlib.Omega.{arith}
use lib.ListN.{length, get_or, take, drop, take-append-drop}
use lib.Seq.{drop-cons}
use borrow.Author.Tests.{ltb-true, ltb-false, lt-ltb, le-ltb, eqb-true, eqb-false, ne_eqb}
use Rattle.spec.specs.Tests.{◌is◌, ◌below◌, within, all, same, ascii}
use Rattle.spec.specs.Listing.{decimal_of, decimal}
use Rattle.spec.specs.Flags.{built_in}
use Rattle.spec.specs.Numbers.{setup_ok}
use Rattle.spec.specs.SetupText.{Line as Lined, Read, digits, decimal_from, digits_line, setup_text, read_setup, on_line}
use Rattle.spec.specs.declared.Setup.{Setup}
use Rattle.spec.proofs.Bools.{split, clash, both, and-test, within-means}
use Rattle.setup.specs.Said.{line_named, judged_as}
use Rattle.setup.proofs.Lines.{on_second, on_third, on_fourth, on-first, digits-take, get_d_past}
use Rattle.setup.proofs.Written.{short, round_trip, line-2, line-3, line-4, text-lines}

-- ---- digits are the text of their number

-- a number has one text, however many digits are allowed
allowed : (j k n : ℕ) → 0 < j → j ≤ k → n < 10 ^ j → decimal_of k n ≡ decimal_of j n
allowed zero k n z l h = absurd (omega arith)
allowed (suc j) zero n z l h = absurd (omega arith)
allowed (suc zero) (suc k) n z l h = let q = lt-ltb n 10 (omega arith) in rw q
allowed (suc (suc j)) (suc k) n z l h =
    split (n below 10)
    (λ q. rw q)
    (λ q. rw q (ap (λ (t : List ℕ). t ++ (48 + n % 10) ∷ []) (allowed (suc j) k (n / 10) (omega arith) (omega arith) (omega (arith, pow-suc 10 (suc j))))))

-- one digit more
one_more : (k m d : ℕ) → 0 < m → 48 ≤ d → d < 58 → decimal_of (suc k) (10 * m + (d - 48)) ≡ decimal_of k m ++ d ∷ []
one_more k m d z l h =
    let q = le-ltb (10 * m + (d - 48)) 10 (omega arith) in
    let front : (10 * m + (d - 48)) / 10 ≡ m = omega arith in
    let last : 48 + (10 * m + (d - 48)) % 10 ≡ d = omega arith in
    rw q (ap₂ (λ (x y : ℕ). decimal_of k x ++ y ∷ []) front last)

-- digits behind a number
behind : (ds : List ℕ) (k m : ℕ) → all (within 48 58) ds ≡ true → 0 < m → m < 10 ^ k
    → (decimal_of (length ds + k) (decimal_from m ds) ≡ decimal_of k m ++ ds) × ((0 < decimal_from m ds) × (decimal_from m ds < 10 ^ (length ds + k)))
behind [] k m p z h =
    let e : 0 + k ≡ k = omega arith in
    rw e (sym (append-nil (decimal_of k m)), (z, h))
behind (d ∷ ds) k m p z h =
    let b = both (within 48 58 d) (all (within 48 58) ds) p in
    let w = within-means 48 58 d b.0 in
    let r = behind ds (suc k) (10 * m + (d - 48)) b.1 (omega arith) (omega (arith, pow-suc 10 k)) in
    let e : suc (length ds) + k ≡ length ds + suc k = omega arith in
    rw e (r.0 ∙ ap (λ (t : List ℕ). t ++ ds) (one_more k m d z w.0 w.1) ∙ append_assoc (decimal_of k m) (d ∷ []) ds, r.1)

pub digits-text : (ds : List ℕ) → all (within 48 58) ds ≡ true → 0 < length ds → length ds ≤ 15 → (get_or ds 0 48 ≡ 48 → ⊥)
    → short (decimal_from 0 ds) × (decimal (decimal_from 0 ds) ≡ ds)
digits-text [] p z l f = absurd (omega arith)
digits-text (d ∷ ds) p z l f =
    let b = both (within 48 58 d) (all (within 48 58) ds) p in
    let w = within-means 48 58 d b.0 in
    let m = 10 * 0 + (d - 48) in
    let r = behind ds 1 m b.1 (positive d w.0 f) (omega arith) in
    let n = decimal_from m ds in
    let most : n < 10 ^ 15 = below-15 n (length ds + 1) (omega arith) r.1.1 in
    ((r.1.0, most), allowed (length ds + 1) 20 n (omega arith) (omega arith) r.1.1 ∙ r.0 ∙ ap (λ (t : List ℕ). t ++ ds) (one d w.0 w.1))
  where
    positive : (d : ℕ) → 48 ≤ d → (d ≡ 48 → ⊥) → 0 < 10 * 0 + (d - 48)
    positive d l f = omega arith

    one : (d : ℕ) → 48 ≤ d → d < 58 → decimal_of 1 (10 * 0 + (d - 48)) ≡ d ∷ []
    one d l h = let q = lt-ltb (10 * 0 + (d - 48)) 10 (omega arith) in let e : 48 + (10 * 0 + (d - 48)) ≡ d = omega arith in rw q (ap (λ (x : ℕ). x ∷ []) e)

    below-15 : (n k : ℕ) → k ≤ 15 → n < 10 ^ k → n < 10 ^ 15
    below-15 n k l h = let p : 10 ^ k ≤ 10 ^ 15 = pow-le-pow_right {n = 10} (omega arith) {i = k} {j = 15} l in omega arith

-- ---- a line that is read is that number's

digits-all : (s : List ℕ) → all (within 48 58) (digits s) ≡ true
digits-all [] = refl
digits-all (b ∷ s) = split (within 48 58 b) (λ q. rw q (and-test (within 48 58 b) (all (within 48 58) (digits s)) q (digits-all s))) (λ q. rw q)

-- bytes that begin with digits and a line feed
parted : (s : List ℕ) → get_or s (length (digits s)) 0 ≡ 10 → s ≡ digits s ++ 10 ∷ drop (length (digits s) + 1) s
parted s e =
    let k = length (digits s) in
    sym (take-append-drop k s)
    ∙ ap₂ (λ (x y : List ℕ). x ++ y) (digits-take s) (drop-cons s k 0 (inside k e) ∙ ap₂ (λ (x : ℕ) (y : List ℕ). x ∷ y) e (ap (λ (i : ℕ). drop i s) (sym (add-one k))))
  where
    inside : (k : ℕ) → get_or s k 0 ≡ 10 → k < length s
    inside k e = split (k below length s) (λ q. ltb-true k (length s) q) (λ q. absurd (let z = get_d_past s k (ltb-false k (length s) q) in omega arith))

-- what a line says of the bytes
abbrev Says : List ℕ → Lined → Type 0
Says s l = short l.number × (s ≡ decimal l.number ++ 10 ∷ l.rest)

never : {P : Type 0} (l : Lined) → None ≡ Some l → P
never l e = absurd (let z : ◌≡◌ {A = ℕ} 0 1 = cc in omega arith)

inner : (a l : Lined) → Some a ≡ Some l → a ≡ l
inner a l e = cc

line-says : (s : List ℕ) (l : Lined) → digits_line s ≡ Some l → Says s l
line-says s l e =
    split (within 1 16 (length (digits s)))
    (λ q. split (get_or (digits s) 0 48 is 48)
    (λ p. never l (rw (q, p) at e))
    (λ p. split (get_or s (length (digits s)) 0 is 10)
    (λ r. subst (Says s) (inner (record { number = decimal_from 0 (digits s); rest = drop (length (digits s) + 1) s }) l (rw (q, p, r) at e))
    (let w = within-means 1 16 (length (digits s)) q in
    let t = digits-text (digits s) (digits-all s) w.0 (omega arith) (eqb-false (get_or (digits s) 0 48) 48 p) in
    (t.0, parted s (eqb-true (get_or s (length (digits s)) 0) 10 r) ∙ ap (λ (x : List ℕ). x ++ 10 ∷ drop (length (digits s) + 1) s) (sym t.1))))
    (λ r. never l (rw (q, p, r) at e))))
    (λ q. never l (rw q at e))

same-means : (xs ys : List ℕ) → same ◌is◌ xs ys ≡ true → xs ≡ ys
same-means [] [] e = refl
same-means [] (y ∷ ys) e = clash false e refl
same-means (x ∷ xs) [] e = clash false e refl
same-means (x ∷ xs) (y ∷ ys) e = let b = both (x is y) (same ◌is◌ xs ys) e in ap₂ (λ (a : ℕ) (l : List ℕ). a ∷ l) (eqb-true x y b.0) (same-means xs ys b.1)

named-says : (name s : List ℕ) (l : Lined) → line_named name s ≡ Some l → short l.number × (s ≡ name ++ (decimal l.number ++ 10 ∷ l.rest))
named-says name s l e =
    split (same ◌is◌ (take (length name) s) name)
    (λ q. let d = line-says (drop (length name) s) l (rw q at e) in
    (d.0, sym (take-append-drop (length name) s) ∙ ap₂ (λ (x y : List ℕ). x ++ y) (same-means (take (length name) s) name q) d.1))
    (λ q. never l (rw q at e))

-- ---- four lines

on-cases : (o : Option Lined) (f : Lined → Read) → ((on_line o f).error ≡ 37 → ⊥) → (l : Lined) × (o ≡ Some l) × ((f l).error ≡ 37 → ⊥)
on-cases None f h = absurd (h refl)
on-cases (Some l) f h = (l, refl, h)

nothing_left : (s : Setup) (rest : List ℕ) → ((judged_as s (length rest)).error ≡ 37 → ⊥) → rest ≡ []
nothing_left s [] h = refl
nothing_left s (x ∷ rest) h = absurd (h (rw (ne_eqb (suc (length rest)) 0 (λ z. omega arith))))

-- the text of a setup with the built-in flag table whose numbers have one to 15 digits
pub record TextOf (bytes : List ℕ) (s : Setup) : Type 0 where
  pub utzero-short : short s.utzero
  pub ustktop-short : short s.ustktop
  pub ustksize-short : short s.ustksize
  pub uaddrtop-short : short s.uaddrtop
  pub built_in : s.flags ≡ built_in
  pub text-is : bytes ≡ setup_text s

-- four lines that are read, and nothing behind them
abbrev setup_of : Lined → Lined → Lined → Lined → Setup
setup_of a b c d = record { utzero = a.number; ustktop = b.number; ustksize = c.number; uaddrtop = d.number; flags = built_in }

module _ (name s : List ℕ) (a : Lined) (x : List ℕ) where
  line_before : line_named name s ≡ Some a → a.rest ≡ x → short a.number × (s ≡ name ++ (decimal a.number ++ 10 ∷ x))
  line_before e r = let p = named-says name s a e in (p.0, p.1 ∙ ap (λ (y : List ℕ). name ++ (decimal a.number ++ 10 ∷ y)) r)

four-lines : (bytes : List ℕ) (a b c d : Lined) → line_named (ascii "UTZERO=") bytes ≡ Some a → line_named (ascii "USTKTOP=") a.rest ≡ Some b
    → line_named (ascii "USTKSIZE=") b.rest ≡ Some c → line_named (ascii "UADDRTOP=") c.rest ≡ Some d → d.rest ≡ [] → TextOf bytes (setup_of a b c d)
four-lines bytes a b c d ea eb ec ed z =
    let pd = line_before (ascii "UADDRTOP=") c.rest d [] ed z in
    let pc = line_before (ascii "USTKSIZE=") b.rest c (line-4 (decimal d.number)) ec pd.1 in
    let pb = line_before (ascii "USTKTOP=") a.rest b (line-3 (decimal c.number) (decimal d.number)) eb pc.1 in
    let pa = line_before (ascii "UTZERO=") bytes a (line-2 (decimal b.number) (decimal c.number) (decimal d.number)) ea pb.1 in
    record {
      utzero-short = pa.0;
      ustktop-short = pb.0;
      ustksize-short = pc.0;
      uaddrtop-short = pd.0;
      built_in = refl;
      text-is = pa.1 ∙ sym (text-lines (setup_of a b c d));
    }

-- bytes that aren't 37 are such a text
module _ (bytes : List ℕ) where
  step-4 : (a b c : Lined) → line_named (ascii "UTZERO=") bytes ≡ Some a → line_named (ascii "USTKTOP=") a.rest ≡ Some b → line_named (ascii "USTKSIZE=") b.rest ≡ Some c
      → ((on_fourth a.number b.number c.number c.rest).error ≡ 37 → ⊥) → (s : Setup) × TextOf bytes s
  step-4 a b c ea eb ec h =
      let four = on-cases (line_named (ascii "UADDRTOP=") c.rest) (λ (d : Lined). judged_as (setup_of a b c d) (length d.rest)) h in
      (setup_of a b c four.0, four-lines bytes a b c four.0 ea eb ec four.1 (nothing_left (setup_of a b c four.0) four.0.rest four.2))

  step-3 : (a b : Lined) → line_named (ascii "UTZERO=") bytes ≡ Some a → line_named (ascii "USTKTOP=") a.rest ≡ Some b
      → ((on_third a.number b.number b.rest).error ≡ 37 → ⊥) → (s : Setup) × TextOf bytes s
  step-3 a b ea eb h =
      let three = on-cases (line_named (ascii "USTKSIZE=") b.rest) (λ (l : Lined). on_fourth a.number b.number l.number l.rest) h in
      step-4 a b three.0 ea eb three.1 three.2

  step-2 : (a : Lined) → line_named (ascii "UTZERO=") bytes ≡ Some a → ((on_second a.number a.rest).error ≡ 37 → ⊥) → (s : Setup) × TextOf bytes s
  step-2 a ea h =
      let two = on-cases (line_named (ascii "USTKTOP=") a.rest) (λ (l : Lined). on_third a.number l.number l.rest) h in
      step-3 a two.0 ea two.1 two.2

  pub text-read : ((read_setup bytes).error ≡ 37 → ⊥) → (s : Setup) × TextOf bytes s
  text-read h =
      let one = on-cases (line_named (ascii "UTZERO=") bytes) (λ (l : Lined). on_second l.number l.rest) (λ z. h (ap (λ (r : Read). r.error) (sym (on-first bytes)) ∙ z)) in
      step-2 one.0 one.1 one.2

-- ---- the laws

-- what such a text is read as
pub text-judged : (bytes : List ℕ) (s : Setup) → TextOf bytes s → read_setup bytes ≡ judged_as s 0
text-judged bytes s t = ap read_setup t.text-is ∙ round_trip s t.built_in t.utzero-short t.ustktop-short t.ustksize-short t.uaddrtop-short

-- bytes that are read as a set are the text of that set, so that no other bytes are read as it
pub read-text : (bytes : List ℕ) → (read_setup bytes).error ≡ 0 → bytes ≡ setup_text (read_setup bytes).setup
read-text bytes z =
    let t = text-read bytes (λ e. omega arith) in
    let s = t.0 in
    let j = text-judged bytes s t.1 in
    t.1.text-is ∙ ap setup_text (sym (ap (λ (r : Read). r.setup) j ∙ accepted-setup s (sym (ap (λ (r : Read). r.error) j) ∙ z)))
  where
    accepted-setup : (s : Setup) → (judged_as s 0).error ≡ 0 → (judged_as s 0).setup ≡ s
    accepted-setup s e = split (setup_ok s) (λ q. rw q) (λ q. absurd (let w = rw q at e in omega arith))

pub one-text : (x y : List ℕ) → (read_setup x).error ≡ 0 → read_setup x ≡ read_setup y → x ≡ y
one-text x y z e =
    read-text x z ∙ ap (λ (r : Read). setup_text r.setup) e ∙ sym (read-text y (sym (ap (λ (r : Read). r.error) e) ∙ z))
