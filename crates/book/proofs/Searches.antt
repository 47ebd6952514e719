-- The turns of loops over the book: free frames counted, and those held alone, and the highest frame that passes a test.
use Prim.Native.Nat.{ℕ, zero, suc, ◌+◌, ◌-◌, ◌*◌, ◌/◌, ◌%◌, ◌≤◌, ◌<◌}
use native.Mathlib.Omega.{arith}
use native.Mathlib.Numerals.{add-one}
use mathlib.Core.Path.{◌≡◌, refl, sym, ap, ◌∙◌}
use mathlib.Core.Bool.{Bool, true, false}
use Rattle.std.specs.Prelude.{Option, None, Some, IfNone, IfSome}
use mathlib.Core.List.{List, []}
use lib.ListN.{length, drop, get_or, length-drop}
use lib.Seq.{get_or-take, get_or-drop, length-take-le}
use lib.Dec.{eqb}
use borrow.Author.Tests.{eqb-true, eqb-false, eq-eqb}
use Rattle.std.specs.Simd.{first_chunks}
use Rattle.spec.specs.Book.{frame_count, mapping, highest, count_below, owns, frame_of}
use Rattle.spec.proofs.Bools.{split, same_test}
use Rattle.spec.proofs.Search.{highest-none}
use Rattle.spec_laws.proofs.Frame.{owns-means, owns-test, frame_found}

-- ---- the words of a frame

pub length-frames : (k : ℕ) (book : List ℕ) → length (first_chunks 17 k book) ≡ k
length-frames zero book = refl
length-frames (suc k) book = ap suc (length-frames k (drop 17 book))

pub frame-word : (k : ℕ) (book : List ℕ) (i j : ℕ) → i < k → j < 17 → get_or (get_or (first_chunks 17 k book) i []) j 0 ≡ get_or book (17 * i + j) 0
frame-word zero book i j h l = absurd (omega arith)
frame-word (suc k) book zero j h l = let e : j ≡ 17 * 0 + j = omega arith in get_or-take 17 book j 0 l ∙ ap (λ (n : ℕ). get_or book n 0) e
frame-word (suc k) book (suc i) j h l =
    let e : 17 + (17 * i + j) ≡ 17 * suc i + j = omega arith in
    frame-word k (drop 17 book) i j (omega arith) l ∙ get_or-drop 17 book (17 * i + j) 0 ∙ ap (λ (n : ℕ). get_or book n 0) e

pub frame-length : (k : ℕ) (book : List ℕ) (i : ℕ) → 17 * k ≤ length book → i < k → length (get_or (first_chunks 17 k book) i []) ≡ 17
frame-length zero book i h l = absurd (omega arith)
frame-length (suc k) book zero h l = length-take-le 17 book (omega arith)
frame-length (suc k) book (suc i) h l = frame-length k (drop 17 book) i (omega (arith, length-drop 17 book)) (omega arith)

-- ---- frames counted

-- a frame that passes, and one that doesn't
pub count-hit : (t : ℕ → Bool) (i : ℕ) → t i ≡ true → count_below t (i + 1) ≡ count_below t i + 1
count-hit t i e = rw (add-one i) (rw e)

pub count-miss : (t : ℕ → Bool) (i : ℕ) → t i ≡ false → count_below t (i + 1) ≡ count_below t i
count-miss t i e = rw (add-one i) (rw e)

-- ---- the highest

pub highest-here : (t : ℕ → Bool) (i : ℕ) → 0 < i → t (i - 1) ≡ true → highest t i ≡ Some (i - 1)
highest-here t i h e = let d : i ≡ suc (i - 1) = omega arith in ap (highest t) d ∙ rw e

pub highest-less : (t : ℕ → Bool) (i : ℕ) → 0 < i → t (i - 1) ≡ false → highest t i ≡ highest t (i - 1)
highest-less t i h e = let d : i ≡ suc (i - 1) = omega arith in ap (highest t) d ∙ rw e

pub highest-end : (t : ℕ → Bool) (i : ℕ) → i ≡ 0 → highest t i ≡ None
highest-end t i e = ap (highest t) e

-- a frame that passes, with none above it that does, or none that passes
highest-by : (t : ℕ → Bool) (n : ℕ) (r : Option ℕ) → IfNone r ((k : ℕ) → k < n → t k ≡ false) → IfSome r (λ i. (i < n) × (t i ≡ true)) → IfSome r (λ i. (k : ℕ) → i < k → k < n → t k ≡ false) → r ≡ highest t n
highest-by t n None f g h = sym (highest-none t n f)
highest-by t n (Some i) f g h = sym (last n g.0 h)
  where
    last : (m : ℕ) → i < m → ((k : ℕ) → i < k → k < m → t k ≡ false) → highest t m ≡ Some i
    last zero l h = absurd (omega arith)
    last (suc m) l h =
        split (eqb i m)
        (λ q. rw (← eqb-true i m q, g.1) refl)
        (λ q. let ne : i ≡ m → ⊥ = eqb-false i m q in rw (h m (omega arith) (omega arith)) (last m (omega arith) (λ k u v. h k u (omega arith))))

highest-same : (t u : ℕ → Bool) (n : ℕ) → ((k : ℕ) → k < n → t k ≡ u k) → highest t n ≡ highest u n
highest-same t u zero e = refl
highest-same t u (suc n) e = rw (e n (omega arith), highest-same t u n (λ k l. e k (omega arith)))

-- the same of frames, by a test of the word in one place
module _ (fs : List (List ℕ)) (book : List ℕ) (c place : ℕ) (p t : ℕ → Bool) where
  abbrev here : ℕ → Bool
  here k = p (get_or (get_or fs k []) place 0)

  pub highest-frame : length fs ≡ c → ((k : ℕ) → k < c → get_or (get_or fs k []) place 0 ≡ get_or book (17 * k + place) 0) → ((k : ℕ) → k < c → p (get_or book (17 * k + place) 0) ≡ t k)
      → (r : Option ℕ) → IfNone r ((k : ℕ) → k < length fs → here k ≡ false) → IfSome r (λ i. (i < length fs) × (here i ≡ true)) → IfSome r (λ i. (k : ℕ) → i < k → k < length fs → here k ≡ false)
      → r ≡ highest t c
  highest-frame l words same r f g h = highest-by here (length fs) r f g h ∙ highest-same here t (length fs) (λ k u. ap p (words k (omega arith)) ∙ same k (omega arith)) ∙ ap (highest t) l

-- ---- what a search answers

-- a page's frame lies in the book, and is used
pub record Framed (book : List ℕ) (n page k : ℕ) : Type 0 where
  pub is : frame_of book n page ≡ Some k
  pub there : k < frame_count book
  pub used : mapping book k n ≡ 0 → ⊥

pub page-found : (book : List ℕ) (n page k : ℕ) → frame_of book n page ≡ Some k → Framed book n page k
page-found book n page k g =
    let h = frame_found book n page k g in
    record { is = g; there = h.0; used = h.1.used }

-- ---- a word without its permission is owner and page

pub key-test : (n page w : ℕ) → 1 ≤ n → n < 256 → page % 4096 ≡ 0 → eqb (w / 16) (page / 16 + n) ≡ owns n page w
key-test n page w lo hi al =
    same_test _ _
    (λ q. let e : w / 16 ≡ page / 16 + n = eqb-true (w / 16) (page / 16 + n) q in owns-test n page w (record { used = λ z. omega arith; owner = omega arith; page = omega arith }))
    (λ q. let o = owns-means n page w q in eq-eqb (w / 16) (page / 16 + n) (omega (arith, o.owner, o.page)))
