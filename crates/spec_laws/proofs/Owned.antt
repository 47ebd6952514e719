-- Mappings: the test of each frame of the book, and what holds of the whole.
use Prim.Native.Nat.{ℕ, ◌+◌, ◌-◌, ◌≤◌, ◌<◌}
use native.Mathlib.Omega.{arith}
use mathlib.Core.Path.{◌≡◌, refl, sym, ap, ap₂, ◌∙◌}
use mathlib.Core.Bool.{Bool, true, false, not, ◌&&◌, ◌||◌}
use Rattle.std.specs.Prelude.{Option, None, Some}
use mathlib.Core.List.{List}
use borrow.Author.Tests.{eqb-true, eqb-false, eq-eqb, ne_eqb}
use Rattle.spec.proofs.Bools.{clash, both, and-test, or-fact, or-test, neither, not-true, within-means, within-test, below_at, below-test}
use Rattle.spec.specs.Tests.{◌is◌, ◌isnt◌, within, all_below}
use Rattle.spec.specs.Book.{page_of, owner_of, perm_of, valid, frame_count, mapping, holders, frame_of}
use Rattle.spec.specs.Sound.{gives, place_ok, beside, mapped, frame_ok, Word, Beside, Mappings}
use Rattle.spec.specs.declared.Setup.{Setup}
use Rattle.spec_laws.proofs.Lists.{by_order}
use Rattle.spec_laws.proofs.Frame.{once-means, frame_is}
use Rattle.spec_laws.proofs.Held.{beside-sym}

-- ---- process numbers

pub valid-means : (n : ℕ) → valid n ≡ true → (1 ≤ n) × (n ≤ 16)
valid-means n v = let p = within-means 1 17 n v in (p.0, omega (arith, p.1))

pub valid-test : (n : ℕ) → 1 ≤ n → n ≤ 16 → valid n ≡ true
valid-test n l h = within-test 1 17 n l (omega arith)

-- a test of each process number
pub numbers-at : (t : ℕ → Bool) → all_below 16 (λ i. t (i + 1)) ≡ true → (n : ℕ) → valid n ≡ true → t n ≡ true
numbers-at t e n v =
    let r = valid-means n v in
    let z : n - 1 + 1 ≡ n = omega (arith, r.0) in
    rw z at (below_at 16 (λ i. t (i + 1)) e (n - 1) (omega (arith, r.0, r.1)))

pub numbers-test : (t : ℕ → Bool) → ((n : ℕ) → valid n ≡ true → t n ≡ true) → all_below 16 (λ i. t (i + 1)) ≡ true
numbers-test t f = below-test 16 (λ i. t (i + 1)) (λ i l. f (i + 1) (valid-test (i + 1) (omega arith) (omega arith)))

-- ---- what a search comes to

pub gives-means : (o : Option ℕ) (q : ℕ) → gives o q ≡ true → o ≡ Some q
gives-means None q e = clash false e refl
gives-means (Some x) q e = ap Some (eqb-true x q e)

pub gives-test : (o : Option ℕ) (q : ℕ) → o ≡ Some q → gives o q ≡ true
gives-test o q e = rw e (eq-eqb q q refl)

-- ---- one place

place-means : (setup : Setup) (book : List ℕ) (k n : ℕ) → place_ok setup book k n ≡ true → ¬ (mapping book k n ≡ 0) → Word setup n (mapping book k n) × (frame_of book n (page_of (mapping book k n)) ≡ Some k)
place-means setup book k n e nz =
    let w : ℕ = mapping book k n in
    let t = or-fact (w is 0) (owner_of w is n && within 1 4 (perm_of w) && within setup.utzero setup.uaddrtop (page_of w) && gives (frame_of book n (page_of w)) k) e (ne_eqb w 0 nz) in
    let p = both (owner_of w is n && within 1 4 (perm_of w) && within setup.utzero setup.uaddrtop (page_of w)) (gives (frame_of book n (page_of w)) k) t in
    let q = both (owner_of w is n && within 1 4 (perm_of w)) (within setup.utzero setup.uaddrtop (page_of w)) p.0 in
    let r = both (owner_of w is n) (within 1 4 (perm_of w)) q.0 in
    let b = within-means 1 4 (perm_of w) r.1 in
    (record { owner = eqb-true _ _ r.0; perm = (b.0, omega (arith, b.1)); page = within-means setup.utzero setup.uaddrtop (page_of w) q.1 }, gives-means _ k p.1)

place-test : (setup : Setup) (book : List ℕ) (k n : ℕ) → (¬ (mapping book k n ≡ 0) → Word setup n (mapping book k n) × (frame_of book n (page_of (mapping book k n)) ≡ Some k)) → place_ok setup book k n ≡ true
place-test setup book k n f =
    let w : ℕ = mapping book k n in
    or-test (w is 0) (owner_of w is n && within 1 4 (perm_of w) && within setup.utzero setup.uaddrtop (page_of w) && gives (frame_of book n (page_of w)) k)
    (λ q. let h = f (eqb-false w 0 q) in
    rw (eq-eqb (owner_of w) n h.0.owner, within-test 1 4 (perm_of w) h.0.perm.0 (omega (arith, h.0.perm.1)), within-test setup.utzero setup.uaddrtop (page_of w) h.0.page.0 h.0.page.1, gives-test _ k h.1))

-- ---- two places

beside-means : (v w : ℕ) → beside v w ≡ true → ¬ (v ≡ 0) → ¬ (w ≡ 0) → Beside v w
beside-means v w e nv nw =
    let t = or-fact (v is 0 || w is 0) (page_of v is page_of w && perm_of v is perm_of w && perm_of v isnt 3) e (rw (ne_eqb v 0 nv, ne_eqb w 0 nw)) in
    let p = both (page_of v is page_of w && perm_of v is perm_of w) (perm_of v isnt 3) t in
    let q = both (page_of v is page_of w) (perm_of v is perm_of w) p.0 in
    record { page = eqb-true _ _ q.0; perm = eqb-true _ _ q.1; no-data = eqb-false _ _ (not-true (perm_of v is 3) p.1) }

beside-test : (v w : ℕ) → (¬ (v ≡ 0) → ¬ (w ≡ 0) → Beside v w) → beside v w ≡ true
beside-test v w f =
    or-test (v is 0 || w is 0) (page_of v is page_of w && perm_of v is perm_of w && perm_of v isnt 3)
    (λ q.
    let p = neither (v is 0) (w is 0) q in
    let h = f (eqb-false v 0 p.0) (eqb-false w 0 p.1) in
    rw (eq-eqb (page_of v) (page_of w) h.page, eq-eqb (perm_of v) (perm_of w) h.perm) (ap not (ne_eqb (perm_of v) 3 h.no-data)))

-- ---- one frame, and all of them

abbrev Parts : Setup → List ℕ → ℕ → Type 0
Parts setup book k =
    (all_below 16 (λ i. place_ok setup book k (i + 1)) ≡ true) × (all_below 16 (λ i. all_below i (λ j. beside (mapping book k (j + 1)) (mapping book k (i + 1)))) ≡ true)
    × (holders book k ≡ mapped book k)

frame-parts : (setup : Setup) (book : List ℕ) (k : ℕ) → frame_ok setup book k ≡ true → Parts setup book k
frame-parts setup book k e =
    let p = both (all_below 16 (λ i. place_ok setup book k (i + 1)) && all_below 16 (λ i. all_below i (λ j. beside (mapping book k (j + 1)) (mapping book k (i + 1))))) (holders book k is mapped book k) e in
    let q = both (all_below 16 (λ i. place_ok setup book k (i + 1))) (all_below 16 (λ i. all_below i (λ j. beside (mapping book k (j + 1)) (mapping book k (i + 1))))) p.0 in
    (q.0, q.1, eqb-true _ _ p.1)

pub mappings-mean : (setup : Setup) (book : List ℕ) → all_below (frame_count book) (frame_ok setup book) ≡ true → Mappings setup book
mappings-mean setup book e = record {
  words = λ k n l v nz. (place k n l v nz).0;
  once = λ n j k v a b x y p.
      let f : Some j ≡ Some k = sym (place j n a v x).1 ∙ ap (frame_of book n) p ∙ (place k n b v y).1 in cc;
  beside = λ k m n l x y ne a b. by_order m n (λ c. lower k m n l x y c a b) (λ c. beside-sym _ _ (lower k n m l y x (less ne c) b a));
  counts = λ k l. (at k l).2;
}
  where
    at : (k : ℕ) → k < frame_count book → Parts setup book k
    at k l = frame-parts setup book k (below_at (frame_count book) (frame_ok setup book) e k l)

    place : (k n : ℕ) → k < frame_count book → valid n ≡ true → ¬ (mapping book k n ≡ 0) → Word setup n (mapping book k n) × (frame_of book n (page_of (mapping book k n)) ≡ Some k)
    place k n l v nz = place-means setup book k n (numbers-at (place_ok setup book k) (at k l).0 n v) nz

    less : {m n : ℕ} → (m ≡ n → ⊥) → n ≤ m → n < m
    less ne c = omega arith

    lower : (k m n : ℕ) → k < frame_count book → valid m ≡ true → valid n ≡ true → m < n → ¬ (mapping book k m ≡ 0) → ¬ (mapping book k n ≡ 0) → Beside (mapping book k m) (mapping book k n)
    lower k m n l x y c a b =
        let i = valid-means m x in let j = valid-means n y in
        let zm : m - 1 + 1 ≡ m = omega (arith, i.0) in
        let zn : n - 1 + 1 ≡ n = omega (arith, j.0) in
        let row = below_at 16 (λ i. all_below i (λ j. beside (mapping book k (j + 1)) (mapping book k (i + 1)))) (at k l).1 (n - 1) (omega (arith, j.0, j.1)) in
        let two = below_at (n - 1) (λ j. beside (mapping book k (j + 1)) (mapping book k (n - 1 + 1))) row (m - 1) (omega (arith, i.0)) in
        beside-means (mapping book k m) (mapping book k n) (ap₂ (λ (s t : ℕ). beside (mapping book k s) (mapping book k t)) (sym zm) (sym zn) ∙ two) a b

pub mappings-test : (setup : Setup) (book : List ℕ) → Mappings setup book → all_below (frame_count book) (frame_ok setup book) ≡ true
mappings-test setup book h = below-test (frame_count book) (frame_ok setup book) (λ k l.
    and-test (all_below 16 (λ i. place_ok setup book k (i + 1)) && all_below 16 (λ i. all_below i (λ j. beside (mapping book k (j + 1)) (mapping book k (i + 1))))) (holders book k is mapped book k)
    (and-test (all_below 16 (λ i. place_ok setup book k (i + 1))) (all_below 16 (λ i. all_below i (λ j. beside (mapping book k (j + 1)) (mapping book k (i + 1)))))
    (numbers-test (place_ok setup book k) (λ n v. place-test setup book k n (λ nz.
    let w = h.words k n l v nz in
    (w, frame_is book n (page_of (mapping book k n)) k (once-means book h n v) l (record { used = nz; owner = w.owner; page = refl })))))
    (below-test 16 (λ i. all_below i (λ j. beside (mapping book k (j + 1)) (mapping book k (i + 1)))) (λ i li. below-test i (λ j. beside (mapping book k (j + 1)) (mapping book k (i + 1))) (λ j lj.
    beside-test (mapping book k (j + 1)) (mapping book k (i + 1)) (h.beside k (j + 1) (i + 1) l (valid-test (j + 1) (omega arith) (omega arith)) (valid-test (i + 1) (omega arith) (omega arith)) (λ z. omega arith))))))
    (eq-eqb (holders book k) (mapped book k) (h.counts k l)))
