-- One frame, place by place: what holds of the places passed, and what a place that is refused says of the book.
use Prim.Native.Nat.{ℕ, zero, suc, ◌+◌, ◌*◌, ◌-◌, ◌/◌, ◌%◌, ◌<◌, ◌≤◌}
use native.Mathlib.Omega.{arith}
use native.Mathlib.Numerals.{add-one}
use mathlib.Core.Path.{◌≡◌, refl, sym, ap, ap₂, ◌∙◌, subst}
use mathlib.Core.Bool.{Bool, true, false, false≢true}
use mathlib.Core.List.{List}
use lib.Dec.{eqb, ltb}
use lib.ListN.{get_or}
use borrow.Author.Tests.{eqb-true, eqb-false, eq-eqb, ne_eqb, ltb-true, ltb-false}
use Rattle.spec.specs.Tests.{◌is◌, ◌isnt◌}
use Rattle.spec.specs.Book.{page_of, owner_of, perm_of, valid, frame_count, mapping, holders, count_below}
use Rattle.spec.specs.Sound.{Beside}
use Rattle.spec.proofs.Bools.{split, clash, within-means, within-test}
use Rattle.spec.proofs.Counts.{none-counted}
use Rattle.spec.proofs.Words.{repack}
use Rattle.sound_plan.specs.Plan.{hits, rank, Plan}
use Rattle.sound_table.specs.Rows.{Free, Only}
use Rattle.sound_table.specs.Table.{place_at, bit_of, Planned, Noted, BitSet, Stored, Framed, FramedAll, Entered, Passes}
use Rattle.sound_table.proofs.Places.{planned-free, noted-free, planned-more, noted_more, planned-twice}

valid-test : (n : ℕ) → 1 ≤ n → n ≤ 16 → valid n ≡ true
valid-test n l h = within-test 1 17 n l (omega arith)

valid-low : (n : ℕ) → valid n ≡ true → 1 ≤ n
valid-low n v = (within-means 1 17 n v).0

valid-high : (n : ℕ) → valid n ≡ true → n ≤ 16
valid-high n v = omega (arith, (within-means 1 17 n v).1)

-- place i of frame k
pub place_is : (book : List ℕ) (k i : ℕ) → i < 16 → place_at book (16 * k + i) ≡ mapping book k (i + 1)
place_is book k i l = ap₂ (mapping book) (omega arith) (omega arith)

-- mappings that agree have one base
base_same : (w v base m n : ℕ) → page_of w ≡ page_of v → perm_of w ≡ perm_of v → v ≡ base + 16 * m → base % 4096 / 16 ≡ 0 → m ≤ 16 → owner_of w ≡ n → w - 16 * n ≡ base
base_same w v base m n page perm ev low hm own =
    let pv : page_of v ≡ page_of base = page-low base m v ev low hm in
    let qv : perm_of v ≡ perm_of base = perm-low base m v ev in
    let eb : base ≡ page_of base + perm_of base = whole base low in
    let ew : w ≡ page_of w + 16 * owner_of w + perm_of w = repack w in
    sums w (page_of w) (perm_of w) (owner_of w) n (page_of base) (perm_of base) base ew (page ∙ pv) (perm ∙ qv) eb own
  where
    page-low : (base m v : ℕ) → v ≡ base + 16 * m → base % 4096 / 16 ≡ 0 → m ≤ 16 → page_of v ≡ page_of base
    page-low base m v e l h = omega arith

    perm-low : (base m v : ℕ) → v ≡ base + 16 * m → perm_of v ≡ perm_of base
    perm-low base m v e = omega arith

    whole : (base : ℕ) → base % 4096 / 16 ≡ 0 → base ≡ page_of base + perm_of base
    whole base l = omega arith

    sums : (w p q o n a b base : ℕ) → w ≡ p + 16 * o + q → p ≡ a → q ≡ b → base ≡ a + b → o ≡ n → w - 16 * n ≡ base
    sums w p q o n a b base e f g h i = omega arith

abbrev used : List ℕ → ℕ → ℕ → Bool
used book k j = mapping book k (j + 1) isnt 0

-- the first i places of frame k are passed
pub record Row (book tags bases : List ℕ) (first count : ℕ) (bits table : List ℕ) (k i base seen : ℕ) : Type 0 where
  pub planned : Planned book tags bases (16 * k + i)
  pub noted : Noted book tags bases first count bits table (16 * k + i)
  pub counted : seen ≡ count_below (used book k) i
  pub words : (n : ℕ) → 1 ≤ n → n ≤ i → ¬ (mapping book k n ≡ 0) → mapping book k n ≡ base + 16 * n
  pub low : base % 4096 / 16 ≡ 0
  pub alone : (m n : ℕ) → 1 ≤ m → m < n → n ≤ i → ¬ (mapping book k m ≡ 0) → ¬ (mapping book k n ≡ 0) → base % 16 ≡ 3 → ⊥
  pub some : (seen ≡ 0 → ⊥) → (m : ℕ) × (1 ≤ m) × (m ≤ i) × ¬ (mapping book k m ≡ 0)
  pub few : seen ≤ i

module _ (book tags bases : List ℕ) (first count : ℕ) (k : ℕ) where
  pub row-start : (bits table : List ℕ) → Planned book tags bases (16 * k) → Noted book tags bases first count bits table (16 * k) → Row book tags bases first count bits table k 0 0 0
  row-start bits table p t =
      let z : 16 * k ≡ 16 * k + 0 = omega arith in
      record {
        planned = rw z at p;
        noted = rw z at t;
        counted = refl;
        words = λ n a b. absurd (omega arith);
        low = refl;
        alone = λ m n a b c. absurd (omega arith);
        some = λ ne. absurd (ne refl);
        few = omega arith;
      }

  -- a place that has been passed and is used has been counted
  counts : (i n : ℕ) → count_below (used book k) i ≡ 0 → 1 ≤ n → n ≤ i → mapping book k n ≡ 0
  counts i n e a b =
      let q = none-counted (used book k) i e (n - 1) (omega arith) in
      let z : n - 1 + 1 ≡ n = omega arith in
      split (eqb (mapping book k n) 0) (λ x. eqb-true _ _ x) (λ x. clash (used book k (n - 1)) (rw (z, x)) q)

  module _ (plan : Plan tags bases) (bits table : List ℕ) (i base seen : ℕ) (hi : i < 16) (row : Row book tags bases first count bits table k i base seen) where
    abbrev w : ℕ
    w = mapping book k (i + 1)

    next : 16 * k + i + 1 ≡ 16 * k + (i + 1)
    next = omega arith

    -- an empty place
    pub row-free : mapping book k (i + 1) ≡ 0 → Row book tags bases first count bits table k (i + 1) base seen
    row-free z =
        let e : place_at book (16 * k + i) ≡ 0 = place_is book k i hi ∙ z in
        record {
          planned = rw next at (planned-free book tags bases plan (16 * k + i) e row.planned);
          noted = rw next at (noted-free book tags bases plan (16 * k + i) first count bits table e row.noted);
          counted = row.counted ∙ sym (rw (add-one i) (rw (eq-eqb (mapping book k (i + 1)) 0 z)));
          words = λ n a b nz. row.words n a (under n b nz) nz;
          low = row.low;
          alone = λ m n a b c x y. row.alone m n a b (under n c y) x y;
          some = λ ne. let r = row.some ne in (r.0, r.1, omega (arith, r.2), r.3);
          few = omega (arith, row.few);
        }
      where
        under : (n : ℕ) → n ≤ i + 1 → ¬ (mapping book k n ≡ 0) → n ≤ i
        under n b nz =
            split (eqb n (i + 1))
            (λ q. absurd (nz (ap (mapping book k) (eqb-true n (i + 1) q) ∙ z)))
            (λ q. let ne = eqb-false n (i + 1) q in omega arith)

    -- a mapping that is entered
    pub row_more : ¬ (mapping book k (i + 1) ≡ 0) → owner_of (mapping book k (i + 1)) ≡ i + 1
        → ((seen ≡ 0 → ⊥) → (mapping book k (i + 1) - 16 * (i + 1) ≡ base) × (base % 16 ≡ 3 → ⊥))
        → (bits' later : List ℕ) (r : Bool) → r ≡ true → Entered tags bases first count bits table bits' later (mapping book k (i + 1)) k r
        → Row book tags bases first count bits' later k (i + 1) (mapping book k (i + 1) - 16 * (i + 1)) (seen + 1)
    row_more nz own agree bits' later r lr en =
        let y = en.yes lr in
        let e = place_is book k i hi in
        let div : (16 * k + i) / 16 + 1 ≡ k + 1 = omega arith in
        let p = y.0 in
        let h : hits tags bases (place_at book (16 * k + i)) p ≡ true = rw e y.2 in
        let z : bit_of bits (rank tags bases (place_at book (16 * k + i)) p) ≡ 0 = rw e y.3 in
        let s : BitSet bits bits' (rank tags bases (place_at book (16 * k + i)) p) = rw e y.4 in
        let d : Stored first count table later (rank tags bases (place_at book (16 * k + i)) p) ((16 * k + i) / 16 + 1) = rw (e, div) y.5 in
        record {
          planned = rw next at (planned-more book tags bases plan (16 * k + i) first count bits table p y.1 h row.noted z row.planned);
          noted = rw next at (noted_more book tags bases plan (16 * k + i) first count bits table p y.1 h row.noted bits' later s d);
          counted = ap (λ (x : ℕ). x + 1) row.counted ∙ sym (rw (add-one i) (rw (ne_eqb (mapping book k (i + 1)) 0 nz)));
          words = words;
          low = omega (arith, own);
          alone = alone;
          some = λ ne. (i + 1, omega arith, omega arith, nz);
          few = omega (arith, row.few);
        }
      where
        -- where a place before was used, the base is as before
        was : (n : ℕ) → 1 ≤ n → n ≤ i → ¬ (mapping book k n ≡ 0) → seen ≡ 0 → ⊥
        was n a b u z = u (counts i n (sym row.counted ∙ z) a b)

        words : (n : ℕ) → 1 ≤ n → n ≤ i + 1 → ¬ (mapping book k n ≡ 0) → mapping book k n ≡ mapping book k (i + 1) - 16 * (i + 1) + 16 * n
        words n a b u =
            split (eqb n (i + 1))
            (λ q. let x = eqb-true n (i + 1) q in rw x (omega (arith, own)))
            (λ q. let ne = eqb-false n (i + 1) q in let l : n ≤ i = omega arith in
            row.words n a l u ∙ ap (λ (x : ℕ). x + 16 * n) (sym (agree (was n a l u)).0))

        alone : (m n : ℕ) → 1 ≤ m → m < n → n ≤ i + 1 → ¬ (mapping book k m ≡ 0) → ¬ (mapping book k n ≡ 0) → (mapping book k (i + 1) - 16 * (i + 1)) % 16 ≡ 3 → ⊥
        alone m n a b c x y z =
            let g = agree (was m a (omega arith) x) in
            g.1 (ap (λ (v : ℕ). v % 16) (sym g.0) ∙ z)

    -- ---- a place that is refused

    module _ (all : FramedAll book (frame_count book)) (here : k < frame_count book) (nz : ¬ (mapping book k (i + 1) ≡ 0)) where
      v : valid (i + 1) ≡ true
      v = valid-test (i + 1) (omega arith) (omega arith)

      pub not-owner : (owner_of (mapping book k (i + 1)) ≡ i + 1 → ⊥) → ⊥
      not-owner ne = ne ((all k here).owner (i + 1) v nz)

      other : (ne : seen ≡ 0 → ⊥) → Beside (mapping book k (i + 1)) (mapping book k (row.some ne).0)
      other ne =
          let s = row.some ne in
          (all k here).beside (i + 1) s.0 v (valid-test s.0 s.1 (omega (arith, s.2))) (λ e. omega (arith, s.2)) nz s.3

      pub not-base : (seen ≡ 0 → ⊥) → (mapping book k (i + 1) - 16 * (i + 1) ≡ base → ⊥) → ⊥
      not-base ne out =
          let s = row.some ne in
          let b = other ne in
          let x = row.words s.0 s.1 s.2 s.3 in
          let own = (all k here).owner (i + 1) v nz in
          let low = row.low in
          out (base_same (mapping book k (i + 1)) (mapping book k s.0) base s.0 (i + 1) b.page b.perm x low (omega (arith, s.2)) own)

      pub not-data : (seen ≡ 0 → ⊥) → (mapping book k (i + 1) - 16 * (i + 1)) % 16 ≡ 3 → ⊥
      not-data ne z =
          let own = (all k here).owner (i + 1) v nz in
          (other ne).no-data (omega (arith, own))

      pub not_entered : (bits' later : List ℕ) (r : Bool) → r ≡ false → Entered tags bases first count bits table bits' later (mapping book k (i + 1)) k r → Planned book tags bases (16 * frame_count book) → ⊥
      not_entered bits' later r q en p =
          let e = place_is book k i hi in
          let l : 16 * k + i < 16 * frame_count book = omega arith in
          let u : place_at book (16 * k + i) ≡ 0 → ⊥ = λ z. nz (sym e ∙ z) in
          let f = p.fits (16 * k + i) l u in
          split (eqb (bit_of bits (rank tags bases (place_at book (16 * k + i)) f.0)) 0)
          (λ x. en.no q f.0 f.1 (subst (λ (y : ℕ). hits tags bases y f.0 ≡ true) e f.2) (subst (λ (y : ℕ). bit_of bits (rank tags bases y f.0) ≡ 0) e (eqb-true _ _ x)))
          (λ x. planned-twice book tags bases plan (16 * k + i) first count bits table f.0 f.1 f.2 row.noted l u (eqb-false _ _ x) p)

  -- ---- all sixteen

  module _ (bits table : List ℕ) (base seen : ℕ) (row : Row book tags bases first count bits table k 16 base seen) where
    pub row-end : seen ≡ holders book k → Framed book k
    row-end e = record {
      owner = λ n v nz. let x = row.words n (valid-low n v) (valid-high n v) nz in omega (arith, x, row.low, valid-high n v);
      beside = λ m n v u ne a b.
          let x = row.words m (valid-low m v) (valid-high m v) a in
          let y = row.words n (valid-low n u) (valid-high n u) b in
          record {
            page = omega (arith, x, y, row.low, valid-high m v, valid-high n u);
            perm = omega (arith, x, y);
            no-data = λ z. two m n v u ne a b (omega (arith, x, z));
          };
      count = sym e ∙ row.counted;
    }
      where
        two : (m n : ℕ) → valid m ≡ true → valid n ≡ true → (m ≡ n → ⊥) → ¬ (mapping book k m ≡ 0) → ¬ (mapping book k n ≡ 0) → base % 16 ≡ 3 → ⊥
        two m n v u ne a b z =
            split (ltb m n)
            (λ q. row.alone m n (valid-low m v) (ltb-true m n q) (valid-high n u) a b z)
            (λ q. let l = ltb-false m n q in row.alone n m (valid-low n u) (less m n ne l) (valid-high m v) b a z)
          where
            less : (m n : ℕ) → (m ≡ n → ⊥) → n ≤ m → n < m
            less m n ne l = omega arith

    pub not-count : (seen ≡ holders book k → ⊥) → k < frame_count book → FramedAll book (frame_count book) → ⊥
    not-count ne here all = ne (row.counted ∙ sym (all k here).count)

-- ---- the word that is read

pub word-is : (book : List ℕ) (k i : ℕ) → get_or book (17 * k + i) 0 ≡ mapping book k (i + 1)
word-is book k i = ap (λ (x : ℕ). get_or book x 0) (omega arith)

pub fails : (book tags bases : List ℕ) (first count : ℕ) (bits' later : List ℕ) (k : ℕ) → (Planned book tags bases (16 * frame_count book) → FramedAll book (frame_count book) → ⊥) → Passes book tags bases first count bits' later k false
fails book tags bases first count bits' later k f = record { yes = λ e. absurd (false≢true e); no = λ e. f }

pub passes : (book tags bases : List ℕ) (first count : ℕ) (bits' later : List ℕ) (k : ℕ) → Planned book tags bases (16 * k + 16) → Noted book tags bases first count bits' later (16 * k + 16) → Framed book k → Passes book tags bases first count bits' later k true
passes book tags bases first count bits' later k p t f = record { yes = λ e. (p, t, f); no = λ e. absurd (false≢true (sym e)) }

-- all places are passed
pub pass-whole : (book tags bases : List ℕ) (first count : ℕ) (bits table : List ℕ) (k base seen : ℕ) → k < frame_count book → Row book tags bases first count bits table k 16 base seen → Passes book tags bases first count bits table k (seen is holders book k)
pass-whole book tags bases first count bits table k base seen here row =
    split (eqb seen (holders book k))
    (λ q. subst (Passes book tags bases first count bits table k) (sym q) (passes book tags bases first count bits table k row.planned row.noted (row-end book tags bases first count k bits table base seen row (eqb-true _ _ q))))
    (λ q. subst (Passes book tags bases first count bits table k) (sym q) (fails book tags bases first count bits table k (λ p all. not-count book tags bases first count k bits table base seen row (eqb-false _ _ q) here all)))

module _ (book tags bases : List ℕ) (first count : ℕ) (k : ℕ) (plan : Plan tags bases) (bits table : List ℕ) (i base seen : ℕ) (hi : i < 16) (row : Row book tags bases first count bits table k i base seen) (w : ℕ) (ew : w ≡ mapping book k (i + 1)) where
  pub pass-free : w ≡ 0 → Row book tags bases first count bits table k (i + 1) base seen
  pass-free z = row-free book tags bases first count k plan bits table i base seen hi row (sym ew ∙ z)

  pub pass-more : (w ≡ 0 → ⊥) → owner_of w ≡ i + 1 → ((seen ≡ 0 → ⊥) → (w - 16 * (i + 1) ≡ base) × (base % 16 ≡ 3 → ⊥))
      → (bits' later : List ℕ) (r : Bool) → r ≡ true → Entered tags bases first count bits table bits' later w k r → Row book tags bases first count bits' later k (i + 1) (w - 16 * (i + 1)) (seen + 1)
  pass-more nz own agree bits' later r lr en =
      subst (λ (x : ℕ). Row book tags bases first count bits' later k (i + 1) (x - 16 * (i + 1)) (seen + 1)) (sym ew)
      (row_more book tags bases first count k plan bits table i base seen hi row (λ z. nz (ew ∙ z)) (ap owner_of (sym ew) ∙ own) (λ ne. let a = agree ne in (ap (λ (x : ℕ). x - 16 * (i + 1)) (sym ew) ∙ a.0, a.1))
      bits' later r lr (subst (λ (x : ℕ). Entered tags bases first count bits table bits' later x k r) ew en))

  module _ (here : k < frame_count book) (nz : w ≡ 0 → ⊥) (bits' later : List ℕ) where
    pub fail-owner : (owner_of w ≡ i + 1 → ⊥) → Passes book tags bases first count bits' later k false
    fail-owner ne = fails book tags bases first count bits' later k (λ p all. not-owner book tags bases first count k plan bits table i base seen hi row all here (λ z. nz (ew ∙ z)) (λ e. ne (ap owner_of ew ∙ e)))

    pub fail-base : (seen ≡ 0 → ⊥) → (w - 16 * (i + 1) ≡ base → ⊥) → Passes book tags bases first count bits' later k false
    fail-base ne out = fails book tags bases first count bits' later k (λ p all. not-base book tags bases first count k plan bits table i base seen hi row all here (λ z. nz (ew ∙ z)) ne (λ e. out (ap (λ (x : ℕ). x - 16 * (i + 1)) ew ∙ e)))

    pub fail-data : (seen ≡ 0 → ⊥) → (w - 16 * (i + 1)) % 16 ≡ 3 → Passes book tags bases first count bits' later k false
    fail-data ne z = fails book tags bases first count bits' later k (λ p all. not-data book tags bases first count k plan bits table i base seen hi row all here (λ y. nz (ew ∙ y)) ne (ap (λ (x : ℕ). (x - 16 * (i + 1)) % 16) (sym ew) ∙ z))

    pub fail-entered : (r : Bool) → r ≡ false → Entered tags bases first count bits table bits' later w k r → Passes book tags bases first count bits' later k false
    fail-entered r q en =
        fails book tags bases first count bits' later k (λ p all. not_entered book tags bases first count k plan bits table i base seen hi row all here (λ z. nz (ew ∙ z)) bits' later r q (subst (λ (x : ℕ). Entered tags bases first count bits table bits' later x k r) ew en) p)

-- ---- a frame decided at once

-- places that are 0, d of them
rows-free : (book tags bases : List ℕ) (first count : ℕ) (k : ℕ) → Plan tags bases → (bits table : List ℕ) (base seen d i : ℕ) → i + d ≤ 16 → ((j : ℕ) → i ≤ j → j < i + d → mapping book k (j + 1) ≡ 0)
    → Row book tags bases first count bits table k i base seen → Row book tags bases first count bits table k (i + d) base seen
rows-free book tags bases first count k plan bits table base seen zero i h z row = let e : i ≡ i + 0 = omega arith in rw e at row
rows-free book tags bases first count k plan bits table base seen (suc d) i h z row =
    let e : i + 1 + d ≡ i + suc d = omega arith in
    rw e at (rows-free book tags bases first count k plan bits table base seen d (i + 1) (omega arith) (λ j a b. z j (omega arith) (omega arith))
    (row-free book tags bases first count k plan bits table i base seen (omega arith) row (z i (omega arith) (omega arith))))

module _ (book tags bases : List ℕ) (first count : ℕ) (bits table : List ℕ) (k : ℕ) (plan : Plan tags bases) (p : Planned book tags bases (16 * k)) (t : Noted book tags bases first count bits table (16 * k)) where
  -- no holder, and no mapping
  pub pass-none : Free book k → Passes book tags bases first count bits table k true
  pass-none f =
      let row = rows-free book tags bases first count k plan bits table 0 0 16 0 (omega arith) (λ j a b. sym (word-is book k j) ∙ f.places j b) (row-start book tags bases first count k bits table p t) in
      passes book tags bases first count bits table k row.planned row.noted (row-end book tags bases first count k bits table 0 0 row (sym f.count))

  -- one, in its owner's place
  module _ (w : ℕ) (o : Only book k w) (here : k < frame_count book) where
    hi : o.place < 16
    hi = o.low

    ew : w ≡ mapping book k (o.place + 1)
    ew = o.word ∙ word-is book k o.place

    nz : w ≡ 0 → ⊥
    nz e = omega (arith, o.owner)

    -- all other places are 0
    others : (j : ℕ) → j < 16 → (j ≡ o.place → ⊥) → mapping book k (j + 1) ≡ 0
    others j l ne = sym (word-is book k j) ∙ o.rest j l ne

    before : Row book tags bases first count bits table k o.place 0 0
    before =
        let z : 0 + o.place ≡ o.place = omega arith in
        rw z at (rows-free book tags bases first count k plan bits table 0 0 o.place 0 (omega (arith, o.low)) (λ j a b. others j (omega (arith, o.low)) (λ e. omega arith)) (row-start book tags bases first count k bits table p t))

    pub pass-one : (bits' later : List ℕ) (r : Bool) → Entered tags bases first count bits table bits' later w k r → Passes book tags bases first count bits' later k r
    pass-one bits' later r en =
        split r
        (λ q. subst (Passes book tags bases first count bits' later k) (sym q) (taken q))
        (λ q. subst (Passes book tags bases first count bits' later k) (sym q) (refused q))
      where
        refused : r ≡ false → Passes book tags bases first count bits' later k false
        refused e = fails book tags bases first count bits' later k (λ f all. not_entered book tags bases first count k plan bits table o.place 0 0 hi before all here (λ y. nz (ew ∙ y)) bits' later r e (subst (λ (x : ℕ). Entered tags bases first count bits table bits' later x k r) ew en) f)

        taken : r ≡ true → Passes book tags bases first count bits' later k true
        taken lr =
            let row = pass-more book tags bases first count k plan bits table o.place 0 0 hi before w ew nz o.owner (λ d. absurd (d refl)) bits' later r lr en in
            let z : o.place + 1 + (15 - o.place) ≡ 16 = omega (arith, o.low) in
            let all = rw z at (rows-free book tags bases first count k plan bits' later (w - 16 * (o.place + 1)) 1 (15 - o.place) (o.place + 1) (omega (arith, o.low)) (λ j a b. others j (omega (arith, o.low)) (λ e. omega arith)) row) in
            passes book tags bases first count bits' later k all.planned all.noted (row-end book tags bases first count k bits' later _ 1 all (sym o.count))
