-- Mappings of a frame and its count: what entering a frame makes of them, whatever the pages.
use Prim.Native.Nat.{ℕ, ◌+◌, ◌-◌, ◌≤◌, ◌<◌}
use native.Mathlib.Omega.{arith}
use mathlib.Core.Path.{◌≡◌, sym, ap, ◌∙◌}
use mathlib.Core.Bool.{Bool, true, false}
use mathlib.Core.List.{List}
use lib.Dec.{eqb}
use borrow.Author.Tests.{eqb-true, eqb-false, eq-eqb, ne_eqb}
use Rattle.spec.specs.Tests.{◌is◌, ◌isnt◌}
use Rattle.spec.specs.Book.{page_of, valid, frame_count, mapping, holders, owns, frame_of}
use Rattle.spec.specs.Frames.{enter}
use Rattle.spec.specs.Sound.{mapped, Word, Beside, Mappings}
use Rattle.spec.specs.declared.Setup.{Setup}
use Rattle.spec.proofs.Bools.{split, un_not, within-means}
use Rattle.spec.proofs.Counts.{count-ext, count-flip, none-counted}
use Rattle.spec.proofs.Enter.{enter-count, holders-here, holders-else, mapping-here, mapping-else}
use Rattle.spec_laws.proofs.Frame.{frame-ext}

-- each frame's count is that of its mappings
abbrev pub Counted : List ℕ → Type 0
Counted book = (k : ℕ) → k < frame_count book → holders book k ≡ mapped book k

-- a frame without holders has no mapping
pub unheld : (book : List ℕ) → Counted book → (k : ℕ) → k < frame_count book → holders book k ≡ 0 → (n : ℕ) → 1 ≤ n → n ≤ 16 → mapping book k n ≡ 0
unheld book h k low z n lo hi =
    let q = none-counted (λ i. mapping book k (i + 1) isnt 0) 16 (sym (h k low) ∙ z) (n - 1) (omega arith) in
    let e : n - 1 + 1 ≡ n = omega arith in
    let w = eqb-true (mapping book k (n - 1 + 1)) 0 (un_not (mapping book k (n - 1 + 1) is 0) q) in
    rw e at w

-- no place past the book's end is used
used-is : (w : ℕ) → (w ≡ 0 → ⊥) → (w isnt 0) ≡ true
used-is w h = rw (ne_eqb w 0 h)

unused-is : (w : ℕ) → w ≡ 0 → (w isnt 0) ≡ false
unused-is w h = rw (eq-eqb w 0 h)

module _ (book : List ℕ) (k n w c : ℕ) (low : k < frame_count book) (lo : 1 ≤ n) (hi : n ≤ 16) where
  abbrev now : List ℕ
  now = enter book k n w c

  -- another process's places stay
  pub mapping-other : (j q : ℕ) → 1 ≤ q → q ≤ 16 → (q ≡ n → ⊥) → mapping (enter book k n w c) j q ≡ mapping book j q
  mapping-other j q a b ne = mapping-else book k n w c low hi j q lo a b (λ x y. ne y)

  pub frame-other : (q page : ℕ) → 1 ≤ q → q ≤ 16 → (q ≡ n → ⊥) → frame_of (enter book k n w c) q page ≡ frame_of book q page
  frame-other q page a b ne = frame-ext book now q page (enter-count book k n w c) (λ j l. ap (owns q page) (mapping-other j q a b ne))

  -- the mappings of other frames are as many as before
  mapped-else : (j : ℕ) → (j ≡ k → ⊥) → mapped (enter book k n w c) j ≡ mapped book j
  mapped-else j ne =
      count-ext (λ i. mapping now j (i + 1) isnt 0) (λ i. mapping book j (i + 1) isnt 0) 16
      (λ i l. ap (λ (x : ℕ). x isnt 0) (mapping-else book k n w c low hi j (i + 1) lo (omega arith) (omega arith) (λ x y. ne x)))

  place_here : (b : Bool) → (w isnt 0) ≡ b → (mapping now k (n - 1 + 1) isnt 0) ≡ b
  place_here b e = let z : n - 1 + 1 ≡ n = omega arith in ap (λ (x : ℕ). mapping now k x isnt 0) z ∙ ap (λ (x : ℕ). x isnt 0) (mapping-here book k n w c low hi) ∙ e

  place-was : (b : Bool) → (mapping book k n isnt 0) ≡ b → (mapping book k (n - 1 + 1) isnt 0) ≡ b
  place-was b e = let z : n - 1 + 1 ≡ n = omega arith in ap (λ (x : ℕ). mapping book k x isnt 0) z ∙ e

  place-else : (i : ℕ) → i < 16 → (i ≡ n - 1 → ⊥) → (mapping now k (i + 1) isnt 0) ≡ (mapping book k (i + 1) isnt 0)
  place-else i l ne = ap (λ (x : ℕ). x isnt 0) (mapping-else book k n w c low hi k (i + 1) lo (omega arith) (omega arith) (λ x y. ne (omega arith)))

  -- one more in a place that was empty, one fewer where a mapping goes
  mapped-more : mapping book k n ≡ 0 → (w ≡ 0 → ⊥) → mapped (enter book k n w c) k ≡ mapped book k + 1
  mapped-more z nz =
      count-flip (λ i. mapping book k (i + 1) isnt 0) (λ i. mapping now k (i + 1) isnt 0) 16 (n - 1) (omega arith)
      (place-was false (unused-is _ z)) (place_here true (used-is w nz)) (λ i l ne. sym (place-else i l ne))

  mapped-less : (mapping book k n ≡ 0 → ⊥) → w ≡ 0 → mapped book k ≡ mapped (enter book k n w c) k + 1
  mapped-less nz z =
      count-flip (λ i. mapping now k (i + 1) isnt 0) (λ i. mapping book k (i + 1) isnt 0) 16 (n - 1) (omega arith)
      (place_here false (unused-is w z)) (place-was true (used-is _ nz)) (λ i l ne. place-else i l ne)

  counted-at : (h : Counted book) → c ≡ mapped (enter book k n w c) k → Counted (enter book k n w c)
  counted-at h e j l =
      split (eqb j k)
      (λ q. let z = eqb-true j k q in rw z (holders-here book k n w c low hi ∙ e))
      (λ q.
      let ne = eqb-false j k q in
      let l' : j < frame_count book = omega (arith, enter-count book k n w c) in
      holders-else book k n w c low hi j ne ∙ h j l' ∙ sym (mapped-else j ne))

  pub counted-more : Counted book → mapping book k n ≡ 0 → (w ≡ 0 → ⊥) → c ≡ holders book k + 1 → Counted (enter book k n w c)
  counted-more h z nz e = counted-at h (omega (arith, h k low, mapped-more z nz))

  pub counted-less : Counted book → (mapping book k n ≡ 0 → ⊥) → w ≡ 0 → c ≡ holders book k - 1 → Counted (enter book k n w c)
  counted-less h nz z e = counted-at h (omega (arith, h k low, mapped-less nz z))

-- ---- all that holds of mappings

pub beside-sym : (v w : ℕ) → Beside v w → Beside w v
beside-sym v w b = record { page = sym b.page; perm = sym b.perm; no-data = λ e. b.no-data (b.perm ∙ e) }

pub valid-low : (n : ℕ) → valid n ≡ true → 1 ≤ n
valid-low n v = (within-means 1 17 n v).0

pub valid-high : (n : ℕ) → valid n ≡ true → n ≤ 16
valid-high n v = omega (arith, (within-means 1 17 n v).1)

module _ {setup : Setup} (book : List ℕ) (k n w c : ℕ) (low : k < frame_count book) (v : valid n ≡ true) (h : Mappings setup book) where
  lo : 1 ≤ n
  lo = valid-low n v

  hi : n ≤ 16
  hi = valid-high n v

  -- a place is the one that was entered, or stays
  at : (j q : ℕ) → valid q ≡ true → (P : ℕ → Type 0) → (j ≡ k → q ≡ n → P w) → ((j ≡ k → q ≡ n → ⊥) → P (mapping book j q)) → P (mapping (enter book k n w c) j q)
  at j q u P here there =
      split (eqb j k)
      (λ x. split (eqb q n)
      (λ y.
      let ej = eqb-true j k x in let eq = eqb-true q n y in
      let e : mapping (enter book k n w c) j q ≡ w = rw (ej, eq) (mapping-here book k n w c low hi) in
      rw e (here ej eq))
      (λ y. keep (λ a b. eqb-false q n y b)))
      (λ x. keep (λ a b. eqb-false j k x a))
    where
      keep : (j ≡ k → q ≡ n → ⊥) → P (mapping (enter book k n w c) j q)
      keep out = rw (mapping-else book k n w c low hi j q lo (valid-low q u) (valid-high q u) out) (there out)

  same_count : (j : ℕ) → j < frame_count (enter book k n w c) → j < frame_count book
  same_count j l = omega (arith, enter-count book k n w c)

  -- one mapping more, of a page that its owner has nowhere, beside mappings that agree with it
  pub mappings-add : Word setup n w → (w ≡ 0 → ⊥) → mapping book k n ≡ 0
      → ((j : ℕ) → j < frame_count book → ¬ (mapping book j n ≡ 0) → page_of (mapping book j n) ≡ page_of w → ⊥)
      → ((q : ℕ) → valid q ≡ true → (q ≡ n → ⊥) → ¬ (mapping book k q ≡ 0) → Beside (mapping book k q) w)
      → c ≡ holders book k + 1 → Mappings setup (enter book k n w c)
  mappings-add word nz was new others e = record {
    words = λ j q l u. at j q u (λ x. ¬ (x ≡ 0) → Word setup q x) (λ a b z. rw b word) (λ out. h.words j q (same_count j l) u);
    once = λ q i j u a b. once q i j u (same_count i a) (same_count j b);
    beside = λ j p q l x y ne. beside j p q (same_count j l) x y ne;
    counts = counted-more book k n w c low lo hi h.counts was nz e;
  }
    where
      once : (q i j : ℕ) → valid q ≡ true → i < frame_count book → j < frame_count book → ¬ (mapping (enter book k n w c) i q ≡ 0) → ¬ (mapping (enter book k n w c) j q ≡ 0)
          → page_of (mapping (enter book k n w c) i q) ≡ page_of (mapping (enter book k n w c) j q) → i ≡ j
      once q i j u a b =
          at i q u (λ x. ¬ (x ≡ 0) → ¬ (mapping (enter book k n w c) j q ≡ 0) → page_of x ≡ page_of (mapping (enter book k n w c) j q) → i ≡ j)
          (λ ei eq. at j q u (λ y. ¬ (w ≡ 0) → ¬ (y ≡ 0) → page_of w ≡ page_of y → i ≡ j)
          (λ ej eq' x y z. ei ∙ sym ej)
          (λ out x y z. absurd (new j b (rw eq at y) (rw eq at (sym z)))))
          (λ out. at j q u (λ y. ¬ (mapping book i q ≡ 0) → ¬ (y ≡ 0) → page_of (mapping book i q) ≡ page_of y → i ≡ j)
          (λ ej eq x y z. absurd (new i a (rw eq at x) (rw eq at z)))
          (λ out'. h.once q i j u a b))

      beside : (j p q : ℕ) → j < frame_count book → valid p ≡ true → valid q ≡ true → (p ≡ q → ⊥) → ¬ (mapping (enter book k n w c) j p ≡ 0) → ¬ (mapping (enter book k n w c) j q ≡ 0)
          → Beside (mapping (enter book k n w c) j p) (mapping (enter book k n w c) j q)
      beside j p q l x y ne =
          at j p x (λ s. ¬ (s ≡ 0) → ¬ (mapping (enter book k n w c) j q ≡ 0) → Beside s (mapping (enter book k n w c) j q))
          (λ ej ep. at j q y (λ t. ¬ (w ≡ 0) → ¬ (t ≡ 0) → Beside w t)
          (λ ej' eq. absurd (ne (ep ∙ sym eq)))
          (λ out a b. beside-sym _ _ (rw ej (others q y (λ z. ne (ep ∙ sym z)) (rw ej at b)))))
          (λ out. at j q y (λ t. ¬ (mapping book j p ≡ 0) → ¬ (t ≡ 0) → Beside (mapping book j p) t)
          (λ ej eq a b. rw ej (others p x (λ z. ne (z ∙ sym eq)) (rw ej at a)))
          (λ out'. h.beside j p q l x y ne))

  -- one fewer
  pub mappings-drop : w ≡ 0 → (mapping book k n ≡ 0 → ⊥) → c ≡ holders book k - 1 → Mappings setup (enter book k n w c)
  mappings-drop z was e = record {
    words = λ j q l u. at j q u (λ x. ¬ (x ≡ 0) → Word setup q x) (λ a b nz. absurd (nz z)) (λ out. h.words j q (same_count j l) u);
    once = λ q i j u a b.
        at i q u (λ x. ¬ (x ≡ 0) → ¬ (mapping (enter book k n w c) j q ≡ 0) → page_of x ≡ page_of (mapping (enter book k n w c) j q) → i ≡ j)
        (λ ei eq nz. absurd (nz z))
        (λ out. at j q u (λ y. ¬ (mapping book i q ≡ 0) → ¬ (y ≡ 0) → page_of (mapping book i q) ≡ page_of y → i ≡ j)
        (λ ej eq x nz. absurd (nz z))
        (λ out'. h.once q i j u (same_count i a) (same_count j b)));
    beside = λ j p q l x y ne.
        at j p x (λ s. ¬ (s ≡ 0) → ¬ (mapping (enter book k n w c) j q ≡ 0) → Beside s (mapping (enter book k n w c) j q))
        (λ ej ep nz. absurd (nz z))
        (λ out. at j q y (λ t. ¬ (mapping book j p ≡ 0) → ¬ (t ≡ 0) → Beside (mapping book j p) t)
        (λ ej eq a nz. absurd (nz z))
        (λ out'. h.beside j p q (same_count j l) x y ne));
    counts = counted-less book k n w c low lo hi h.counts was z e;
  }
