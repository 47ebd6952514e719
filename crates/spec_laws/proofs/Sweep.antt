-- Each frame changed, one after the other: in a frame where process n's mapping passes a test, the place of p and the count become
-- others. What stands in each place afterwards. Pages shared and pages released are such changes.
use Prim.Native.Nat.{ℕ, zero, suc, ◌/◌, ◌≤◌, ◌<◌}
use native.Mathlib.Omega.{arith}
use native.Mathlib.Nat.{not-suc-le-zero}
use mathlib.Core.Path.{◌≡◌, refl, ap, ap₂, ◌∙◌}
use mathlib.Core.Bool.{Bool, true, false, ◌&&◌}
use mathlib.Core.List.{List}
use lib.Dec.{eqb}
use lib.ListN.{length}
use borrow.Author.Tests.{eqb-true, eqb-false}
use Rattle.spec.specs.Tests.{◌isnt◌, ◌⇒◌else◌}
use Rattle.spec.specs.Book.{frame_count, mapping, holders}
use Rattle.spec.specs.Frames.{enter, sweep}
use Rattle.spec.proofs.Bools.{split}
use Rattle.spec.proofs.Enter.{enter-length, holders-here, holders-else, mapping-here, mapping-else}

-- whether frame k is changed
abbrev pub goes : ℕ → (ℕ → Bool) → List ℕ → ℕ → Bool
goes n t book k = mapping book k n isnt 0 && t (mapping book k n)

abbrev pub alter : ℕ → ℕ → (ℕ → Bool) → (ℕ → ℕ) → (ℕ → ℕ) → List ℕ → ℕ → List ℕ
alter n p t word count book k = goes n t book k ⇒ enter book k p (word (mapping book k n)) (count (holders book k)) else book

module _ (n p : ℕ) (t : ℕ → Bool) (word count : ℕ → ℕ) (n-lo : 1 ≤ n) (n-hi : n ≤ 16) (lo : 1 ≤ p) (hi : p ≤ 16) where
  -- ---- one frame

  step-length : (b : List ℕ) (k : ℕ) → length (alter n p t word count b k) ≡ length b
  step-length b k = go (goes n t b k)
    where
      go : (g : Bool) → length (g ⇒ enter b k p (word (mapping b k n)) (count (holders b k)) else b) ≡ length b
      go true = enter-length b k p _ _
      go false = refl

  module _ (b : List ℕ) (k : ℕ) (low : k < frame_count b) where
    step-else : (j q : ℕ) → 1 ≤ q → q ≤ 16 → (j ≡ k → q ≡ p → ⊥) → mapping (alter n p t word count b k) j q ≡ mapping b j q
    step-else j q a z out = go (goes n t b k)
      where
        go : (g : Bool) → mapping (g ⇒ enter b k p (word (mapping b k n)) (count (holders b k)) else b) j q ≡ mapping b j q
        go true = mapping-else b k p _ _ low hi j q lo a z out
        go false = refl

    step-holders : (j : ℕ) → (j ≡ k → ⊥) → holders (alter n p t word count b k) j ≡ holders b j
    step-holders j ne = go (goes n t b k)
      where
        go : (g : Bool) → holders (g ⇒ enter b k p (word (mapping b k n)) (count (holders b k)) else b) j ≡ holders b j
        go true = holders-else b k p _ _ low hi j ne
        go false = refl

    step-here : mapping (alter n p t word count b k) k p ≡ (goes n t b k ⇒ word (mapping b k n) else mapping b k p)
    step-here = go (goes n t b k)
      where
        go : (g : Bool) → mapping (g ⇒ enter b k p (word (mapping b k n)) (count (holders b k)) else b) k p ≡ (g ⇒ word (mapping b k n) else mapping b k p)
        go true = mapping-here b k p _ _ low hi
        go false = refl

    step_count : holders (alter n p t word count b k) k ≡ (goes n t b k ⇒ count (holders b k) else holders b k)
    step_count = go (goes n t b k)
      where
        go : (g : Bool) → holders (g ⇒ enter b k p (word (mapping b k n)) (count (holders b k)) else b) k ≡ (g ⇒ count (holders b k) else holders b k)
        go true = holders-here b k p _ _ low hi
        go false = refl

  -- ---- all below c

  pub sweep-length : (book : List ℕ) (c : ℕ) → length (sweep (alter n p t word count) book c) ≡ length book
  sweep-length book zero = refl
  sweep-length book (suc c) = step-length (sweep (alter n p t word count) book c) c ∙ sweep-length book c

  pub sweep-frames : (book : List ℕ) (c : ℕ) → frame_count (sweep (alter n p t word count) book c) ≡ frame_count book
  sweep-frames book c = ap (λ (l : ℕ). l / 17) (sweep-length book c)

  module _ (book : List ℕ) where
    abbrev S : ℕ → List ℕ
    S c = sweep (alter n p t word count) book c

    there : (c : ℕ) → suc c ≤ frame_count book → c < frame_count (S c)
    there c l = omega (arith, sweep-frames book c)

    -- frames from c on are as they were
    pub later-place : (c k q : ℕ) → c ≤ k → k < frame_count book → 1 ≤ q → q ≤ 16 → mapping (sweep (alter n p t word count) book c) k q ≡ mapping book k q
    later-place zero k q u l a b = refl
    later-place (suc c) k q u l a b = step-else (S c) c (there c (omega arith)) k q a b (λ e z. omega arith) ∙ later-place c k q (omega arith) l a b

    pub later-count : (c k : ℕ) → c ≤ k → k < frame_count book → holders (sweep (alter n p t word count) book c) k ≡ holders book k
    later-count zero k u l = refl
    later-count (suc c) k u l = step-holders (S c) c (there c (omega arith)) k (λ e. omega arith) ∙ later-count c k (omega arith) l

    -- and so are the places of all but p
    pub other_place : (c k q : ℕ) → c ≤ frame_count book → 1 ≤ q → q ≤ 16 → (q ≡ p → ⊥) → mapping (sweep (alter n p t word count) book c) k q ≡ mapping book k q
    other_place zero k q l a b ne = refl
    other_place (suc c) k q l a b ne = step-else (S c) c (there c l) k q a b (λ e z. ne z) ∙ other_place c k q (omega arith) a b ne

    -- the place of p, and the count
    pub here_place : (c k : ℕ) → c ≤ frame_count book → k < c → mapping (sweep (alter n p t word count) book c) k p ≡ (goes n t book k ⇒ word (mapping book k n) else mapping book k p)
    here_place zero k l u = absurd (not-suc-le-zero u)
    here_place (suc c) k l u =
        split (eqb k c)
        (λ q.
        let e = eqb-true k c q in
        rw e (step-here (S c) c (there c l)
        ∙ ap₂ (λ (w v : ℕ). (w isnt 0 && t w) ⇒ word w else v) (later-place c c n (omega arith) l n-lo n-hi) (later-place c c p (omega arith) l lo hi)))
        (λ q. let ne = eqb-false k c q in step-else (S c) c (there c l) k p lo hi (λ e z. ne e) ∙ here_place c k (omega arith) (omega arith))

    pub here-count : (c k : ℕ) → c ≤ frame_count book → k < c → holders (sweep (alter n p t word count) book c) k ≡ (goes n t book k ⇒ count (holders book k) else holders book k)
    here-count zero k l u = absurd (not-suc-le-zero u)
    here-count (suc c) k l u =
        split (eqb k c)
        (λ q.
        let e = eqb-true k c q in
        rw e (step_count (S c) c (there c l)
        ∙ ap₂ (λ (w v : ℕ). (w isnt 0 && t w) ⇒ count v else v) (later-place c c n (omega arith) l n-lo n-hi) (later-count c c (omega arith) l)))
        (λ q. let ne = eqb-false k c q in step-holders (S c) c (there c l) k ne ∙ here-count c k (omega arith) (omega arith))
