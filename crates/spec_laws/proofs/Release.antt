-- Pages released: the mappings of a process whose pages pass a test become 0, their frames lose a holder, and all else stays.
use Prim.Native.Nat.{ℕ, zero, suc, ◌+◌, ◌*◌, ◌-◌, ◌/◌, ◌%◌, ◌≤◌, ◌<◌}
use native.Mathlib.Omega.{arith}
use mathlib.Core.Path.{◌≡◌, refl, sym, ap, ◌∙◌, fun_ext}
use mathlib.Core.Bool.{Bool, true, false, ◌&&◌, and-true}
use Rattle.std.specs.Prelude.{Option, None, Some}
use mathlib.Core.List.{List}
use lib.Dec.{eqb}
use lib.ListN.{length, get_or}
use borrow.Author.Tests.{eqb-true, eqb-false, eq-eqb, ne_eqb}
use Rattle.spec.specs.Tests.{◌is◌, ◌isnt◌, ◌⇒◌else◌}
use Rattle.spec.specs.Numbers.{page_down}
use Rattle.spec.specs.Book.{page_of, perm_of, valid, frame_count, mapping, holders, count_below, is_free, free, is_alone, alone, owns, frame_of}
use Rattle.spec.specs.Sound.{Mappings}
use Rattle.spec.specs.Frames.{Store, sized, cell_in, mem_of, enter, sweep, let_go, release}
use Rattle.spec.specs.declared.Setup.{Setup}
use Rattle.spec.proofs.Bools.{split, clash, both, not-true}
use Rattle.spec.proofs.Counts.{count-ext, count_add}
use Rattle.spec.proofs.Search.{highest-none}
use Rattle.spec_laws.proofs.Frame.{sized_same, owns_not, frame_found, frame-ext, cell-eq}
use Rattle.spec_laws.proofs.Held.{unheld, valid-low, valid-high, mappings-drop}
use Rattle.spec_laws.proofs.Sweep.{sweep-length, sweep-frames, other_place, here_place, here-count}

-- ---- words and lengths

pub release-frames : (m : Store) (n : ℕ) (t : ℕ → Bool) → (release m n t).frames ≡ m.frames
unfolding release
release-frames m n t = refl

-- whether frame k is let go
abbrev pub leaves : ℕ → (ℕ → Bool) → List ℕ → ℕ → Bool
leaves n t book k = mapping book k n isnt 0 && t (page_of (mapping book k n))

module _ (m : Store) (n : ℕ) (t : ℕ → Bool) (v : valid n ≡ true) where
  lo : 1 ≤ n
  lo = valid-low n v

  hi : n ≤ 16
  hi = valid-high n v

  pub release_length : length (release m n t).book ≡ length m.book
  unfolding release
  release_length = sweep-length n n (λ w. t (page_of w)) (λ w. 0) (λ c. c - 1) lo hi lo hi m.book (frame_count m.book)

  pub release-count : frame_count (release m n t).book ≡ frame_count m.book
  release-count = ap (λ (l : ℕ). l / 17) release_length

  pub sized-release : sized (release m n t) ≡ sized m
  sized-release = sized_same (release m n t) m (ap length (release-frames m n t)) release_length

  release_other : (k q : ℕ) → valid q ≡ true → (q ≡ n → ⊥) → mapping (release m n t).book k q ≡ mapping m.book k q
  unfolding release
  release_other k q u ne = other_place n n (λ w. t (page_of w)) (λ w. 0) (λ c. c - 1) lo hi lo hi m.book (frame_count m.book) k q (omega arith) (valid-low q u) (valid-high q u) ne

  release-here : (k : ℕ) → k < frame_count m.book → mapping (release m n t).book k n ≡ (leaves n t m.book k ⇒ 0 else mapping m.book k n)
  unfolding release
  release-here k l = here_place n n (λ w. t (page_of w)) (λ w. 0) (λ c. c - 1) lo hi lo hi m.book (frame_count m.book) k (omega arith) l

  release-holders : (k : ℕ) → k < frame_count m.book → holders (release m n t).book k ≡ (leaves n t m.book k ⇒ holders m.book k - 1 else holders m.book k)
  unfolding release
  release-holders k l = here-count n n (λ w. t (page_of w)) (λ w. 0) (λ c. c - 1) lo hi lo hi m.book (frame_count m.book) k (omega arith) l

  -- ---- the book's rules hold

  pub mappings-release : {setup : Setup} → Mappings setup m.book → Mappings setup (release m n t).book
  unfolding release
  mappings-release {setup} h = go (frame_count m.book) (omega arith)
    where
      go : (c : ℕ) → c ≤ frame_count m.book → Mappings setup (sweep (let_go n t) m.book c)
      go zero l = h
      go (suc c) l = one (leaves n t b c) refl (go c (omega arith))
        where
          b : List ℕ
          b = sweep (let_go n t) m.book c

          one : (g : Bool) → leaves n t b c ≡ g → Mappings setup b → Mappings setup (g ⇒ enter b c n 0 (holders b c - 1) else b)
          one false e r = r
          one true e r =
              let f : frame_count b ≡ frame_count m.book = sweep-frames n n (λ w. t (page_of w)) (λ w. 0) (λ x. x - 1) lo hi lo hi m.book c in
              mappings-drop b c n 0 (holders b c - 1) (omega arith) v r refl (eqb-false _ _ (not-true (mapping b c n is 0) (both (mapping b c n isnt 0) (t (page_of (mapping b c n))) e).0)) refl

  -- ---- what a process sees at an address

  frame-gone : (page : ℕ) → t page ≡ true → frame_of (release m n t).book n page ≡ None
  frame-gone page e =
      highest-none (λ k. owns n page (mapping (release m n t).book k n)) (frame_count (release m n t).book)
      (λ k l. owns_not n page (mapping (release m n t).book k n) (λ o.
      let l' : k < frame_count m.book = omega (arith, release-count) in
      out k (leaves n t m.book k) refl (release-here k l') o.used o.page))
    where
      out : (k : ℕ) (g : Bool) → leaves n t m.book k ≡ g → mapping (release m n t).book k n ≡ (g ⇒ 0 else mapping m.book k n) → ¬ (mapping (release m n t).book k n ≡ 0) → page_of (mapping (release m n t).book k n) ≡ page → ⊥
      out k true q r nz p = nz r
      out k false q r nz p =
          let w : ℕ = mapping m.book k n in
          let p' : page_of w ≡ page = ap page_of (sym r) ∙ p in
          clash (leaves n t m.book k) (rw (ne_eqb w 0 (λ z. nz (r ∙ z)), p') e) q

  frame-kept : (page : ℕ) → t page ≡ false → frame_of (release m n t).book n page ≡ frame_of m.book n page
  frame-kept page e = frame-ext m.book (release m n t).book n page release-count (λ k l. ap (owns n page) (release-here k l) ∙ same k (leaves n t m.book k) refl)
    where
      same : (k : ℕ) (g : Bool) → leaves n t m.book k ≡ g → owns n page (g ⇒ 0 else mapping m.book k n) ≡ owns n page (mapping m.book k n)
      same k false q = refl
      same k true q =
          sym (owns_not n page (mapping m.book k n) (λ o. clash (t page) (rw o.page at (both (mapping m.book k n isnt 0) (t (page_of (mapping m.book k n))) q).1) e))

  mem-kept : (a : ℕ) → t (page_down a) ≡ false → mem_of (release m n t) n a ≡ mem_of m n a
  mem-kept a e = ap (cell_in (release m n t) n a) (frame-kept (page_down a) e) ∙ go (frame_of m.book n (page_down a)) refl
    where
      kept : (k : ℕ) (g : Bool) → leaves n t m.book k ≡ g → page_of (mapping m.book k n) ≡ page_down a → (g ⇒ 0 else mapping m.book k n) ≡ mapping m.book k n
      kept k false q p = refl
      kept k true q p = clash (t (page_down a)) (rw p at (both (mapping m.book k n isnt 0) (t (page_of (mapping m.book k n))) q).1) e

      go : (o : Option ℕ) → frame_of m.book n (page_down a) ≡ o → cell_in (release m n t) n a o ≡ cell_in m n a o
      go None f = refl
      go (Some k) f =
          let r = frame_found m.book n (page_down a) k f in
          cell-eq _ _ _ _ (ap perm_of (release-here k r.0 ∙ kept k (leaves n t m.book k) refl r.1.page))
          (ap (λ (l : List ℕ). get_or l (4096 * k + a % 4096) 0) (release-frames m n t))

  mem-else : (p a : ℕ) → valid p ≡ true → (p ≡ n → ⊥) → mem_of (release m n t) p a ≡ mem_of m p a
  mem-else p a u ne =
      ap (cell_in (release m n t) p a) (frame-ext m.book (release m n t).book p (page_down a) release-count (λ k l. ap (owns p (page_down a)) (release_other k p u ne)))
      ∙ go (frame_of m.book p (page_down a))
    where
      go : (o : Option ℕ) → cell_in (release m n t) p a o ≡ cell_in m p a o
      go None = refl
      go (Some k) = cell-eq _ _ _ _ (ap perm_of (release_other k p u ne)) (ap (λ (l : List ℕ). get_or l (4096 * k + a % 4096) 0) (release-frames m n t))

  -- the law: the process's own pages that pass go, and nothing else does
  pub mem-release : (p a : ℕ) → valid p ≡ true → mem_of (release m n t) p a ≡ (p is n && t (page_down a) ⇒ None else mem_of m p a)
  mem-release p a u =
      split (eqb p n)
      (λ q.
      let e = eqb-true p n q in
      rw (q, e) (split (t (page_down a)) (λ x. rw x (ap (cell_in (release m n t) n a) (frame-gone (page_down a) x))) (λ x. rw x (mem-kept a x))))
      (λ q. rw q (mem-else p a u (eqb-false p n q)))

  -- ---- frames freed: those that it held alone

  pub free-release : {setup : Setup} → Mappings setup m.book
      → free (release m n t).book ≡ free m.book + count_below (λ k. is_alone m.book n k && t (page_of (mapping m.book k n))) (frame_count m.book)
  free-release h =
      ap (count_below (is_free (release m n t).book)) release-count
      ∙ count_add (is_free m.book) (λ k. is_alone m.book n k && t (page_of (mapping m.book k n))) (is_free (release m n t).book) (frame_count m.book)
      (λ k l. ap (λ (x : ℕ). x is 0 ⇒ 0 + 1 else 0) (release-holders k l)
      ∙ one (holders m.book k) (mapping m.book k n isnt 0) (t (page_of (mapping m.book k n))) (λ u z. held k l u z))
    where
      held : (k : ℕ) → k < frame_count m.book → (mapping m.book k n isnt 0) ≡ true → holders m.book k ≡ 0 → ⊥
      held k l u z = eqb-false _ _ (not-true (mapping m.book k n is 0) u) (unheld m.book h.counts k l z n lo hi)

      one : (x : ℕ) (a b : Bool) → (a ≡ true → x ≡ 0 → ⊥)
          → ((a && b ⇒ x - 1 else x) is 0 ⇒ 0 + 1 else 0) ≡ (x is 0 ⇒ 0 + 1 else 0) + (a && x is 1 && b ⇒ 0 + 1 else 0)
      one x false b nz = split (eqb x 0) (λ q. rw q) (λ q. rw q)
      one x true false nz = split (eqb x 0) (λ q. rw q (split (eqb x 1) (λ r. rw r) (λ r. rw r))) (λ q. rw q (split (eqb x 1) (λ r. rw r) (λ r. rw r)))
      one x true true nz =
          split (eqb x 1)
          (λ q. let e = eqb-true x 1 q in rw e)
          (λ q.
          let ne = eqb-false x 1 q in
          let z : x ≡ 0 → ⊥ = nz refl in
          rw (q, ne_eqb x 0 z, ne_eqb (x - 1) 0 (λ y. ne (omega arith))))

-- a process's pages: it sees nothing, and what it held alone is free
pub mem-release-own : (m : Store) (n : ℕ) → valid n ≡ true → mem_of (release m n (λ page. true)) n ≡ (λ a. None)
mem-release-own m n v = fun_ext (λ a. mem-release m n (λ page. true) v n a v ∙ rw (eq-eqb n n refl))

pub free-release-own : {setup : Setup} (m : Store) (n : ℕ) → valid n ≡ true → Mappings setup m.book → free (release m n (λ page. true)).book ≡ free m.book + alone m.book n
free-release-own m n v h =
    free-release m n (λ page. true) v h
    ∙ ap (λ (x : ℕ). free m.book + x) (count-ext (λ k. is_alone m.book n k && true) (is_alone m.book n) (frame_count m.book) (λ k l. and-true (is_alone m.book n k)))
