-- Pages shared: a child gets a mapping beside each text and rodata mapping of its parent's, and all else stays.
use Prim.Native.Nat.{ℕ, zero, suc, ◌+◌, ◌*◌, ◌/◌, ◌%◌, ◌≤◌, ◌<◌}
use native.Mathlib.Omega.{arith}
use mathlib.Core.Path.{◌≡◌, refl, sym, ap, ◌∙◌}
use mathlib.Core.Bool.{Bool, true, false, ◌&&◌}
use Rattle.std.specs.Prelude.{Option, None, Some}
use mathlib.Core.List.{List}
use lib.Dec.{eqb}
use lib.ListN.{length, get_or}
use borrow.Author.Tests.{eqb-true, eqb-false, eq-eqb, ne_eqb}
use Rattle.spec.specs.Tests.{◌is◌, ◌isnt◌, ◌⇒◌else◌}
use Rattle.spec.specs.Numbers.{page_down}
use Rattle.spec.specs.Book.{word_of, page_of, owner_of, perm_of, valid, frame_count, mapping, holders, count_below, is_free, free, owns, frame_of}
use Rattle.spec.specs.Sound.{Word, Mappings}
use Rattle.spec.specs.Frames.{Store, sized, Cell, Mem, cell_in, mem_of, enter, sweep, join, share}
use Rattle.spec.specs.declared.Setup.{Setup}
use Rattle.spec.proofs.Bools.{split, clash, both, not-true}
use Rattle.spec.proofs.Words.{unpack, used-word}
use Rattle.spec.proofs.Counts.{count-ext}
use Rattle.spec.proofs.Search.{highest-none}
use Rattle.spec_laws.proofs.Lists.{by_order}
use Rattle.spec_laws.proofs.Frame.{sized_same, Owns, owns-means, owns-test, owns_not, frame_found, frame-none, frame-ext, frame_is, once-means, cell-eq}
use Rattle.spec_laws.proofs.Held.{unheld, valid-low, valid-high, mappings-add}
use Rattle.spec_laws.proofs.Sweep.{sweep-length, sweep-frames, later-place, other_place, here_place, here-count}

pub share-frames : (m : Store) (n child : ℕ) → (share m n child).frames ≡ m.frames
unfolding share
share-frames m n child = refl

-- whether frame k is shared, and the child's word there
abbrev pub shares : ℕ → List ℕ → ℕ → Bool
shares n book k = mapping book k n isnt 0 && perm_of (mapping book k n) isnt 3

abbrev pub word_for : ℕ → ℕ → ℕ
word_for child w = word_of (page_of w) child (perm_of w)

-- what of a process's memory is shared: all but data
abbrev pub text_of : Option Cell → Option Cell
text_of None = None
text_of (Some c) = c.perm is 3 ⇒ None else Some c

-- who sees nothing has no mapping
pub unseen : {setup : Setup} (m : Store) (n : ℕ) → Mappings setup m.book → valid n ≡ true → mem_of m n ≡ (λ a. None) → (k : ℕ) → k < frame_count m.book → mapping m.book k n ≡ 0
unseen m n h v e k l =
    split (eqb (mapping m.book k n) 0)
    (λ q. eqb-true _ _ q)
    (λ q.
    let w : ℕ = mapping m.book k n in
    let nz = eqb-false w 0 q in
    let d : page_down (page_of w) ≡ page_of w = omega arith in
    let f = frame_is m.book n (page_of w) k (once-means m.book h n v) l (record { used = nz; owner = (h.words k n l v nz).owner; page = refl }) in
    let c : cell_in m n (page_of w) (Some k) ≡ None = sym (ap (cell_in m n (page_of w)) (ap (frame_of m.book n) d ∙ f)) ∙ ap (λ (x : Mem). x (page_of w)) e in
    absurd (let z : ◌≡◌ {A = ℕ} 0 1 = cc in omega arith))

module _ (m : Store) (n child : ℕ) (v : valid n ≡ true) (u : valid child ≡ true) (ne : child ≡ n → ⊥) where
  n-lo : 1 ≤ n
  n-lo = valid-low n v

  n-hi : n ≤ 16
  n-hi = valid-high n v

  lo : 1 ≤ child
  lo = valid-low child u

  hi : child ≤ 16
  hi = valid-high child u

  pub share-length : length (share m n child).book ≡ length m.book
  unfolding share
  share-length = sweep-length n child (λ w. perm_of w isnt 3) (word_for child) (λ c. c + 1) n-lo n-hi lo hi m.book (frame_count m.book)

  pub share-count : frame_count (share m n child).book ≡ frame_count m.book
  share-count = ap (λ (l : ℕ). l / 17) share-length

  pub sized-share : sized (share m n child) ≡ sized m
  sized-share = sized_same (share m n child) m (ap length (share-frames m n child)) share-length

  share_other : (k q : ℕ) → valid q ≡ true → (q ≡ child → ⊥) → mapping (share m n child).book k q ≡ mapping m.book k q
  unfolding share
  share_other k q w out = other_place n child (λ w. perm_of w isnt 3) (word_for child) (λ c. c + 1) n-lo n-hi lo hi m.book (frame_count m.book) k q (omega arith) (valid-low q w) (valid-high q w) out

  share-here : (k : ℕ) → k < frame_count m.book → mapping (share m n child).book k child ≡ (shares n m.book k ⇒ word_for child (mapping m.book k n) else mapping m.book k child)
  unfolding share
  share-here k l = here_place n child (λ w. perm_of w isnt 3) (word_for child) (λ c. c + 1) n-lo n-hi lo hi m.book (frame_count m.book) k (omega arith) l

  share-holders : (k : ℕ) → k < frame_count m.book → holders (share m n child).book k ≡ (shares n m.book k ⇒ holders m.book k + 1 else holders m.book k)
  unfolding share
  share-holders k l = here-count n child (λ w. perm_of w isnt 3) (word_for child) (λ c. c + 1) n-lo n-hi lo hi m.book (frame_count m.book) k (omega arith) l

  -- ---- free frames are as many as before

  pub free-share : {setup : Setup} → Mappings setup m.book → free (share m n child).book ≡ free m.book
  free-share h =
      ap (count_below (is_free (share m n child).book)) share-count
      ∙ count-ext (is_free (share m n child).book) (is_free m.book) (frame_count m.book)
      (λ k l. ap (λ (x : ℕ). x is 0) (share-holders k l) ∙ one (holders m.book k) (shares n m.book k) (λ s z. held k l s z))
    where
      held : (k : ℕ) → k < frame_count m.book → shares n m.book k ≡ true → holders m.book k ≡ 0 → ⊥
      held k l s z =
          eqb-false _ _ (not-true (mapping m.book k n is 0) (both (mapping m.book k n isnt 0) (perm_of (mapping m.book k n) isnt 3) s).0) (unheld m.book h.counts k l z n n-lo n-hi)

      one : (x : ℕ) (g : Bool) → (g ≡ true → x ≡ 0 → ⊥) → ((g ⇒ x + 1 else x) is 0) ≡ (x is 0)
      one x false nz = refl
      one x true nz = ne_eqb (x + 1) 0 (λ z. omega arith) ∙ sym (ne_eqb x 0 (nz refl))

  -- ---- a child that has no page yet

  module _ {setup : Setup} (h : Mappings setup m.book) (new : (k : ℕ) → k < frame_count m.book → mapping m.book k child ≡ 0) where
    -- the word of the child's mapping
    word-for : (w : ℕ) → Word setup n w → Word setup child (word_for child w)
    word-for w r =
        let x = unpack (page_of w) child (perm_of w) (omega arith) (omega (arith, hi)) (omega arith) in
        record { owner = x.1; perm = rw x.2 r.perm; page = rw x.0 r.page }

    -- the book's rules hold
    pub mappings-share : Mappings setup (share m n child).book
    unfolding share
    mappings-share = go (frame_count m.book) (omega arith)
      where
        count : (c : ℕ) → frame_count (sweep (join n child) m.book c) ≡ frame_count m.book
        count c = sweep-frames n child (λ w. perm_of w isnt 3) (word_for child) (λ x. x + 1) n-lo n-hi lo hi m.book c

        parent : (c k : ℕ) → c ≤ frame_count m.book → mapping (sweep (join n child) m.book c) k n ≡ mapping m.book k n
        parent c k l = other_place n child (λ w. perm_of w isnt 3) (word_for child) (λ x. x + 1) n-lo n-hi lo hi m.book c k n l n-lo n-hi (λ e. ne (sym e))

        -- a mapping of the child's is of a frame before c, of the parent's page there
        before : (c j : ℕ) → c ≤ frame_count m.book → j < frame_count m.book → ¬ (mapping (sweep (join n child) m.book c) j child ≡ 0)
            → (j < c) × (shares n m.book j ≡ true) × (mapping (sweep (join n child) m.book c) j child ≡ word_for child (mapping m.book j n))
        before c j l lj nz =
            by_order j c
            (λ b. at (shares n m.book j) refl b (here_place n child (λ w. perm_of w isnt 3) (word_for child) (λ x. x + 1) n-lo n-hi lo hi m.book c j l b))
            (λ b. absurd (nz (later-place n child (λ w. perm_of w isnt 3) (word_for child) (λ x. x + 1) n-lo n-hi lo hi m.book c j child b lj lo hi ∙ new j lj)))
          where
            at : (g : Bool) → shares n m.book j ≡ g → j < c → mapping (sweep (join n child) m.book c) j child ≡ (g ⇒ word_for child (mapping m.book j n) else mapping m.book j child)
                → (j < c) × (shares n m.book j ≡ true) × (mapping (sweep (join n child) m.book c) j child ≡ word_for child (mapping m.book j n))
            at true q b e = (b, q, e)
            at false q b e = absurd (nz (e ∙ new j lj))

        go : (c : ℕ) → c ≤ frame_count m.book → Mappings setup (sweep (join n child) m.book c)
        go zero l = h
        go (suc c) l = one (shares n (sweep (join n child) m.book c) c) refl (go c (omega arith))
          where
            b : List ℕ
            b = sweep (join n child) m.book c

            l' : c ≤ frame_count m.book
            l' = omega arith

            lc : c < frame_count b
            lc = omega (arith, count c)

            w : ℕ
            w = mapping b c n

            one : (g : Bool) → shares n b c ≡ g → Mappings setup b → Mappings setup (g ⇒ enter b c child (word_for child w) (holders b c + 1) else b)
            one false e r = r
            one true e r =
                let p = both (w isnt 0) (perm_of w isnt 3) e in
                let nz : ¬ (w ≡ 0) = eqb-false w 0 (not-true (w is 0) p.0) in
                let nd : perm_of w ≡ 3 → ⊥ = eqb-false (perm_of w) 3 (not-true (perm_of w is 3) p.1) in
                let x = unpack (page_of w) child (perm_of w) (omega arith) (omega (arith, hi)) (omega arith) in
                mappings-add b c child (word_for child w) (holders b c + 1) lc u r (word-for w (r.words c n lc v nz)) (used-word (page_of w) child (perm_of w) lo)
                (later-place n child (λ w. perm_of w isnt 3) (word_for child) (λ x. x + 1) n-lo n-hi lo hi m.book c c child (omega arith) l lo hi ∙ new c l)
                (λ j lj z e'.
                let f = before c j l' (omega (arith, count c)) z in
                let s = both (mapping m.book j n isnt 0) (perm_of (mapping m.book j n) isnt 3) f.1 in
                let y = unpack (page_of (mapping m.book j n)) child (perm_of (mapping m.book j n)) (omega arith) (omega (arith, hi)) (omega arith) in
                let same : j ≡ c = h.once n j c v (omega (arith, count c)) l (eqb-false _ _ (not-true (mapping m.book j n is 0) s.0)) (λ q. nz (parent c c l' ∙ q))
                (sym y.0 ∙ ap page_of (sym f.2) ∙ e' ∙ x.0 ∙ ap page_of (parent c c l')) in
                omega (arith, f.0))
                (λ q vq nq z.
                split (eqb q n)
                (λ t.
                let eq = eqb-true q n t in
                rw eq (record { page = sym x.0; perm = sym x.2; no-data = nd }))
                (λ t.
                let bs = r.beside c q n lc vq v (eqb-false q n t) z nz in
                record { page = bs.page ∙ sym x.0; perm = bs.perm ∙ sym x.2; no-data = bs.no-data }))
                refl

    -- ---- what a process sees

    -- other processes, the parent too, see what they saw
    pub mem-share-other : (q : ℕ) → valid q ≡ true → (q ≡ child → ⊥) → mem_of (share m n child) q ≡ mem_of m q
    mem-share-other q w out = λ i a. at a i
      where
        at : (a : ℕ) → mem_of (share m n child) q a ≡ mem_of m q a
        at a =
            ap (cell_in (share m n child) q a) (frame-ext m.book (share m n child).book q (page_down a) share-count (λ k l. ap (owns q (page_down a)) (share_other k q w out)))
            ∙ go (frame_of m.book q (page_down a))
          where
            go : (o : Option ℕ) → cell_in (share m n child) q a o ≡ cell_in m q a o
            go None = refl
            go (Some k) = cell-eq _ _ _ _ (ap perm_of (share_other k q w out)) (ap (λ (l : List ℕ). get_or l (4096 * k + a % 4096) 0) (share-frames m n child))

    -- the child sees the parent's text and rodata
    pub mem-share : (a : ℕ) → mem_of (share m n child) child a ≡ text_of (mem_of m n a)
    mem-share a = go (frame_of m.book n (page_down a)) refl
      where
        -- the child's place in frame k
        place : (k : ℕ) → k < frame_count m.book → mapping (share m n child).book k child ≡ (shares n m.book k ⇒ word_for child (mapping m.book k n) else 0)
        place k l = share-here k l ∙ ap (λ (x : ℕ). shares n m.book k ⇒ word_for child (mapping m.book k n) else x) (new k l)

        child-owns : (k : ℕ) → k < frame_count m.book → owns child (page_down a) (mapping (share m n child).book k child) ≡ (shares n m.book k && owns n (page_down a) (mapping m.book k n))
        child-owns k l = ap (owns child (page_down a)) (place k l) ∙ at (shares n m.book k) refl
          where
            w : ℕ
            w = mapping m.book k n

            at : (g : Bool) → shares n m.book k ≡ g → owns child (page_down a) (g ⇒ word_for child w else 0) ≡ (g && owns n (page_down a) w)
            at false q = refl
            at true q =
                let nz : ¬ (w ≡ 0) = eqb-false w 0 (not-true (w is 0) (both (w isnt 0) (perm_of w isnt 3) q).0) in
                let x = unpack (page_of w) child (perm_of w) (omega arith) (omega (arith, hi)) (omega arith) in
                let o = (h.words k n l v nz).owner in
                rw (ne_eqb (word_for child w) 0 (used-word (page_of w) child (perm_of w) lo), eq-eqb (owner_of (word_for child w)) child x.1, x.0, ne_eqb w 0 nz, eq-eqb (owner_of w) n o)

        -- no frame of the child's where no frame that is shared has the page
        nothing : ((k : ℕ) → k < frame_count m.book → shares n m.book k ≡ true → Owns n (page_down a) (mapping m.book k n) → ⊥) → mem_of (share m n child) child a ≡ None
        nothing out =
            ap (cell_in (share m n child) child a) (highest-none (λ k. owns child (page_down a) (mapping (share m n child).book k child)) (frame_count (share m n child).book)
            (λ k l.
            let l' : k < frame_count m.book = omega (arith, share-count) in
            child-owns k l' ∙ at k l' (shares n m.book k) refl))
          where
            at : (k : ℕ) → k < frame_count m.book → (g : Bool) → shares n m.book k ≡ g → (g && owns n (page_down a) (mapping m.book k n)) ≡ false
            at k l false q = refl
            at k l true q = owns_not n (page_down a) (mapping m.book k n) (out k l q)

        go : (o : Option ℕ) → frame_of m.book n (page_down a) ≡ o → mem_of (share m n child) child a ≡ text_of (cell_in m n a o)
        go None e = nothing (λ k l s o. frame-none m.book n (page_down a) e k l o)
        go (Some k) e =
            split (perm_of w is 3)
            (λ q. rw q (nothing (λ j l s o.
            let same : j ≡ k = once-means m.book h n v (page_down a) j k l f.0 o f.1 in
            clash (perm_of w is 3) q (not-true (perm_of w is 3) (rw same at (both (mapping m.book j n isnt 0) (perm_of (mapping m.book j n) isnt 3) s).1)))))
            (λ q.
            let s : shares n m.book k ≡ true = rw (ne_eqb w 0 f.1.used, q) in
            let x = unpack (page_of w) child (perm_of w) (omega arith) (omega (arith, hi)) (omega arith) in
            let l : k < frame_count (share m n child).book = rw share-count f.0 in
            let o : owns child (page_down a) (mapping (share m n child).book k child) ≡ true = child-owns k f.0 ∙ rw (s, owns-test n (page_down a) w f.1) in
            let fr = frame_is (share m n child).book child (page_down a) k (once-means (share m n child).book mappings-share child u) l (owns-means child (page_down a) (mapping (share m n child).book k child) o) in
            let pm : perm_of (mapping (share m n child).book k child) ≡ perm_of w = ap perm_of (place k f.0 ∙ ap (λ (g : Bool). g ⇒ word_for child w else 0) s) ∙ x.2 in
            ap (cell_in (share m n child) child a) fr
            ∙ cell-eq _ _ _ _ pm (ap (λ (l : List ℕ). get_or l (4096 * k + a % 4096) 0) (share-frames m n child))
            ∙ sym (rw q))
          where
            w : ℕ
            w = mapping m.book k n

            f : (k < frame_count m.book) × Owns n (page_down a) (mapping m.book k n)
            f = frame_found m.book n (page_down a) k e
