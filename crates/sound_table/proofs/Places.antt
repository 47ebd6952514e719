-- The pass over the book: what a word that is of a part's page, or of none, or 0 does to what holds of the words before it.
use Prim.Native.Nat.{ℕ, ◌+◌, ◌*◌, ◌/◌, ◌<◌, ◌≤◌}
use native.Mathlib.Omega.{arith}
use native.Mathlib.Numerals.{add-one}
use mathlib.Core.Path.{◌≡◌, refl, sym, ap, ◌∙◌}
use mathlib.Core.Bool.{true}
use Rattle.std.specs.Prelude.{Option, None, Some}
use mathlib.Core.List.{List}
use lib.Dec.{eqb}
use lib.ListN.{length, get_or}
use borrow.Author.Tests.{eqb-true, eqb-false, eq-eqb, ne_eqb, ltb-true, ltb-false}
use borrow.Author.Count.{below_more}
use Rattle.spec.specs.Tests.{◌is◌, ◌below◌, ◌⇒◌else◌}
use Rattle.spec.specs.Book.{frame_count}
use Rattle.spec.proofs.Bools.{split}
use Rattle.spec.proofs.Search.{hit, miss}
use Rattle.sound_plan.specs.Plan.{hits, nth, rank, Plan}
use Rattle.sound_table.specs.Table.{place_at, place_with, entry, taken, Planned, Tabled, first_of, count_of, table_of, bit_of, Noted, BitSet, Stored, Blank}
use Rattle.sound_plan.proofs.Laying.{list-from}
use Rattle.sound_plan.proofs.Within.{rank_below, rank-word}

-- ---- the frame of a word

module _ (b : List ℕ) (w : ℕ) where
  pub with_none : place_with b 0 w ≡ None
  unfolding place_with
  with_none = refl

  pub with-here : (n : ℕ) → place_at b n ≡ w → place_with b (n + 1) w ≡ Some n
  unfolding place_with
  with-here n e = rw (add-one n) (rw (eq-eqb _ _ e) refl)

  pub with-past : (n : ℕ) → (place_at b n ≡ w → ⊥) → place_with b (n + 1) w ≡ place_with b n w
  unfolding place_with
  with-past n e = rw (add-one n) (rw (ne_eqb _ _ e) refl)

  pub with-found : (n i : ℕ) → place_with b n w ≡ Some i → (i < n) × (place_at b i ≡ w)
  unfolding place_with
  with-found n i e = let h = hit (λ k. place_at b k is w) n i e in (h.0, eqb-true _ _ h.1)

  pub with-missing : (n i : ℕ) → i < n → place_at b i ≡ w → place_with b n w ≡ None → ⊥
  unfolding place_with
  with-missing n i h e z = eqb-false _ _ (miss (λ k. place_at b k is w) n z i h) e

pub option-some : (o : Option ℕ) → (o ≡ None → ⊥) → (i : ℕ) × (o ≡ Some i)
option-some None f = absurd (f refl)
option-some (Some i) f = (i, refl)

pub taken-some : (o : Option ℕ) → (taken o ≡ 0 → ⊥) → (i : ℕ) × (o ≡ Some i)
taken-some None f = absurd (f refl)
taken-some (Some i) f = (i, refl)

pub taken_none : (o : Option ℕ) → taken o ≡ 0 → o ≡ None
taken_none None e = refl
taken_none (Some i) e = absurd (omega arith)

-- ---- one word more

abbrev OfPart : List ℕ → List ℕ → List ℕ → ℕ → Type 0
OfPart b tags bases i = (place_at b i ≡ 0 → ⊥) → (k : ℕ) × (k < 272) × (hits tags bases (place_at b i) k ≡ true)

module _ (b tags bases : List ℕ) where
  pub planned-none : Planned b tags bases 0
  planned-none = record { fits = λ i l. absurd (omega arith); once = λ i j l m. absurd (omega arith) }

  pub noted-none : (first count : ℕ) (bits table : List ℕ) → ((t : ℕ) → bit_of bits t ≡ 0) → Blank table → first + count ≤ get_or bases 272 0 → count ≤ 1024 → length bits ≡ 256 → length table ≡ 1024 → Noted b tags bases first count bits table 0
  noted-none first count bits table free blank inside few lb lt = record {
    bits_are = λ t h. free t ∙ ap taken (sym (with_none b (nth tags bases t)));
    tabled = record { frames = λ t h. blank t ∙ ap entry (sym (with_none b (nth tags bases (first + t)))); rest = λ t h. blank t };
    inside = inside;
    few = few;
    bits-long = lb;
    table-long = lt;
  }

  module _ (plan : Plan tags bases) (n : ℕ) where
    -- a free frame
    pub planned-free : place_at b n ≡ 0 → Planned b tags bases n → Planned b tags bases (n + 1)
    planned-free z f = record {
      fits = below_more (OfPart b tags bases) n f.fits (λ u. absurd (u z));
      once = λ i j l m u e. split (eqb j n)
          (λ q. u (e ∙ ap (λ (x : ℕ). place_at b x) (eqb-true j n q) ∙ z))
          (λ q. let ne = eqb-false j n q in f.once i j l (omega arith) u e);
    }

    module _ (first count : ℕ) (bits table : List ℕ) where
      pub noted-free : place_at b n ≡ 0 → Noted b tags bases first count bits table n → Noted b tags bases first count bits table (n + 1)
      noted-free z f =
          let past : (t : ℕ) → t < get_or bases 272 0 → place_with b n (nth tags bases t) ≡ place_with b (n + 1) (nth tags bases t) = λ t h. sym (with-past b (nth tags bases t) n (λ e. plan.some t h (sym e ∙ z))) in
          record {
            bits_are = λ t h. f.bits_are t h ∙ ap taken (past t h);
            tabled = record { frames = λ t h. f.tabled.frames t h ∙ ap entry (past (first + t) (omega (arith, f.inside))); rest = f.tabled.rest };
            inside = f.inside;
            few = f.few;
            bits-long = f.bits-long;
            table-long = f.table-long;
          }

      module _ (k : ℕ) (hk : k < 272) (e : hits tags bases (place_at b n) k ≡ true) (noted : Noted b tags bases first count bits table n) where
        abbrev at : ℕ
        at = rank tags bases (place_at b n) k

        at-now : bit_of bits at ≡ taken (place_with b n (place_at b n))
        at-now = noted.bits_are at (rank_below tags bases plan (place_at b n) k hk e) ∙ ap (λ (w : ℕ). taken (place_with b n w)) (rank-word tags bases plan (place_at b n) k hk e)

        -- the word stood there before
        pub planned-twice : n < 16 * frame_count b → (place_at b n ≡ 0 → ⊥) → (bit_of bits at ≡ 0 → ⊥) → Planned b tags bases (16 * frame_count b) → ⊥
        planned-twice h u ne f =
            let o = taken-some (place_with b n (place_at b n)) (λ z. ne (at-now ∙ z)) in
            let g = with-found b (place_at b n) n o.0 o.1 in
            f.once o.0 n g.0 h (λ z. u (sym g.1 ∙ z)) g.1

        -- it is new
        pub planned-more : bit_of bits at ≡ 0 → Planned b tags bases n → Planned b tags bases (n + 1)
        planned-more z f = record {
          fits = below_more (OfPart b tags bases) n f.fits (λ u. (k, hk, e));
          once = λ i j l m u q. split (eqb j n)
              (λ x. let y = eqb-true j n x in with-missing b (place_at b n) n i (omega arith) (q ∙ ap (λ (v : ℕ). place_at b v) y) (taken_none (place_with b n (place_at b n)) (sym at-now ∙ z)))
              (λ x. let ne = eqb-false j n x in f.once i j l (omega arith) u q);
        }

        pub noted_more : (bits' later : List ℕ) → BitSet bits bits' at → Stored first count table later at (n / 16 + 1) → Noted b tags bases first count bits' later (n + 1)
        noted_more bits' later set stored = record {
          bits_are = λ t h. split (eqb t at)
              (λ q. ap (bit_of bits') (eqb-true t at q) ∙ set.here ∙ ap taken (sym (found t (eqb-true t at q))))
              (λ q. set.other t (eqb-false t at q) ∙ noted.bits_are t h ∙ ap taken (sym (others t h (eqb-false t at q))));
          tabled = record {
            frames = λ t h. split (eqb (first + t) at)
                (λ q. stored.here t h (eqb-true (first + t) at q) ∙ ap entry (sym (found (first + t) (eqb-true (first + t) at q))))
                (λ q. stored.other t (λ _ y. eqb-false (first + t) at q y) ∙ noted.tabled.frames t h ∙ ap entry (sym (others (first + t) (omega (arith, noted.inside)) (eqb-false (first + t) at q))));
            rest = λ t h. stored.other t (λ l. absurd (omega arith)) ∙ noted.tabled.rest t h;
          };
          inside = noted.inside;
          few = noted.few;
          bits-long = set.long;
          table-long = stored.long;
        }
          where
            inside : at < get_or bases 272 0
            inside = rank_below tags bases plan (place_at b n) k hk e

            word : place_at b n ≡ nth tags bases at
            word = sym (rank-word tags bases plan (place_at b n) k hk e)

            found : (t : ℕ) → t ≡ at → place_with b (n + 1) (nth tags bases t) ≡ Some n
            found t q = with-here b (nth tags bases t) n (word ∙ ap (nth tags bases) (sym q))

            others : (t : ℕ) → t < get_or bases 272 0 → (t ≡ at → ⊥) → place_with b (n + 1) (nth tags bases t) ≡ place_with b n (nth tags bases t)
            others t h ne = with-past b (nth tags bases t) n (λ x. ne (plan.apart t at h inside (sym x ∙ word)))

-- the whole table as a list
pub table_is : (b tags bases table : List ℕ) (number : ℕ) → length table ≡ 1024 → Tabled b tags bases (first_of bases number) (count_of bases number) table (16 * frame_count b) → table ≡ table_of b number tags bases
unfolding table_of
table_is b tags bases table number long tab =
    list-from (λ t. t below count_of bases number ⇒ entry (place_with b (16 * frame_count b) (nth tags bases (first_of bases number + t))) else 0) 1024 table long (λ t h. split (t below count_of bases number)
    (λ q. rw q (tab.frames t (ltb-true t (count_of bases number) q)))
    (λ q. rw q (tab.rest t (ltb-false t (count_of bases number) q))))
