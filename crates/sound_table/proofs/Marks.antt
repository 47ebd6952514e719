-- What the pass and the test of all ranks find together.
use Prim.Native.Nat.{ℕ, ◌*◌}
use mathlib.Core.Path.{◌≡◌, sym, ap, ◌∙◌, subst}
use mathlib.Core.Bool.{Bool, true, false, not, false≢true}
use mathlib.Core.List.{List}
use lib.ListN.{get_or}
use borrow.Author.Tests.{eqb-false, ne_eqb, not-true}
use Rattle.spec.specs.Tests.{all_below}
use Rattle.spec.specs.Book.{frame_count}
use Rattle.spec.proofs.Bools.{below_at, below-test}
use Rattle.sound_plan.specs.Plan.{nth}
use Rattle.sound_table.specs.Table.{place_with, taken, Planned, Full, first_of, count_of, bit_of, Noted, FramedAll, Marked, marked}
use Rattle.sound_table.proofs.Places.{taken_none}

module _ (book tags bases : List ℕ) (number : ℕ) (table : List ℕ) where
  pub marked-no : (Planned book tags bases (16 * frame_count book) → FramedAll book (frame_count book) → Full book tags bases → ⊥) → Marked book tags bases number table false
  marked-no f = record {
    planned = λ e. absurd (false≢true e);
    framed = λ e. absurd (false≢true e);
    full = λ e. absurd (false≢true e);
    no = λ e. f;
    tabled = λ e. absurd (false≢true e);
    few = λ e. absurd (false≢true e);
    long = λ e. absurd (false≢true e);
  }

  -- all ranks are taken, or one is not
  module _ (bits : List ℕ) (planned : Planned book tags bases (16 * frame_count book)) (noted : Noted book tags bases (first_of bases number) (count_of bases number) bits table (16 * frame_count book)) (framed : FramedAll book (frame_count book)) where
    full-fact : all_below (get_or bases 272 0) (marked bits) ≡ true → Full book tags bases
    full-fact e t h z = eqb-false (bit_of bits t) 0 (not-true _ (below_at (get_or bases 272 0) (marked bits) e t h)) (noted.bits_are t h ∙ ap taken z)

    full-test : Full book tags bases → all_below (get_or bases 272 0) (marked bits) ≡ true
    full-test f = below-test (get_or bases 272 0) (marked bits) (λ t h. ap not (ne_eqb (bit_of bits t) 0 (λ z. f t h (taken_none (place_with book (16 * frame_count book) (nth tags bases t)) (sym (noted.bits_are t h) ∙ z)))))

    pub marked_all : (r : Bool) → r ≡ all_below (get_or bases 272 0) (marked bits) → Marked book tags bases number table r
    marked_all r q = record {
      planned = λ e. planned;
      framed = λ e. framed;
      full = λ e. full-fact (sym q ∙ e);
      no = λ e p a f. false≢true (sym e ∙ q ∙ full-test f);
      tabled = λ e. noted.tabled;
      few = λ e. noted.few;
      long = λ e. noted.table-long;
    }

-- the ranks by their numbers
pub noted_of : (book tags bases bits table : List ℕ) (number first count n : ℕ) → first ≡ first_of bases number → count ≡ count_of bases number → Noted book tags bases first count bits table n → Noted book tags bases (first_of bases number) (count_of bases number) bits table n
noted_of book tags bases bits table number first count n ef ec s =
    subst (λ (x : ℕ). Noted book tags bases (first_of bases number) x bits table n) ec (subst (λ (x : ℕ). Noted book tags bases x count bits table n) ef s)
