-- One word entered at its rank, or not.
use Prim.Native.Nat.{ℕ, ◌+◌, ◌<◌}
use native.Mathlib.Omega.{arith}
use mathlib.Core.Path.{◌≡◌, sym, ap, ◌∙◌, subst}
use mathlib.Core.Bool.{Bool, true, false, false≢true}
use mathlib.Core.List.{List}
use lib.Dec.{eqb}
use lib.ListN.{set, replicate, length-set, length-replicate}
use lib.Seq.{get_or-set_same, get_or-set_other}
use borrow.Author.Tests.{eqb-true, eqb-false}
use Rattle.spec.proofs.Bools.{split, clash}
use Rattle.std.specs.Prelude.{None}
use Rattle.sound_plan.specs.Plan.{hits, rank, PartOf, Plan}
use Rattle.sound_plan.proofs.Within.{Found, rank_below, rank-word, hit-owner}
use Rattle.sound_table.proofs.Bits.{zeros}
use Rattle.sound_table.specs.Table.{bit_of, BitSet, Stored, Entered, Hints}

module _ (tags bases : List ℕ) (plan : Plan tags bases) (first count : ℕ) (bits table : List ℕ) (w k : ℕ) where
  -- no part has the word
  pub entered-none : PartOf tags bases w None → Entered tags bases first count bits table bits table w k false
  entered-none s = record {
    yes = λ q. absurd (false≢true q);
    no = λ q p h x z. clash (hits tags bases w p) x (s p h (hit-owner tags bases plan w p h x));
  }

  -- its rank is taken
  pub entered-taken : (r : ℕ) → Found tags bases w r → (bit_of bits (rank tags bases w r) ≡ 0 → ⊥) → (bits' later : List ℕ) → Entered tags bases first count bits table bits' later w k false
  entered-taken r f ne bits' later = record {
    yes = λ q. absurd (false≢true q);
    no = λ q p h x z.
        let same = plan.apart (rank tags bases w p) (rank tags bases w r) (rank_below tags bases plan w p h x) f.below (rank-word tags bases plan w p h x ∙ sym (rank-word tags bases plan w r f.there f.has)) in
        ne (ap (bit_of bits) (sym same) ∙ z);
  }

  -- it is new
  pub entered-new : (r : ℕ) → Found tags bases w r → bit_of bits (rank tags bases w r) ≡ 0 → (bits' later : List ℕ) → BitSet bits bits' (rank tags bases w r) → Stored first count table later (rank tags bases w r) (k + 1)
      → Entered tags bases first count bits table bits' later w k true
  entered-new r f z bits' later set stored = record { yes = λ q. (r, f.there, f.has, z, set, stored); no = λ q. absurd (false≢true (sym q)) }

  -- it is entered in lists that are still the same
  pub entered-far : (bits₁ table₁ bits' later : List ℕ) (r : Bool) → (bits₁ ≡ bits) × (table₁ ≡ table) → Entered tags bases first count bits₁ table₁ bits' later w k r → Entered tags bases first count bits table bits' later w k r
  entered-far bits₁ table₁ bits' later r e s =
      subst (λ (x : List ℕ). Entered tags bases first count bits x bits' later w k r) e.1 (subst (λ (x : List ℕ). Entered tags bases first count x table₁ bits' later w k r) e.0 s)

-- ---- hints

pub hints-none : Hints (replicate 272 0)
hints-none = record { long = length-replicate {A = ℕ} 272 0; parts = λ i. omega (arith, zeros 272 i) }

pub hints-set : (hints : List ℕ) (at p : ℕ) → Hints hints → at < 272 → p < 272 → Hints (set hints at p)
hints-set hints at p h la lp = record {
  long = simp length-set h.long;
  parts = λ i. split (eqb i at)
      (λ q. let e = eqb-true i at q in let s = get_or-set_same hints at p 0 (omega (arith, h.long)) in rw e (omega arith))
      (λ q. let s = get_or-set_other hints at i p 0 (eqb-false i at q) in omega (arith, h.parts i));
}
