-- A word of a part's page: its rank, and its owner.
use Prim.Native.Nat.{ℕ, ◌+◌, ◌-◌, ◌/◌, ◌%◌, ◌<◌, ◌≤◌}
use native.Mathlib.Omega.{arith}
use mathlib.Core.Path.{◌≡◌, ◌∙◌}
use mathlib.Core.Bool.{true}
use mathlib.Core.List.{List}
use lib.ListN.{get_or}
use borrow.Author.Tests.{ltb-true, leb-true, eqb-true, lt-ltb, le-leb, eq-eqb}
use Rattle.spec.specs.Book.{owner_of}
use Rattle.spec.proofs.Bools.{both}
use Rattle.sound_plan.specs.Plan.{owner, hits, nth, rank, Plan}
use Rattle.sound_plan.proofs.Ranks.{base-up, nth-at}

pub record Hit (tags bases : List ℕ) (w k : ℕ) : Type 0 where
  pub from : get_or tags k 0 ≤ w
  pub whole : (w - get_or tags k 0) % 4096 ≡ 0
  pub few : (w - get_or tags k 0) / 4096 < get_or bases (k + 1) 0 - get_or bases k 0

pub hit-fact : (tags bases : List ℕ) (w k : ℕ) → hits tags bases w k ≡ true → Hit tags bases w k
unfolding hits
hit-fact tags bases w k e =
    let h = both _ _ e in
    let g = both _ _ h.1 in
    record { from = leb-true _ _ h.0; whole = eqb-true _ _ g.0; few = ltb-true _ _ g.1 }

pub hit-test : (tags bases : List ℕ) (w k : ℕ) → Hit tags bases w k → hits tags bases w k ≡ true
unfolding hits
hit-test tags bases w k h = rw (le-leb _ _ h.from, eq-eqb _ _ h.whole) (lt-ltb _ _ h.few)

-- its rank is below the count of pages, is of that word, and its part is of that word's owner
module _ (tags bases : List ℕ) (plan : Plan tags bases) (w k : ℕ) (hk : k < 272) (e : hits tags bases w k ≡ true) where
  pub rank_below : rank tags bases w k < get_or bases 272 0
  rank_below =
      let h = hit-fact tags bases w k e in
      omega (arith, base-up (λ i. get_or bases i 0) 272 plan.rising (k + 1) (omega arith), plan.rising k hk)

  pub rank-word : nth tags bases (rank tags bases w k) ≡ w
  rank-word =
      let h = hit-fact tags bases w k e in
      nth-at (λ i. get_or bases i 0) (λ i. get_or tags i 0) 272 plan.rising k ((w - get_or tags k 0) / 4096) hk (omega (arith, plan.rising k hk)) ∙ omega arith

  pub hit-owner : owner k ≡ owner_of w
  hit-owner =
      let h = hit-fact tags bases w k e in
      omega (arith, plan.owner-is k hk)

-- all of that, where a part was found
pub record Found (tags bases : List ℕ) (w k : ℕ) : Type 0 where
  pub there : k < 272
  pub has : hits tags bases w k ≡ true
  pub fact : Hit tags bases w k
  pub below : rank tags bases w k < get_or bases 272 0
  pub most : get_or bases 272 0 ≤ 16384

pub found_part : (tags bases : List ℕ) → Plan tags bases → (w k : ℕ) → k < 272 → hits tags bases w k ≡ true → Found tags bases w k
found_part tags bases plan w k h e = record { there = h; has = e; fact = hit-fact tags bases w k e; below = rank_below tags bases plan w k h e; most = plan.most }
