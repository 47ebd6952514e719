-- `frame_at` meets its contract: of the owner's parts those before k don't have the page.
use Prim.Native.Nat.{ℕ, ◌+◌, ◌-◌, ◌*◌, ◌%◌, ◌≤◌, ◌<◌}
use native.Mathlib.Omega.{arith}
use mathlib.Core.Path.{◌≡◌, sym, ap, ◌∙◌}
use lib.ListN.{get_or}
use borrow.Author.Count.{below_more}
use Rattle.spec.specs.Book.{word_of, owner_of, page_of, frame_of}
use Rattle.spec.proofs.Bools.{clash}
use Rattle.sound_plan.specs.Plan.{hits, rank}
use Rattle.sound_plan.proofs.Within.{Found, found_part}
use Rattle.sound_table.specs.Table.{count_of}
use Rattle.sound_table.proofs.Counting.{rank-own}
use Rattle.sound.proofs.Entries.{answer, found_none, lookup, frame-hits}
use Rattle.sound.proofs.frame.frame_at.Goals as goal
use Rattle.sound.proofs.frame.frame_at.Goals.{After-pack-w, Then-hits}

-- the word that is looked for
module _ (c : After-pack-w) where
  abbrev k : ℕ
  k = c.loop-k.k

  abbrev word : ℕ
  word = c.pack-w.result

  word-is : word ≡ c.args.page + 16 * c.args.owner + get_or c.args.lookup.now.plan.tags k 0 % 16
  word-is = c.pack-w.ensures ∙ ap (word_of c.args.page c.args.owner) c.perm_of.ensures

-- where a part has it
found : (c : Then-hits) → Found c.args.lookup.now.plan.tags c.args.lookup.now.plan.bases (word (goal.at.Then-hits c).After-pack-w) (k (goal.at.Then-hits c).After-pack-w)
found c = found_part _ _ c.requires.2 (word (goal.at.Then-hits c).After-pack-w) (k (goal.at.Then-hits c).After-pack-w) (omega arith) (sym c.hits.ensures ∙ c.if-hits.true)

first-at : (owner : ℕ) → 17 * (owner - 1) ≡ 17 * owner - 17
first-at owner = omega arith

-- its rank is among the owner's
own : (c : Then-hits) → let bases = c.args.lookup.now.plan.bases in
    (get_or bases (17 * c.args.owner - 17) 0 ≤ rank c.args.lookup.now.plan.tags bases (word (goal.at.Then-hits c).After-pack-w) (k (goal.at.Then-hits c).After-pack-w))
    × (rank c.args.lookup.now.plan.tags bases (word (goal.at.Then-hits c).After-pack-w) (k (goal.at.Then-hits c).After-pack-w) - get_or bases (17 * c.args.owner - 17) 0 < count_of bases c.args.owner)
own c =
    let x = found c in
    let n = c.args.owner in
    rw (← first-at n) (rank-own _ _ c.requires.2 (word (goal.at.Then-hits c).After-pack-w) (k (goal.at.Then-hits c).After-pack-w) n x.there x.has (omega arith))

pub returns-then-page-ne0 : goal.returns-then-page-ne0
returns-then-page-ne0 c book r = found_none (frame_of book _ _) (λ i e. let h = frame-hits book _ _ r _ _ i (omega arith) (omega arith) e in c.if-page-ne0.true h.3)

pub loop-k-init : goal.loop-k-init
loop-k-init c = λ i l m. absurd (omega arith)

pub pack-w-requires : goal.pack-w-requires
pack-w-requires c = omega (arith, c.perm_of.ensures)

pub hits-requires : goal.hits-requires
hits-requires c = (omega arith, c.requires.2.rising)

pub overflow_sub-rank : goal.overflow_sub-rank
overflow_sub-rank c = let x = found (goal.at.overflow_sub-rank c).Then-hits in omega arith

pub overflow_add-rank : goal.overflow_add-rank
overflow_add-rank c = let x = found (goal.at.overflow_add-rank c).Then-hits in omega arith

pub overflow_sub-at-then-hits : goal.overflow_sub-at-then-hits
overflow_sub-at-then-hits c = let x = own (goal.at.overflow_sub-at-then-hits c).Then-hits in omega arith

pub offset_bounds-lookup-at : goal.offset_bounds-lookup-at
offset_bounds-lookup-at c = let x = own (goal.at.offset_bounds-lookup-at c).Then-hits in omega arith

pub bounds-lookup-at : goal.bounds-lookup-at
bounds-lookup-at c = let x = own (goal.at.bounds-lookup-at c).Then-hits in omega arith

pub returns-then-hits : goal.returns-then-hits
returns-then-hits c book r =
    let x = found (goal.at.returns-then-hits c).Then-hits in
    let a = c.args in
    let o : owner_of (word (goal.at.returns-then-hits c).After-pack-w) ≡ a.owner = omega (arith, word-is (goal.at.returns-then-hits c).After-pack-w) in
    let p : page_of (word (goal.at.returns-then-hits c).After-pack-w) ≡ a.page = omega (arith, word-is (goal.at.returns-then-hits c).After-pack-w) in
    let first = ap (λ (i : ℕ). get_or a.lookup.now.table (rank a.lookup.now.plan.tags a.lookup.now.plan.bases (word (goal.at.returns-then-hits c).After-pack-w) (k (goal.at.returns-then-hits c).After-pack-w) - get_or a.lookup.now.plan.bases i 0) 0) (sym (first-at a.owner)) in
    answer _ _ _ (first ∙ lookup book _ _ r (word (goal.at.returns-then-hits c).After-pack-w) (k (goal.at.returns-then-hits c).After-pack-w) x.there x.has o) c.checked_sub.ensures
    ∙ ap (λ (n : ℕ). frame_of book n (page_of (word (goal.at.returns-then-hits c).After-pack-w))) o ∙ ap (λ (q : ℕ). frame_of book a.owner q) p

pub loop-k-preserved : goal.loop-k-preserved
loop-k-preserved c =
    let a = c.args in
    below_more _ _ c.loop-k.invariant (λ m. ap (λ (x : ℕ). hits a.lookup.now.plan.tags a.lookup.now.plan.bases x (k (goal.at.loop-k-preserved c).After-pack-w)) (sym (word-is (goal.at.loop-k-preserved c).After-pack-w)) ∙ sym c.hits.ensures ∙ c.if-hits.false)

pub returns : goal.returns
returns c book r =
    found_none (frame_of book _ _) (λ i e.
    let h = frame-hits book _ _ r _ _ i (omega arith) (omega arith) e in
    clash _ h.4 (c.loop-k.invariant h.0 (omega (arith, h.2)) (omega (arith, h.2))))
