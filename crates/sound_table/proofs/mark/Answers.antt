-- `mark` meets its contract.
use Prim.Native.Nat.{ℕ, ◌+◌, ◌-◌, ◌*◌, ◌≤◌}
use native.Mathlib.Omega.{arith}
use mathlib.Core.Path.{◌≡◌, sym, ap, ap₂, subst, ◌∙◌}
use borrow.Author.Rules.{rules}
use lib.ListN.{get_or, length-replicate}
use Rattle.sound_table.specs.Table.{first_of, count_of}
use Rattle.sound_table.proofs.Bits.{bits_none}
use Rattle.sound_table.proofs.Places.{noted-none}
use Rattle.sound_table.proofs.Words.{hints-none}
use Rattle.sound_table.proofs.Counting.{inside, few-all}
use Rattle.sound_table.proofs.Marks.{marked-no, marked_all, noted_of}
use Rattle.sound_table.proofs.mark.Goals as goal
use Rattle.sound_table.proofs.mark.Goals.{After-saturating_sub-pages}

-- the process's first rank, and its count of pages
own-is : (c : After-saturating_sub-pages) → c.base_behind-own.result ≡ first_of c.args.plan.now.bases c.args.number
own-is c = c.base_behind-own.ensures ∙ ap (λ (n : ℕ). get_or c.args.plan.now.bases (17 * n) 0) c.saturating_sub.ensures

pages-are : (c : After-saturating_sub-pages) → c.saturating_sub-pages.result ≡ count_of c.args.plan.now.bases c.args.number
pages-are c = c.saturating_sub-pages.ensures ∙ ap₂ ◌-◌ c.base_behind.ensures (own-is c)

pub returns-then-frames-pages : goal.returns-then-frames-pages
returns-then-frames-pages c =
    marked-no _ _ _ _ _ (λ p all full. omega (arith, few-all c.args.plan.now.tags c.args.plan.now.bases c.requires.1 (search rules) c.args.book.now all full c.args.number, pages-are (goal.at.returns-then-frames-pages c).After-saturating_sub-pages, c.if-frames-pages.true))

pub invariant_of-notes : goal.invariant_of-notes
invariant_of-notes c = record { parts = hints-none }

pub mark_all-requires : goal.mark_all-requires
mark_all-requires c =
    let own = own-is (goal.at.mark_all-requires c).After-saturating_sub-pages in
    let pages = pages-are (goal.at.mark_all-requires c).After-saturating_sub-pages in
    let bases = c.args.plan.now.bases in
    let in-plan : c.base_behind-own.result + c.saturating_sub-pages.result ≤ get_or bases 272 0 = subst (λ (x : ℕ). x ≤ get_or bases 272 0) (sym (ap₂ ◌+◌ own pages)) (inside _ _ c.requires.1 (search rules) c.args.number) in
    (c.requires.0, noted-none _ _ _ _ _ _ _ bits_none c.requires.2 in-plan (omega arith) (length-replicate {A = ℕ} 256 0) (search rules))

pub returns-then-mark_all : goal.returns-then-mark_all
returns-then-mark_all c =
    let y = c.mark_all.ensures.yes c.if-mark_all.true in
    let own = own-is (goal.at.returns-then-mark_all c).After-saturating_sub-pages in
    let pages = pages-are (goal.at.returns-then-mark_all c).After-saturating_sub-pages in
    marked_all _ _ _ _ _ _ y.0 (noted_of _ _ _ _ _ _ _ _ _ own pages y.1) y.2 _ c.all_marked.ensures

pub returns-else-mark_all : goal.returns-else-mark_all
returns-else-mark_all c = rw c.if-mark_all.false (marked-no _ _ _ _ _ (λ p all full. c.mark_all.ensures.no c.if-mark_all.false p all))
