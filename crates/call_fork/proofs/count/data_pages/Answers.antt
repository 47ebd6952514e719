use Rattle.std.proofs.Common.{rules, arith, ◌≡◌, ℕ, ◌+◌, ◌-◌, ◌/◌, List, [], ◌∷◌, ◌++◌, refl, ap, ◌∙◌}
use Rattle.std.proofs.lemmas.Grind.{common_steps}
use Rattle.std.specs.List.{sum_by, filter}
use Rattle.std.proofs.lemmas.Iterator.{YieldsList-from_slice, YieldsList-from_map}
use Rattle.std.proofs.lemmas.Iterator.Adapters.{fits_from_length, at_most_from_Filter, at_most_from_yields_List}
use Rattle.std.proofs.lemmas.Iterator.Consumers.{YieldsList-at, YieldsList-from_chain, YieldsList-from_filter, sum_by_from_yields_List}
use Rattle.std.proofs.lemmas.List.Sums.{sum_by-cons}
use borrow.Author.Tests.{tests}
use Rattle.spec.specs.Tests.{◌is◌}
use Rattle.spec.specs.Book.{data_only, page_count}
use Rattle.spec.specs.declared.UserSegment.{UserSegment}
use Rattle.spec.proofs.Bools.{split}
use Rattle.call_fork.proofs.count.data_pages.Goals as goal

abbrev pages_in : UserSegment → ℕ
pages_in u = (u.range.end - u.range.start) / 4096

sum-pages : (us : List UserSegment) → sum_by pages_in (filter (λ u. u.perm is 3) us) ≡ page_count (data_only us)
sum-pages [] = refl
sum-pages (u ∷ us) = split (u.perm is 3) (λ q. rw q (sum_by-cons pages_in u (filter (λ u. u.perm is 3) us) ∙ ap (λ (k : ℕ). pages_in u + k) (sum-pages us))) (λ q. rw q (sum-pages us))

pub sum-requires-clause-fits : goal.sum-requires-clause-fits
sum-requires-clause-fits c =
    fits_from_length _ _ 17 _
    (at_most_from_Filter _ (at_most_from_yields_List (YieldsList-at (cc) (YieldsList-from_chain {s = c.chain.result} (YieldsList-at c.chain.ensures.first (YieldsList-from_slice c.args.p.segments cc)) (YieldsList-from_slice (c.bss_segment.result ∷ []) cc) c.chain.ensures.first_done c.chain.ensures.second_done)) (grind (arith, common_steps))))
    c.map.ensures.closure (omega arith) (λ x r q k. search (rules, tests))

pub returns : goal.returns
returns c =
    let h = sum_by_from_yields_List pages_in (filter (λ u. u.perm is 3) (c.args.p.segments ++ c.bss_segment.result ∷ [])) c.map.result c.sum.result c.sum.ensures.ran
    (YieldsList-from_map _ pages_in (YieldsList-at c.map.ensures.source (YieldsList-from_filter _ (λ u. u.perm is 3) (YieldsList-at c.filter.ensures.source (YieldsList-from_chain (YieldsList-at c.chain.ensures.first (YieldsList-from_slice c.args.p.segments cc)) (YieldsList-from_slice (c.bss_segment.result ∷ []) cc) c.chain.ensures.first_done c.chain.ensures.second_done)) c.filter.ensures.closure (λ x r q k. search (rules, tests)))) c.map.ensures.closure (λ x r q k. search (rules, tests))) in
    h ∙ sum-pages (c.args.p.segments ++ c.bss_segment.result ∷ []) ∙ ap (λ (g : UserSegment). page_count (data_only (c.args.p.segments ++ g ∷ []))) c.bss_segment.ensures
