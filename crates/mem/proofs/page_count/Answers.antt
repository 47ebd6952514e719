-- `mem::page_count` meets its contract: it is the sum of what each segment has.
use Rattle.std.proofs.Common.{rules, arith, ◌≡◌, ℕ, ◌-◌, ◌/◌, ◌+◌, ◌^◌, ◌≤◌, List, [], ◌∷◌, refl, ap, ◌∙◌}
use Rattle.std.specs.List.{sum_by}
use Rattle.std.specs.List.{All}
use Rattle.std.proofs.lemmas.List.Sums.{sum_by-cons, sum_by-le}
use Rattle.spec.specs.Book.{page_count}
use Rattle.spec.specs.declared.UserSegment.{UserSegment}
use Rattle.mem.proofs.page_count.Goals as goal

abbrev pages_in : UserSegment → ℕ
pages_in u = (u.range.end - u.range.start) / 4096

sum-pages : (us : List UserSegment) → sum_by pages_in us ≡ page_count us
sum-pages [] = refl
sum-pages (u ∷ us) = sum_by-cons pages_in u us ∙ ap (λ (k : ℕ). pages_in u + k) (sum-pages us)

pub returns : goal.returns
returns c =
    let h : c.sum.result ≡ sum_by pages_in c.args.segments.now = search rules in
    let b : All (λ (u : UserSegment). pages_in u ≤ 2 ^ 52) c.args.segments.now = search rules in
    (h ∙ sum-pages c.args.segments.now, omega (arith, sum_by-le pages_in (2 ^ 52) c.args.segments.now b))
