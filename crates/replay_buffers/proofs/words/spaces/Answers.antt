-- `spaces` meets its contract: spaces are what it counts.
use Rattle.std.proofs.Common.{◌≡◌, ℕ, ◌==◌, List, count_by, sym, ◌∙◌, arith, refl, rules}
use Rattle.std.proofs.lemmas.List.Recursion.{is_count_by}
use Rattle.replay_buffers.specs.Words.{spaces_in}
use Rattle.replay_buffers.proofs.words.spaces.Goals as goal

counted : (xs : List ℕ) → spaces_in xs ≡ count_by (λ x. x == 32) xs
counted = is_count_by spaces_in (λ x. x == 32) refl (λ x xs. grind arith)

pub returns : goal.returns
returns c = (let e : c.count.result ≡ count_by (λ x. x == 32) c.args.line.now = search rules in e) ∙ sym (counted c.args.line.now)
