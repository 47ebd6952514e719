-- `end` meets its contract: what stands before the first place that passes.
use Rattle.std.proofs.Common.{◌≡◌, ℕ, ◌==◌, ◌-◌, ◌≤◌, List, refl, ap, arith, length, drop, length-take}
use Rattle.std.proofs.lemmas.Grind.{common_steps}
use Rattle.std.specs.List.{position_or_len}
use Rattle.std.proofs.lemmas.List.Recursion.{is_position_or_len}
use Rattle.std.proofs.lemmas.List.Sums.{prefix_len-le-length}
use Rattle.replay_buffers.specs.Words.{before}
use Rattle.replay_buffers.proofs.words.end.Goals as goal

passed : (b : ℕ) (xs : List ℕ) → before b xs ≡ position_or_len (λ x. x == b) xs
passed b = is_position_or_len (before b) (λ x. x == b) refl (λ x xs. grind arith)

within : (b : ℕ) (xs : List ℕ) → position_or_len (λ x. x == b) xs ≤ length xs
within b xs = prefix_len-le-length _ xs

pub overflow_add-result : goal.overflow_add-result
overflow_add-result c =
    let a = c.args in
    let r = ap (λ (l : List ℕ). length l) c.part.ensures in
    omega (arith, c.before-2.ensures, within a.b c.part.result.now, r, length-take (length a.line.now - a.at) (drop a.at a.line.now))

pub returns : goal.returns
returns c = grind (arith, common_steps, passed)
