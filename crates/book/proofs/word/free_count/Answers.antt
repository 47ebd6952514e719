-- `free_count` meets its contract.
use Rattle.std.proofs.Common.{rules, ◌≡◌, ap, ◌∙◌, ℕ, List, get_or, arith}
use Rattle.spec.specs.Book.{frame_count, is_free}
use Rattle.spec.specs.Tests.{◌is◌}
use Rattle.book.proofs.Searches.{frame-word}
use Rattle.book.proofs.word.free_count.Goals as goal

pub returns : goal.returns
returns c =
    let book = c.args.book.now in
    c.count.ensures (is_free book)
    (λ k f b h e p.
    let s : b ≡ (get_or f.now 16 0 is 0) = search rules in
    s ∙ ap (λ (w : ℕ). w is 0) (ap (λ (x : List ℕ). get_or x 16 0) e ∙ frame-word (frame_count book) book k 16 h (omega arith)))
