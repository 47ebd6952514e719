-- `alone_count` meets its contract.
use Rattle.std.proofs.Common.{rules, ◌≡◌, ap, ap₂, ◌∙◌, ℕ, ◌-◌, ◌<◌, List, get_or, ◌&&◌, arith}
use Rattle.spec.specs.Book.{frame_count, is_alone}
use Rattle.spec.specs.Tests.{◌is◌, ◌isnt◌}
use Rattle.book.proofs.Searches.{frame-word}
use Rattle.book.proofs.word.alone_count.Goals as goal

pub returns : goal.returns
returns c =
    let book = c.args.book.now in
    let place = c.args.owner - 1 in
    let low : place < 17 = omega arith in
    c.count.ensures (is_alone book c.args.owner)
    (λ k f b h e p.
    let s : b ≡ (get_or f.now place 0 isnt 0 && get_or f.now 16 0 is 1) = search rules in
    let word = λ (j : ℕ) (q : j < 17). ap (λ (x : List ℕ). get_or x j 0) e ∙ frame-word (frame_count book) book k j h q in
    s ∙ ap₂ (λ (w held : ℕ). w isnt 0 && held is 1) (word place low) (word 16 (omega arith)))
