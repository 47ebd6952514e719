-- `frame_of` meets its contract: no frame above the one found has the word without its permission, and where none is found, none has.
use Rattle.std.proofs.Common.{rules, arith, ◌≡◌, ap, ◌∙◌, ℕ, ◌+◌, ◌-◌, ◌/◌, ◌<◌, true, false, length, List, get_or, [], nat_eq}
use Rattle.std.specs.Prelude.{IfNone, IfSome}
use Rattle.spec.specs.Book.{frame_count, mapping, owns}
use Rattle.book.proofs.Searches.{length-frames, frame-word, highest-frame, key-test}
use Rattle.book.proofs.word.frame_of.Goals as goal

pub returns : goal.returns
returns c =
    let a = c.args in
    let book = a.book.now in
    let fs = c.frames.result.now in
    let place = a.owner - 1 in
    let key = a.page / 16 + a.owner in
    let none : IfNone c.rposition.result ((k : ℕ) → k < length fs → nat_eq (get_or (get_or fs k []) place 0 / 16) key ≡ false) = search rules in
    let some : IfSome c.rposition.result (λ i. (i < length fs) × (nat_eq (get_or (get_or fs i []) place 0 / 16) key ≡ true)) = search rules in
    let above : IfSome c.rposition.result (λ i. (k : ℕ) → i < k → k < length fs → nat_eq (get_or (get_or fs k []) place 0 / 16) key ≡ false) = search rules in
    highest-frame fs book (frame_count book) place (λ w. nat_eq (w / 16) key) (λ k. owns a.owner a.page (mapping book k a.owner))
    (ap length c.frames.ensures ∙ length-frames (frame_count book) book)
    (λ k h. ap (λ (x : List (List ℕ)). get_or (get_or x k []) place 0) c.frames.ensures ∙ frame-word (frame_count book) book k place h (omega arith))
    (λ k h. key-test a.owner a.page (mapping book k a.owner) (omega arith) (omega arith) (omega arith)) c.rposition.result none some above
