-- `pagealloc::place::free_below` meets its contract: no frame above the one found is free, and where none is found, none is.
use Rattle.std.proofs.Common.{rules, arith, ◌≡◌, refl, ap, sym, ◌∙◌, ℕ, ◌<◌, true, false, length, take, List, get_or, [], nat_eq}
use Rattle.std.specs.Prelude.{IfNone, IfSome}
use lib.Seq.{length-take-le, get_or-take}
use Rattle.spec.specs.Book.{frame_count, is_free}
use Rattle.book.proofs.Searches.{length-frames, frame-word, highest-frame}
use Rattle.pagealloc.proofs.place.free_below.Goals as goal

pub slice_bounds-iter-end : goal.slice_bounds-iter-end
slice_bounds-iter-end c =
    let n = frame_count c.args.book.now in
    sym (length-take-le c.args.c c.frames.result.now (omega (arith, ap length c.frames.ensures, length-frames n c.args.book.now)))

pub returns : goal.returns
returns c =
    let book = c.args.book.now in
    let n = frame_count book in
    let all = c.frames.result.now in
    let fs = take c.args.c all in
    let none : IfNone c.rposition.result ((k : ℕ) → k < length fs → nat_eq (get_or (get_or fs k []) 16 0) 0 ≡ false) = search rules in
    let some : IfSome c.rposition.result (λ i. (i < length fs) × (nat_eq (get_or (get_or fs i []) 16 0) 0 ≡ true)) = search rules in
    let above : IfSome c.rposition.result (λ i. (k : ℕ) → i < k → k < length fs → nat_eq (get_or (get_or fs k []) 16 0) 0 ≡ false) = search rules in
    highest-frame fs book c.args.c 16 (λ w. nat_eq w 0) (is_free book)
    (length-take-le c.args.c all (omega (arith, ap length c.frames.ensures, length-frames n book)))
    (λ k h. ap (λ (x : List ℕ). get_or x 16 0) (get_or-take c.args.c all k [] h) ∙ ap (λ (x : List (List ℕ)). get_or (get_or x k []) 16 0) c.frames.ensures ∙ frame-word n book k 16 (omega arith) (omega arith))
    (λ k h. refl) c.rposition.result none some above
