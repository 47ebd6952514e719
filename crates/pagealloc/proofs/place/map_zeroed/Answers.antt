-- `pagealloc::place::map_zeroed` meets its contract.
use mathlib.Core.Path.{ap, ◌∙◌}
use Prim.Native.Nat.{ℕ}
use mathlib.Core.List.{List, [], ◌∷◌}
use Rattle.spec.specs.Book.{segment}
use Rattle.spec.specs.Frames.{pages_of, place, store}
use Rattle.pagealloc.proofs.Placing.{zero-pages}
use Rattle.pagealloc.proofs.place.map_zeroed.Goals as goal

pub returns : goal.returns
returns c =
    let a = c.args in
    let r = a.range in
    record {
      book_after = c.load_segment.ensures.book_after ∙ ap (λ (f : ℕ → List ℕ). place (store a.frames.now a.book.now) a.owner (pages_of f (segment r.start r.end 3 ∷ []))) (zero-pages 0);
      passed_2 = c.load_segment.ensures.passed_2;
    }
