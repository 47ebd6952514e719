-- `move_pages` meets its contract: a bss that shrinks places nothing, and one that grows frees nothing.
use native.Mathlib.Omega.{arith}
use mathlib.Core.Path.{sym, ap, ◌∙◌}
use mathlib.Core.List.{[], ◌∷◌}
use Rattle.spec.specs.Numbers.{zero_page}
use Rattle.spec.specs.Book.{segment}
use Rattle.spec.specs.Frames.{Store, pages_of, place, store}
use Rattle.spec.specs.declared.VirtRange.{VirtRange}
use Rattle.call_break.proofs.Moved.{grows-free, shrinks-place}
use Rattle.call_break.proofs.move_pages.Goals as goal

pub returns-then-new-old : goal.returns-then-new-old
returns-then-new-old c =
    let a = c.args in
    c.unmap_and_free.ensures a.frames.now ∙ sym (shrinks-place _ a.number a.old a.new (omega arith))

pub map_zeroed-requires : goal.map_zeroed-requires
map_zeroed-requires c =
    let p = c.requires in
    record { frames_len = p.frames_len; start_value = rw c.range.ensures p.value; passed = (omega arith, λ k l h. absurd (omega arith)) }

pub returns : goal.returns
returns c =
    let a = c.args in
    c.map_zeroed.ensures.book_after
    ∙ ap (λ (r : VirtRange). place (store a.frames.now a.book.now) a.number (pages_of zero_page (segment r.start r.end 3 ∷ []))) c.range.ensures
    ∙ ap (λ (m : Store). place m a.number (pages_of zero_page (segment a.old a.new 3 ∷ []))) (sym (grows-free _ a.number a.old a.new (omega arith)))
