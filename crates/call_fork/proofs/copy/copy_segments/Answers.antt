-- `copy::copy_segments` meets its contract: a segment that is data is copied, and then the bss.
use native.Mathlib.Omega.{arith}
use mathlib.Core.Path.{refl, sym, ap, ◌∙◌}
use mathlib.Core.List.{List, [], ◌∷◌, ◌++◌}
use Prim.Native.Nat.{ℕ}
use lib.Seq.{take_all}
use Rattle.spec.specs.Book.{bss_segment, frame_of, data_only}
use Rattle.spec.specs.Frames.{Store, pages_of, place, frame_bytes, store}
use Rattle.spec.specs.declared.UserSegment.{UserSegment}
use Rattle.pagealloc.specs.Lent.{Mapped}
use Rattle.call_fork.specs.Lent.{Copyable, Kept}
use Rattle.call_fork.proofs.Forked.{data-append, data-more, data-less, mapped-still, copied_none, copied_more}
use Rattle.call_fork.proofs.copy.copy_segments.Goals as goal
use Rattle.call_fork.proofs.copy.copy_segments.Goals.{then-s-eq-DATA, else-s-eq-DATA, Start}

-- a segment that can be copied at first can be copied later, while the parent's pages stay
still : (c : Start) (t : Store) (g : UserSegment) → Kept (store c.args.frames.now c.args.book.now) t c.args.parent → Copyable c.args.book.now c.args.parent g
    → Mapped t.book c.args.parent g.range.start g.range.end
still c t g k y = mapped-still (store c.args.frames.now c.args.book.now) t c.args.parent g.range.start g.range.end k y.mapped

pub loop-s-init : goal.loop-s-init
loop-s-init c =
    record { same_frames = refl; same_book = refl; copied = copied_none _ _ _; passed = (omega arith, λ k l h. absurd (omega arith)); tells = c.requires.told }

pub copy_segment-top-requires-clause-start_value : goal.copy_segment-top-requires-clause-start_value
copy_segment-top-requires-clause-start_value c =
    let y = c.requires.by_index c.loop-s.s-index (omega arith) in
    (y.start, y.end, y.high, omega arith)

pub copy_segment-top-requires-clause-mapped : goal.copy_segment-top-requires-clause-mapped
copy_segment-top-requires-clause-mapped c =
    let l = c.loop-s in
    (still (goal.at.copy_segment-top-requires-clause-mapped c).Start (store l.frames l.book) _ l.invariant.copied.kept (c.requires.by_index l.s-index (omega arith)), l.invariant.tells)

pub loop-s-preserved : goal.loop-s-preserved
loop-s-preserved c =
    let l = c.loop-s in
    let v = l.invariant in
    let a = c.args in
    let more = data-more a.segments.now l.s-index (omega arith) in
    let less = data-less a.segments.now l.s-index (omega arith) in
    let j = c.if-s-eq-DATA in
    elim j.branch [
      | then-s-eq-DATA w ↦
          let s = w.copy_segment-top in
          record {
            same_frames = j.auto.frames ∙ v.same_frames;
            same_book = j.auto.book ∙ v.same_book;
            copied = rw (w.frames-is, w.book-is, more w.if-s-eq-DATA.true) (copied_more _ (store l.frames l.book) _ a.parent a.child _ _ v.copied s.ensures.book_after s.ensures.kept);
            passed = rw (w.top-is, w.book-is) s.ensures.passed_2.0;
            tells = rw w.book-is s.ensures.passed_2.1;
          }
      | else-s-eq-DATA w ↦
          record {
            same_frames = j.auto.frames ∙ v.same_frames;
            same_book = j.auto.book ∙ v.same_book;
            copied = rw (w.frames-is, w.book-is, less w.if-s-eq-DATA.false) v.copied;
            passed = rw (w.top-is, w.book-is) v.passed;
            tells = rw w.book-is v.tells;
          }
    ]

pub copy_segment-requires-clause-mapped : goal.copy_segment-requires-clause-mapped
copy_segment-requires-clause-mapped c =
    let l = c.loop-s in
    (rw c.bss_segment-last.ensures (still (goal.at.copy_segment-requires-clause-mapped c).Start (store l.frames l.book) _ l.invariant.copied.kept c.requires.bss.1), l.invariant.tells)

pub returns : goal.returns
returns c =
    let s = c.copy_segment in
    let l = c.loop-s in
    let v = l.invariant in
    let a = c.args in
    let m = store a.frames.now a.book.now in
    let f : ℕ → List ℕ = λ x. frame_bytes a.frames.now (frame_of a.book.now a.parent x) in
    (copied_more m (store l.frames l.book) _ a.parent a.child _ _ v.copied s.ensures.book_after s.ensures.kept).made
    ∙ ap (λ (gs : List UserSegment). place m a.child (pages_of f gs))
    (ap (λ (gs : List UserSegment). data_only gs ++ c.bss_segment-last.result ∷ []) (take_all l.s-index _ (omega arith))
    ∙ ap (λ (g : UserSegment). data_only a.segments.now ++ g ∷ []) c.bss_segment-last.ensures
    ∙ sym (data-append a.segments.now (bss_segment a.bss ∷ [])))
