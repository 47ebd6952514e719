-- `count` meets its contract. The loop's invariant: so many frames before `f` pass.
use Rattle.std.proofs.Common.{◌≡◌, sym, ap, ◌∙◌, ℕ, ◌+◌, ◌≤◌, List, length, get_or, [], arith}
use Rattle.spec.specs.Book.{frame_count, count_below}
use Rattle.book.proofs.Searches.{length-frames, frame-length, count-hit, count-miss}
use Rattle.book.proofs.word.count.Goals as goal
use Rattle.book.proofs.word.count.Goals.{then-test, else-test}

pub test-requires : goal.test-requires
test-requires g c =
    let book = c.args.book.now in
    let l : length (get_or c.frames-f-items.result.now c.loop-f.f-index []) ≡ 17 =
    ap (λ (x : List (List ℕ)). length (get_or x c.loop-f.f-index [])) c.frames-f-items.ensures ∙ frame-length (frame_count book) book c.loop-f.f-index (omega arith) (omega (arith, ap length c.frames-f-items.ensures, length-frames (frame_count book) book)) in
    c.requires.callable _ l

pub overflow_add-n : goal.overflow_add-n
overflow_add-n g c =
    let e = ap length c.frames-f-items.ensures ∙ length-frames (frame_count c.args.book.now) c.args.book.now in
    omega (arith, c.loop-f.invariant.0, e)

pub loop-f-preserved : goal.loop-f-preserved
loop-f-preserved g c =
    let l = c.loop-f in
    let book = c.args.book.now in
    let k = l.f-index in
    let e = ap length c.frames-f-items.ensures ∙ length-frames (frame_count book) book in
    let less : c.if-test.n ≤ k + 1 = elim c.if-test.branch [ then-test w ↦ omega (arith, w.n-is, l.invariant.0) | else-test w ↦ omega (arith, w.n-is, l.invariant.0) ] in (
      less,
      λ t gives.
          let r : c.test.result ≡ t k = gives k _ _ (omega arith) (ap (λ (x : List (List ℕ)). get_or x k []) c.frames-f-items.ensures) c.test.ensures in
          let before = l.invariant.1 t gives in
          elim c.if-test.branch [
            | then-test w ↦ w.n-is ∙ ap (λ (x : ℕ). x + 1) before ∙ sym (count-hit t k (sym r ∙ w.if-test.true))
            | else-test w ↦ w.n-is ∙ before ∙ sym (count-miss t k (sym r ∙ w.if-test.false))
          ],
    )

pub returns : goal.returns
returns g c =
    let l = c.loop-f in
    let book = c.args.book.now in
    let e = ap length c.frames-f-items.ensures ∙ length-frames (frame_count book) book in
    let h : l.f-index ≡ frame_count book = omega arith in
    λ t gives. l.invariant.1 t gives ∙ ap (count_below t) h
