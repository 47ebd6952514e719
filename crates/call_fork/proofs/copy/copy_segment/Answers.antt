-- `copy::copy_segment` meets its contract. The loop's invariant: the pages before `page` are placed, no frame from `c` on is
-- free, the parent's pages stay in their frames with their bytes, and the lookup tells its frames.
use mathlib.Core.Path.{◌≡◌, refl, sym, ap, ◌∙◌}
use Rattle.std.specs.Prelude.{Some}
use mathlib.Core.List.{List}
use Prim.Native.Nat.{ℕ, ◌+◌, ◌*◌}
use lib.ListN.{length}
use native.Mathlib.Omega.{arith}
use Rattle.spec.specs.Book.{frame_count, frame_of}
use Rattle.spec.specs.Frames.{Store, hold, frame_bytes, store}
use Rattle.call_fork.specs.Lent.{Tells, Kept}
use Rattle.book.proofs.Searches.{Framed, page-found}
use Rattle.pagealloc.proofs.Placing.{Ran, ran-start, ran-turn, ran-full, ran-end, free-found, free-word}
use Rattle.pagealloc.proofs.Copying.{not-missing}
use Rattle.call_fork.proofs.Told.{tells-turn, kept-turn, kept_self, told_is}
use Rattle.call_fork.proofs.copy.copy_segment.Goals as goal
use Rattle.call_fork.proofs.copy.copy_segment.Invariants.{pages}
use Rattle.call_fork.proofs.copy.copy_segment.Goals.{In-Some, In-loop-page, After-hold_copied}

-- the parent's page of a turn has a frame
there : (c : In-loop-page) → (j : ℕ) × (frame_of c.loop-page.book c.args.parent c.loop-page.page ≡ Some j)
there c =
    let l = c.loop-page in
    let a = c.args in
    let p = c.requires.mapped.0 l.page l.invariant.0.aligned l.invariant.0.onward c.loop-page-test.true in
    (p.0, l.invariant.1.same l.page ∙ p.1)

-- which the lookup tells
from_is : (c : In-Some) → Framed c.loop-page.book c.args.parent c.loop-page.page c.in-Some.from
from_is c =
    let l = c.loop-page in
    let f = c.frame_at in
    page-found l.book c.args.parent l.page c.in-Some.from (sym (told_is l.book _ c.args.parent l.page f.result l.invariant.2 f.ensures) ∙ c.in-Some.is)

pub loop-page-init : goal.loop-page-init
loop-page-init c =
    let a = c.args in
    let g = a.recorded in
    let m : Store = store a.frames.now a.book.now in
    (ran-start (pages m a.parent) g.perm a.child g.range.end g.range.start m a.top c.requires.start_value.0 c.requires.passed, kept_self _ _, c.requires.mapped.1)

pub frame_at-requires : goal.frame_at-requires
frame_at-requires c = (omega arith, omega arith, c.loop-page.invariant.2.ready.plan, c.loop-page.invariant.2.ready.few)

pub returns-in_default : goal.returns-in_default
returns-in_default c =
    let l = c.loop-page in
    let f = c.frame_at in
    let p = there (goal.at.returns-in_default c).In-loop-page in
    not-missing _ p.0 p.1 (sym (told_is l.book _ c.args.parent l.page f.result l.invariant.2 f.ensures) ∙ c.in_default.is)

pub returns-in_default-free_below : goal.returns-in_default-free_below
returns-in_default-free_below c =
    let l = c.loop-page in
    let a = c.args in
    let g = a.recorded in
    let m : Store = store a.frames.now a.book.now in
    let r = ran-full (pages m a.parent) g.perm a.child g.range.end g.range.start m (store l.frames l.book) l.page l.c
    c.requires.frames_len.4 l.invariant.0 (sym c.free_below.ensures ∙ c.in_default-free_below.is) in
    record { book_after = r.0; passed_2 = (r.1, l.invariant.2); kept = l.invariant.1 }

pub hold_copied-requires : goal.hold_copied-requires
hold_copied-requires c =
    let l = c.loop-page in
    let e = sym c.free_below.ensures ∙ c.in-Some-free_below.is in
    let found = free-found l.book l.c l.invariant.0.passed c.in-Some-free_below.k e in
    let word = free-word l.book l.c l.invariant.0.passed c.in-Some-free_below.k e in
    let from = from_is (goal.at.hold_copied-requires c).In-Some in
    record { frames_len = (omega (arith, c.requires.frames_len.0, l.invariant.0.frames, l.invariant.0.book), found.0, word); from_bound = (from.there, l.invariant.2.held _ from.there from.used, c.requires.frames_len.3, c.requires.frames_len.4, c.requires.start_value.3, omega (arith, c.requires.start_value.2)) }

-- after a turn the page is placed too
turn : (c : After-hold_copied) → let a = c.args in let g = a.recorded in let m : Store = store a.frames.now a.book.now in let u : Store = store c.hold_copied.new.frames c.hold_copied.new.book in
    Ran (pages m a.parent) g.perm a.child g.range.end g.range.start m u (c.loop-page.page + 4096) c.in-Some-free_below.k × Kept m u a.parent × Tells c.hold_copied.new.book a.lookup.now a.parent
turn c =
    let l = c.loop-page in
    let a = c.args in
    let g = a.recorded in
    let m : Store = store a.frames.now a.book.now in
    let t : Store = store l.frames l.book in
    let e = sym c.free_below.ensures ∙ c.in-Some-free_below.is in
    let found = free-found l.book l.c l.invariant.0.passed c.in-Some-free_below.k e in
    let word = free-word l.book l.c l.invariant.0.passed c.in-Some-free_below.k e in
    let from = from_is (goal.at.After-hold_copied c).In-Some in
    let fits : length l.frames ≡ 4096 * frame_count l.book = omega (arith, c.requires.frames_len.0, l.invariant.0.frames, l.invariant.0.book) in
    let eu = c.hold_copied.ensures ∙ ap (λ (b : List ℕ). hold t a.child (record { page = l.page; perm = g.perm; bytes = b }) (Some c.in-Some-free_below.k)) (ap (frame_bytes l.frames) (sym from.is) ∙ l.invariant.1.bytes l.page) in (
      ran-turn (pages m a.parent) g.perm a.child g.range.end g.range.start m t l.page l.c c.requires.frames_len.4 l.invariant.0 c.requires.start_value.1 c.loop-page-test.true c.in-Some-free_below.k e _ eu c.hold_copied.auto.frames,
      kept-turn m t _ a.parent a.child c.in-Some-free_below.k _ _ fits found.0 word from.there refl c.requires.frames_len.1 c.requires.frames_len.2 c.requires.frames_len.3 c.requires.frames_len.4 c.requires.frames_len.5 c.hold_copied.ensures l.invariant.2.held l.invariant.1,
      tells-turn t _ _ a.parent a.child c.in-Some-free_below.k _ found.0 c.requires.frames_len.1 c.requires.frames_len.2 c.requires.frames_len.3 c.requires.frames_len.4 c.requires.frames_len.5 c.hold_copied.ensures l.invariant.2,
    )

pub loop-page-preserved : goal.loop-page-preserved
loop-page-preserved c = turn (goal.at.loop-page-preserved c).After-hold_copied

pub returns-in-Some-free_below : goal.returns-in-Some-free_below
returns-in-Some-free_below c =
    let a = c.args in
    let g = a.recorded in
    let m : Store = store a.frames.now a.book.now in
    let t = turn (goal.at.returns-in-Some-free_below c).After-hold_copied in
    let r = ran-end (pages m a.parent) g.perm a.child g.range.end g.range.start m _ _ _ c.requires.frames_len.4 t.0 (omega arith) in
    record { book_after = r.0; passed_2 = (r.1, t.2); kept = t.1 }

pub returns : goal.returns
returns c =
    let l = c.loop-page in
    let a = c.args in
    let g = a.recorded in
    let m : Store = store a.frames.now a.book.now in
    let r = ran-end (pages m a.parent) g.perm a.child g.range.end g.range.start m (store l.frames l.book) l.page l.c
    c.requires.frames_len.4 l.invariant.0 (omega arith) in
    record { book_after = r.0; passed_2 = (r.1, l.invariant.2); kept = l.invariant.1 }
