-- `pagealloc::place::load_segment` meets its contract. The loop's invariant: the first `i` pages are placed, and no frame from
-- `c` on is free.
use mathlib.Core.Path.{sym, ◌∙◌}
use native.Mathlib.Omega.{arith}
use Prim.Native.Nat.{ℕ, ◌+◌, ◌*◌}
use mathlib.Core.List.{List}
use Rattle.spec.specs.Numbers.{page_bytes}
use Rattle.spec.specs.Frames.{store}
use Rattle.pagealloc.specs.Contents.{file_at}
use Rattle.pagealloc.proofs.Placing.{ran-at, ran-start, ran-turn, ran-full, ran-end, free-found}
use Rattle.pagealloc.proofs.place.load_segment.Goals as goal
use Rattle.pagealloc.proofs.place.load_segment.Goals.{Start}

-- the bytes of the pages
abbrev bytes : Start → ℕ → List ℕ
bytes s = page_bytes (file_at s.args.vaddr s.args.file.now)

pub loop-i-init : goal.loop-i-init
loop-i-init c =
    let a = c.args in
    let r = a.recorded.range in
    ran-at (bytes (goal.at.loop-i-init c).Start) a.recorded.perm a.owner r.end r.start (store a.frames.now a.book.now) (store a.frames.now a.book.now) r.start a.top _ (omega arith)
    (ran-start (bytes (goal.at.loop-i-init c).Start) a.recorded.perm a.owner r.end r.start (store a.frames.now a.book.now) a.top c.requires.start_value.0 c.requires.passed)

pub free_below-requires : goal.free_below-requires
free_below-requires c = c.loop-i.invariant.passed.0

pub returns-in_default : goal.returns-in_default
returns-in_default c =
    let l = c.loop-i in
    let a = c.args in
    let r = a.recorded.range in
    let p = ran-full (bytes (goal.at.returns-in_default c).Start) a.recorded.perm a.owner r.end r.start (store a.frames.now a.book.now) (store l.frames l.book) (r.start + 4096 * l.i) l.c
    (omega arith) l.invariant (sym c.free_below.ensures ∙ c.in_default.is) in record { book_after = p.0; passed_2 = p.1 }

pub hold_loaded-requires : goal.hold_loaded-requires
hold_loaded-requires c =
    let l = c.loop-i in
    let e = free-found l.book l.c l.invariant.passed c.in-Some.k (sym c.free_below.ensures ∙ c.in-Some.is) in
    record { frames_len = omega (arith, c.pages-i-end.ensures, l.invariant.frames, l.invariant.book); file_bound = omega arith }

pub loop-i-preserved : goal.loop-i-preserved
loop-i-preserved c =
    let l = c.loop-i in
    let a = c.args in
    let r = a.recorded.range in
    let m = store a.frames.now a.book.now in
    let page = r.start + 4096 * l.i in
    ran-at (bytes (goal.at.loop-i-preserved c).Start) a.recorded.perm a.owner r.end r.start m _ (page + 4096) c.in-Some.k _ (omega arith)
    (ran-turn (bytes (goal.at.loop-i-preserved c).Start) a.recorded.perm a.owner r.end r.start m (store l.frames l.book) page l.c (omega arith) l.invariant c.requires.start_value.1
    (omega (arith, c.pages-i-end.ensures)) c.in-Some.k (sym c.free_below.ensures ∙ c.in-Some.is) _ c.hold_loaded.ensures c.hold_loaded.auto.frames)

pub returns : goal.returns
returns c =
    let l = c.loop-i in
    let a = c.args in
    let r = a.recorded.range in
    let p = ran-end (bytes (goal.at.returns c).Start) a.recorded.perm a.owner r.end r.start (store a.frames.now a.book.now) (store l.frames l.book) (r.start + 4096 * l.i) l.c
    (omega arith) l.invariant (omega (arith, c.pages-i-end.ensures)) in record { book_after = p.0; passed_2 = p.1 }
