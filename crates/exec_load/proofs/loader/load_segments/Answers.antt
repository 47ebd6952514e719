-- `loader::load_segments` meets its contract: a turn places the pages of one place.
use mathlib.Core.Path.{◌≡◌, refl, sym, ap, ap₂, ◌∙◌}
use mathlib.Core.Bool.{true}
use mathlib.Core.List.{List, [], ◌∷◌}
use Prim.Native.Nat.{ℕ, ◌+◌, ◌<◌}
use native.Mathlib.Omega.{arith}
use lib.ListN.{length, drop, length-take}
use Rattle.spec.specs.Numbers.{page_bytes}
use Rattle.spec.specs.Frames.{Store, pages_of, place, store}
use Rattle.spec.specs.Program.{Segment}
use Rattle.spec.specs.Exec.{layout_ok}
use Rattle.image.specs.Images.{form, bytes, program, place_count, segment_at}
use Rattle.image.proofs.Places.{rest, rest_some, rest-none, rest_all, perm_at_lem}
use Rattle.pagealloc.specs.Contents.{file_at}
use Rattle.spec_laws.proofs.Place.{place-append}
use Rattle.exec_load.specs.Pages.{segment_pages, load_pages, LaidLoad}
use Rattle.exec_load.proofs.Places.{laid_of, whole, front-pages, front-laid, place-skip, load-taken, place-done}
use Rattle.exec_load.proofs.loader.load_segments.Goals as goal
use Rattle.exec_load.proofs.loader.load_segments.Goals.{In-loop-i, in-Some, in_default}

-- a place is left in a turn, and its segment keeps to the layout
more : (c : In-loop-i) → c.loop-i.i < place_count c.args.image.now
more c = omega (arith, c.loop-i-test.true, c.places-i-end.ensures)

laid : (c : In-loop-i) → let i = c.args.image.now in LaidLoad (segment_at i c.loop-i.i) × (layout_ok i.setup (rest i.setup (form i) (bytes i) (c.loop-i.i + 1)) ≡ true)
laid c =
    let i = c.args.image.now in
    let l = c.loop-i in
    front-laid i.setup i.setup_ok (bytes i) (segment_at i l.i) _ (ap (layout_ok i.setup) (sym (rest_some i.setup (form i) (bytes i) l.i (more c))) ∙ l.invariant.laid_out)

pub loop-i-init : goal.loop-i-init
loop-i-init c =
    let a = c.args in
    let i = a.image.now in
    let all = rest_all i.setup (form i) (bytes i) in
    let m : Store = store a.frames.now a.book.now in
    record {
      laid_out = ap (layout_ok i.setup) all ∙ c.requires.laid_out;
      placed = ap (λ (gs : List Segment). place m a.owner (segment_pages a.bss gs)) (sym all);
      passed = (omega arith, λ k l h. absurd (omega arith));
    }

pub load_segment-top-requires : goal.load_segment-top-requires
load_segment-top-requires c =
    let p = c.requires.frames_len in
    let i = c.args.image.now in
    let g = c.in-Some.g in
    let h = c.in-Some.ensures.checked in
    let here = sym c.in-Some.ensures.value in
    let most = perm_at_lem i.setup i.setup_ok (form i) (bytes i) c.loop-i.i g here in
    let u = c.user_segment-recorded.ensures in
    let w = whole c.args.bss g p.3 (laid_of _ g here (laid (goal.at.load_segment-top-requires c).In-loop-i).0) in
    let f = h.file in
    let e = h.end in
    record { frames_len = (omega (arith, p.0, c.loop-i.auto), p.1, p.2, rw u (omega (arith, most))); start_value = (rw u w.start, rw u w.end, rw u w.low, omega (arith, ap length c.file-file.ensures, length-take g.filesz (drop g.offset (bytes i)), f, e)); passed = c.loop-i.invariant.passed }

-- the pages of a place, and then those of the others
on : (c : In-loop-i) (m : Store) → m ≡ place (store c.loop-i.frames c.loop-i.book) c.args.owner (load_pages (bytes c.args.image.now) c.args.bss (segment_at c.args.image.now c.loop-i.i))
    → let i = c.args.image.now in
    place (store c.args.frames.now c.args.book.now) c.args.owner (segment_pages c.args.bss (program i).segments)
    ≡ place m c.args.owner (segment_pages c.args.bss (rest i.setup (form i) (bytes i) (c.loop-i.i + 1)))
on c m e =
    let a = c.args in
    let i = a.image.now in
    let l = c.loop-i in
    let here = segment_at i l.i in
    let others = rest i.setup (form i) (bytes i) (l.i + 1) in
    let before : Store = store l.frames l.book in
    l.invariant.placed
    ∙ ap (λ (gs : List Segment). place before a.owner (segment_pages a.bss gs)) (rest_some i.setup (form i) (bytes i) l.i (more c))
    ∙ ap (place before a.owner) (front-pages (bytes i) a.bss here others)
    ∙ place-append before a.owner (load_pages (bytes i) a.bss here) (segment_pages a.bss others)
    ∙ ap (λ (x : Store). place x a.owner (segment_pages a.bss others)) (sym e)

pub loop-i-preserved : goal.loop-i-preserved
loop-i-preserved c =
    let a = c.args in
    let i = a.image.now in
    let l = c.loop-i in
    let s = (goal.at.loop-i-preserved c).In-loop-i in
    let m : Store = store l.frames l.book in
    record {
      laid_out = (laid s).1;
      placed = on s (store c.match-segment.frames c.match-segment.book)
          (elim c.match-segment.branch [
            | in-Some w ↦ ap₂ store w.frames-is w.book-is
                ∙ w.load_segment-top.ensures.book_after
                ∙ ap (λ (xs : List ℕ). place m a.owner (pages_of (page_bytes (file_at w.in-Some.g.vaddr xs)) (w.user_segment-recorded.result ∷ []))) w.file-file.ensures
                ∙ load-taken m a.owner (bytes i) a.bss _ w.in-Some.g w.user_segment-recorded.result w.in-Some.g.filesz (sym c.segment.ensures.value ∙ w.in-Some.is) w.user_segment-recorded.ensures refl
            | in_default w ↦ ap₂ store w.frames-is w.book-is ∙ place-skip m a.owner (bytes i) a.bss _ (sym c.segment.ensures.value ∙ w.in_default.is)
          ]);
      passed = elim c.match-segment.branch [
        | in-Some w ↦ rw (w.top-is, w.book-is) w.load_segment-top.ensures.passed_2
        | in_default w ↦ rw (w.top-is, w.book-is) l.invariant.passed
      ];
    }

pub returns : goal.returns
returns c =
    let a = c.args in
    let i = a.image.now in
    let l = c.loop-i in
    record { book_after = sym (l.invariant.placed ∙ place-done _ a.owner a.bss _ (rest-none i.setup (form i) (bytes i) l.i (omega (arith, c.loop-i-test.false, c.places-i-end.ensures)))); passed = l.invariant.passed }
