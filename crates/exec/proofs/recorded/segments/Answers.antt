-- `recorded::segments` meets its contract: a turn records what one place adds.
-- Assumes nothing.
use mathlib.Core.Path.{◌≡◌, sym, ap, ◌∙◌}
use mathlib.Core.List.{List, [], ◌++◌, append_assoc}
use Prim.Native.Nat.{◌+◌, ◌<◌}
use native.Mathlib.Omega.{arith}
use Rattle.std.specs.Prelude.{Option, None, Some, replicate}
use Rattle.spec.specs.Book.{zero_segment}
use Rattle.spec.specs.Exec.{kept}
use Rattle.spec.specs.declared.UserSegment.{UserSegment}
use Rattle.spec.specs.declared.VirtRange.{VirtRange}
use Rattle.elf.specs.declared.Segment.{Segment as Held}
use Rattle.image.specs.Images.{form, bytes, program, place_count, segment_at}
use Rattle.image.proofs.Places.{rest, rest_all, rest_some, rest-none}
use Rattle.exec.specs.Pages.{pages_in, pushed, recorded_with, all_recorded}
use Rattle.exec.specs.declared.recorded.Recorded.{Recorded}
use Rattle.exec.proofs.Kept.{added, kept-front, record-front, few, some-recorded, none-recorded}
use Rattle.exec.proofs.recorded.segments.Goals as goal
use Rattle.exec.proofs.recorded.segments.Goals.{In-loop-i, in-Some+in_ok-push, in_default}

pub loop-i-init : goal.loop-i-init
loop-i-init c =
    let i = c.args.image.now in
    let d = c.default.ensures in
    let zero : c.default.result ≡ zero_segment = λ j. record { range = record { start = d.0.0 j; end = d.0.1 j }; perm = d.1 j } in
    ([], ap (kept c.args.bss) (sym (rest_all i.setup (form i) (bytes i))), ap (λ (u : UserSegment). record { segments = replicate 16 u; count = 0 }) zero, omega arith)

module _ (c : In-loop-i) where
  abbrev here : Option Held
  here = segment_at c.args.image.now c.loop-i.i

  abbrev new : List UserSegment
  new = added (bytes c.args.image.now) c.args.bss here

  abbrev others : List UserSegment
  others = let i = c.args.image.now in kept c.args.bss (rest i.setup (form i) (bytes i) (c.loop-i.i + 1))

  -- what is left is what this place adds, and the others
  whole : kept c.args.bss (program c.args.image.now).segments ≡ (c.loop-i.invariant.0 ++ new) ++ others
  whole =
      let i = c.args.image.now in
      let l = c.loop-i in
      let done = l.invariant.0 in
      let more : l.i < place_count i = omega (arith, c.loop-i-test.true, c.places-i-end.ensures) in
      l.invariant.1
      ∙ ap (λ (us : List UserSegment). done ++ us) (ap (kept c.args.bss) (rest_some i.setup (form i) (bytes i) l.i more) ∙ kept-front (bytes i) c.args.bss here _)
      ∙ sym (append_assoc done new others)

  -- a turn, whatever the place comes to
  turn : (r : Option Recorded) → r ≡ recorded_with c.args.bss c.loop-i.seen here → r ≡ all_recorded (c.loop-i.invariant.0 ++ new)
  turn r e =
      let l = c.loop-i in
      e ∙ ap (λ (q : Recorded). recorded_with c.args.bss q here) l.invariant.2 ∙ record-front (bytes c.args.image.now) c.args.bss l.invariant.0 here l.invariant.3

-- a place's segment, as it is recorded
read : (bss : VirtRange) (before : Recorded) (u : UserSegment) (g : Held) (here : Option Held) (r : Option Recorded) → r ≡ pushed before u → u ≡ pages_in bss g → Some g ≡ here → r ≡ recorded_with bss before here
read bss before u g here r e v h = e ∙ ap (pushed before) v ∙ ap (recorded_with bss before) h

pub returns-in_err-push : goal.returns-in_err-push
returns-in_err-push c =
    let s = (goal.at.returns-in_err-push c).In-loop-i in
    let u = c.user_segment in
    c.from_residual.ensures
    ∙ none-recorded _ _ (turn s None (read c.args.bss c.loop-i.seen u.result c.in-Some.g (here s) None c.in_err-push.ensures u.ensures c.in-Some.ensures.value))
    ∙ ap all_recorded (sym (whole s))

pub loop-i-preserved : goal.loop-i-preserved
loop-i-preserved c =
    let s = (goal.at.loop-i-preserved c).In-loop-i in
    let next = c.match-segment.seen in
    let e : Some next ≡ recorded_with c.args.bss c.loop-i.seen (here s) =
    elim c.match-segment.branch [
      | in-Some+in_ok-push w ↦ ap Some w.seen-is ∙ read c.args.bss c.loop-i.seen w.user_segment.result w.in-Some.g (here s) (Some w.push.new.self) w.in_ok-push.ensures w.user_segment.ensures (sym w.in-Some.is ∙ c.segment.ensures.value)
      | in_default w ↦ ap Some w.seen-is ∙ ap (recorded_with c.args.bss c.loop-i.seen) (sym w.in_default.is ∙ c.segment.ensures.value)
    ] in
    let r = some-recorded _ next (turn s (Some next) e) in
    (c.loop-i.invariant.0 ++ new s, whole s, r.1, r.0)

pub returns : goal.returns
returns c =
    let i = c.args.image.now in
    let l = c.loop-i in
    let none = rest-none i.setup (form i) (bytes i) l.i (omega (arith, c.loop-i-test.false, c.places-i-end.ensures)) in
    ap Some l.invariant.2 ∙ few l.invariant.0 l.invariant.3 ∙ ap all_recorded (sym (l.invariant.1 ∙ ap (λ (us : List UserSegment). l.invariant.0 ++ us) (ap (kept c.args.bss) none)))
