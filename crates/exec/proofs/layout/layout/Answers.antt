-- `layout::layout` meets its contract: a turn is a segment of the layout.
-- Assumes nothing.
use mathlib.Core.Path.{◌≡◌, sym, ap, ◌∙◌}
use Prim.Native.Nat.{ℕ, ◌+◌, ◌<◌}
use native.Mathlib.Omega.{arith}
use Rattle.std.specs.Prelude.{Option, None, Some}
use Rattle.spec.specs.declared.Setup.{Setup}
use Rattle.elf.specs.declared.Segment.{Segment}
use Rattle.image.specs.declared.Image.{Image}
use Rattle.image.specs.Images.{form, bytes, program, place_count, segment_at}
use Rattle.image.proofs.Places.{rest, rest_all, within-at}
use Rattle.exec.specs.Fits.{fit_of, nothing, fits}
use Rattle.exec.specs.declared.layout.Laid.{Laid}
use Rattle.exec.proofs.Fitted.{then, fits-some, fits-end, no-layout, whole-layout}
use Rattle.exec.proofs.layout.layout.Goals as goal
use Rattle.exec.proofs.layout.layout.Goals.{In-loop-i, in-Some+in_ok-seen, in_default}

pub loop-i-init : goal.loop-i-init
loop-i-init c =
    let i = c.args.image.now in
    let d = c.default-seen.ensures in
    let start : nothing ≡ c.default-seen.result = sym (λ j. record { closed = d.0 j; bss = record { start = d.1.0 j; end = d.1.1 j } }) in
    ap (fits i.setup nothing) (sym (rest_all i.setup (form i) (bytes i))) ∙ ap (λ (l : Laid). fits i.setup l (rest i.setup (form i) (bytes i) 0)) start

-- a turn, whatever the place comes to
on : (c : In-loop-i) (f : Option Laid) → f ≡ fit_of c.args.image.now.setup c.loop-i.seen (segment_at c.args.image.now c.loop-i.i)
    → let i = c.args.image.now in
    fits i.setup nothing (program i).segments ≡ then i.setup f (rest i.setup (form i) (bytes i) (c.loop-i.i + 1))
on c f e =
    let i = c.args.image.now in
    let l = c.loop-i in
    let more : l.i < place_count i = omega (arith, c.loop-i-test.true, c.places-i-end.ensures) in
    l.invariant ∙ fits-some i.setup (form i) (bytes i) l.i l.seen f more (within-at i.setup (form i) (bytes i) l.i i.accepted more) e

-- a place's segment, as it is laid
read : (i : Image) (k : ℕ) (s : Setup) (before : Laid) (g : Segment) (r : Option Laid) → r ≡ fit_of s before (Some g) → s ≡ i.setup → Some g ≡ segment_at i k → r ≡ fit_of i.setup before (segment_at i k)
read i k s before g r e u h = e ∙ ap (λ (x : Setup). fit_of x before (Some g)) u ∙ ap (fit_of i.setup before) h

pub returns-in_err-seen : goal.returns-in_err-seen
returns-in_err-seen c =
    let i = c.args.image.now in
    c.from_residual.ensures
    ∙ sym (no-layout i.setup (program i).segments (on (goal.at.returns-in_err-seen c).In-loop-i None
    (read i c.loop-i.i c.setup.result c.loop-i.seen c.in-Some.g None c.in_err-seen.ensures c.setup.ensures c.in-Some.ensures.value)))

pub loop-i-preserved : goal.loop-i-preserved
loop-i-preserved c =
    let i = c.args.image.now in
    let l = c.loop-i in
    on (goal.at.loop-i-preserved c).In-loop-i (Some c.match-segment.seen)
    (elim c.match-segment.branch [
      | in-Some+in_ok-seen w ↦ ap Some w.seen-is ∙ read i l.i w.setup.result l.seen w.in-Some.g (Some w.in_ok-seen.seen) w.in_ok-seen.ensures w.setup.ensures (sym w.in-Some.is ∙ c.segment.ensures.value)
      | in_default w ↦ ap Some w.seen-is ∙ ap (fit_of i.setup l.seen) (sym w.in_default.is ∙ c.segment.ensures.value)
    ])

pub returns : goal.returns
returns c =
    let i = c.args.image.now in
    let l = c.loop-i in
    sym (whole-layout i.setup (program i).segments l.seen (l.invariant ∙ fits-end i.setup (form i) (bytes i) l.i l.seen (omega (arith, c.loop-i-test.false, c.places-i-end.ensures))))
