-- `exec::fill` meets its contract: too many segments are refused, and otherwise each field is the program's.
-- Assumes nothing.
use mathlib.Core.Path.{◌≡◌, sym, ap, ap₂, ◌∙◌}
use Prim.Native.Nat.{ℕ, ◌+◌, ◌-◌, ◌/◌, ◌^◌, ◌≤◌}
use native.Mathlib.Omega.{arith}
use lib.ListN.{length, take, set}
use Rattle.spec.specs.Numbers.{page_up}
use Rattle.spec.specs.Book.{stack, page_count}
use Rattle.spec.specs.Exec.{program_segments, program_bss, kept}
use Rattle.spec.specs.declared.Setup.{Setup}
use Rattle.spec.specs.declared.UserSegment.{UserSegment}
use Rattle.spec.specs.declared.VirtRange.{VirtRange}
use Rattle.image.specs.Images.{form, bytes, program}
use Rattle.exec.specs.Pages.{recorded, all_recorded}
use Rattle.exec.specs.declared.recorded.Recorded.{Recorded}
use Rattle.exec.proofs.Kept.{some-recorded, too-many}
use Rattle.exec.proofs.Planned.{bss-low, all-pages, few-segments, many-segments, first-ones, with-stack}
use Rattle.exec.proofs.fill.Goals as goal
use Rattle.exec.proofs.fill.Goals.{In-Some, Start}

-- the bss leaves room to round
low : (c : Start) → c.args.bss.start ≤ 2 ^ 64 - 4096
low c =
    let i = c.args.image in
    omega (arith, i.setup_ok, bss-low i.setup (form i) (bytes i) i.setup_ok i.accepted c.requires.laid_out, ap (λ (b : VirtRange). b.start) c.requires.bss_value)

-- what is recorded is the program's
whole : (c : In-Some) → let us = program_segments (program c.args.image) in (length us ≤ 15) × (c.in-Some.recorded ≡ recorded us)
whole c =
    let p = program c.args.image in
    some-recorded (program_segments p) c.in-Some.recorded (c.in-Some.ensures ∙ ap (λ (b : VirtRange). all_recorded (kept b p.segments)) c.requires.bss_value)

pub segments-requires : goal.segments-requires
segments-requires c = record { start_bound = low (goal.at.segments-requires c).Start }

pub page_up-requires : goal.page_up-requires
page_up-requires c = omega (arith, low (goal.at.page_up-requires c).Start)

pub returns-in_default-clause-number : goal.returns-in_default-clause-number
returns-in_default-clause-number c =
    let p = program c.args.image in
    sym (many-segments c.args.image.setup p c.requires.laid_out (too-many (program_segments p) (c.in_default.ensures ∙ ap (λ (b : VirtRange). all_recorded (kept b p.segments)) c.requires.bss_value)))

pub invariant_of-result : goal.invariant_of-result
invariant_of-result c =
    let i = c.args.image in
    let p = program i in
    let us = program_segments p in
    let w = whole (goal.at.invariant_of-result c).In-Some in
    let n : c.in-Some.recorded.count ≡ length us = ap (λ (r : Recorded). r.count) w.1 in
    let first = c.page_count.ensures.0 ∙ ap (λ (r : Recorded). page_count (take r.count r.segments)) w.1 ∙ ap page_count (first-ones i.setup us) in
    let behind = c.pages.ensures.0 ∙ ap (λ (x : ℕ). (c.args.bss.end - x) / 4096) c.page_up.ensures
    ∙ ap (λ (b : VirtRange). (b.end - page_up b.start) / 4096) c.requires.bss_value in
    let last = c.stack.ensures ∙ ap stack c.setup-setup.ensures in
    let size = ap (λ (s : Setup). s.ustksize / 4096) c.setup-setup.ensures in
    record {
      accepted = few-segments i.setup p c.requires.laid_out w.0;
      entered = c.entry.ensures;
      recorded = ap₂ (λ (r : Recorded) (g : UserSegment). set r.segments r.count g) w.1 last ∙ with-stack i.setup p w.0;
      counted = n;
      behind = c.requires.bss_value;
      taken = ap₂ (λ (a b : ℕ). a + b + c.setup-setup.result.ustksize / 4096) first behind ∙ ap (λ (k : ℕ). page_count us + ((program_bss p).end - page_up (program_bss p).start) / 4096 + k) size ∙ sym (all-pages i.setup i.setup_ok p);
    }
