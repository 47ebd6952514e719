-- `is_sound` meets its contract: each no is given where the book isn't sound, and what the last test answers decides.
use Prim.Native.Nat.{◌+◌, ◌-◌, ◌≤◌}
use native.Mathlib.Omega.{arith}
use mathlib.Core.Path.{◌≡◌, sym, ◌∙◌}
use mathlib.Core.Bool.{true, false≢true}
use Rattle.spec.specs.Tests.{all}
use Rattle.spec.specs.Book.{zero_proc, proc_at}
use Rattle.spec.proofs.Bools.{all-at}
use Rattle.spec_laws.proofs.Record.{Whole}
use Rattle.sound_records.proofs.Whole.{whole-told}
use Rattle.sound_records.specs.Records.{passes}
use Rattle.sound_plan.proofs.Passing.{small-parts}
use Rattle.sound.proofs.Planning.{plan}
use Rattle.sound.proofs.Decides.{records-of, made, total_of, decided, sound-exact}
use Rattle.sound.proofs.LookedUp.{table-blank, filled}
use Rattle.sound.proofs.is_sound.Goals as goal
use Rattle.sound.proofs.is_sound.Goals.{After-lengths, Else-not-records_ok}

whole : (c : After-lengths) → Whole c.args.procs.now
whole c = whole-told c.args.procs.now c.lengths.ensures.records c.lengths.ensures.each

-- past the first test the records pass
pass : (c : Else-not-records_ok) → all (passes c.args.setup) c.args.procs.now.all ≡ true
pass c = sym c.records_ok.ensures ∙ c.if-not-records_ok.false

pub returns-then-not-records_ok : goal.returns-then-not-records_ok
returns-then-not-records_ok c =
    record { value = sound-exact c.args.setup c.requires.setup_ok _ _ (whole (goal.at.returns-then-not-records_ok c).After-lengths) _ (λ e. absurd (false≢true e), λ s. sym c.if-not-records_ok.true ∙ c.records_ok.ensures ∙ records-of _ _ (whole (goal.at.returns-then-not-records_ok c).After-lengths) s); filled = λ e. absurd (false≢true e) }

pub lay_all-total-requires : goal.lay_all-total-requires
lay_all-total-requires c =
    let ps = c.args.procs.now in
    let w = whole (goal.at.lay_all-total-requires c).After-lengths in
    λ i h. small-parts c.args.setup c.requires.setup_ok (proc_at ps (i + 1)) (w.each (i + 1 - 1)) (all-at (passes c.args.setup) zero_proc ps.all (pass (goal.at.lay_all-total-requires c).Else-not-records_ok) (i + 1 - 1) (omega (arith, w.records)))

pub returns-then-places-total : goal.returns-then-places-total
returns-then-places-total c =
    let ps = c.args.procs.now in
    record { value = sound-exact c.args.setup c.requires.setup_ok _ _ (whole (goal.at.returns-then-places-total c).After-lengths) _ (λ e. absurd (false≢true e), λ s. absurd (omega (arith, total_of (made c.args.setup c.requires.setup_ok ps (whole (goal.at.returns-then-places-total c).After-lengths) (pass (goal.at.returns-then-places-total c).Else-not-records_ok) _ _ _ c.lay_all-total.ensures) _ s))); filled = λ e. absurd (false≢true e) }

pub mark-requires : goal.mark-requires
mark-requires c =
    let ps = c.args.procs.now in
    (omega arith, plan (made c.args.setup c.requires.setup_ok ps (whole (goal.at.mark-requires c).After-lengths) (pass (goal.at.mark-requires c).Else-not-records_ok) _ _ _ c.lay_all-total.ensures) (omega arith), table-blank c.requires.book_len_bound.1)

pub returns : goal.returns
returns c =
    let ps = c.args.procs.now in
    let most : c.lay_all-total.result ≤ 16384 = omega arith in
    let x = made c.args.setup c.requires.setup_ok ps (whole (goal.at.returns c).After-lengths) (pass (goal.at.returns c).Else-not-records_ok) _ _ _ c.lay_all-total.ensures in
    let r = decided ps _ _ _ x most _ _ _ _ c.mark.ensures in
    record { value = sound-exact c.args.setup c.requires.setup_ok _ _ (whole (goal.at.returns c).After-lengths) _ r; filled = λ q. filled ps _ _ x most _ _ _ c.mark.ensures q (r.0 q) }
