-- `list_ready` meets its contract: the numbers that come first, the list's 2 among them, then the parent's pages are counted.
use native.Mathlib.Omega.{arith}
use mathlib.Core.Path.{◌≡◌, refl, sym, ap, ◌∙◌}
use mathlib.Core.Bool.{Bool, true, not, ◌&&◌}
use mathlib.Core.List.{List, [], ◌∷◌, ◌++◌}
use borrow.Author.Rules.{rules}
use Rattle.spec.specs.Tests.{same}
use Rattle.spec.specs.Book.{valid, same_segment, used, bss_segment, page_count, proc_at, pieces_of, data_only}
use Rattle.spec.specs.Refusals.{refusal_number, number_of}
use Rattle.spec.specs.Sound.{Shape}
use Rattle.spec.specs.World.{State, state_of}
use Rattle.spec.specs.declared.UserSegment.{UserSegment}
use Rattle.spec.specs.declared.Proc.{Proc}
use Rattle.spec.proofs.Refused.{refused-not-0}
use Rattle.spec.proofs.Setups.{setup-means}
use Rattle.spec_laws.proofs.Record.{Whole}
use Rattle.sound_records.proofs.Whole.{whole-told}
use Rattle.sound.proofs.LookedUp.{ready_of}
use Rattle.call_front.proofs.FirstNumbers.{Forks, fork-none}
use Rattle.call_front.proofs.Living.{living-shape}
use Rattle.call_fork.specs.ByList.{list_error}
use Rattle.call_fork.proofs.Forked.{data-own}
use Rattle.call_fork.proofs.Judged.{list-checked, list-given, list-none, too_few, enough}
use Rattle.call_fork.proofs.by_list.list_ready.Goals as goal
use Rattle.call_fork.proofs.by_list.list_ready.Goals.{After-list_checked, In_ok-list_checked, After-data_pages}

-- the number of a fork's first checks and its list's
module _ (c : After-list_checked) where
  abbrev state : State
  state = state_of c.args.setup c.args.frames.now c.args.book.now c.args.procs.now

  abbrev alike : Bool
  alike = same same_segment c.args.segments.now (used (proc_at c.args.procs.now c.args.number).segments)

  torn-is : c.is_torn.result ≡ (valid c.args.number && not alike)
  torn-is = c.is_torn.ensures ∙ ap (λ (p : Proc). valid c.args.number && not (same same_segment c.args.segments.now (used p.segments))) c.recorded-p.ensures

  listed : number_of c.list_checked.result ≡ list_error state c.args.number c.args.child alike
  listed = list-checked state c.args.number c.args.child alike _ _ _ c.fork_ready-first.ensures.value torn-is c.list_checked.ensures

-- where there is none
module _ (c : In_ok-list_checked) where
  abbrev at : After-list_checked
  at = (goal.at.In_ok-list_checked c).After-list_checked

  none : 0 ≡ list_error (state at) c.args.number c.args.child (alike at)
  none = let z : number_of c.list_checked.result ≡ 0 = search rules in sym z ∙ listed at

  first-none : number_of c.fork_ready-first.result ≡ 0
  first-none = c.fork_ready-first.ensures.value ∙ list-none (state at) c.args.number c.args.child (alike at) (sym none)

  forks : Forks (state at) c.args.number c.args.child
  forks = fork-none (state at) c.args.number c.args.child (list-none (state at) c.args.number c.args.child (alike at) (sym none))

  whole : Whole c.args.procs.now
  whole = whole-told c.args.procs.now c.lengths.ensures.records c.lengths.ensures.each

  shape : (image : List UserSegment) × Shape c.args.setup (proc_at c.args.procs.now c.args.number) image
  shape = living-shape (state at) c.args.number true whole forks.passed forks.parent

-- the count is the specification's
counted : (c : After-data_pages) → c.data_pages.result ≡ page_count (data_only (pieces_of (proc_at c.args.procs.now c.args.number)))
counted c =
    let h = shape (goal.at.After-data_pages c).In_ok-list_checked in
    c.data_pages.ensures ∙ ap (λ (p : Proc). page_count (data_only (p.segments ++ bss_segment p.bss ∷ []))) c.recorded-p.ensures
    ∙ ap page_count (data-own (proc_at c.args.procs.now c.args.number) h.0 h.1)

pub returns-in_err-list_checked-clause-value : goal.returns-in_err-list_checked-clause-value
returns-in_err-list_checked-clause-value c =
    let a = (goal.at.returns-in_err-list_checked-clause-value c).After-list_checked in
    let e = c.in_err-list_checked in
    let is : number_of c.from_residual.result ≡ refusal_number e.field-0.0 = search rules in
    let was : number_of c.list_checked.result ≡ refusal_number e.field-0.0 = search rules in
    list-given (state a) c.args.number c.args.child (alike a) (number_of c.from_residual.result) (is ∙ sym was ∙ listed a) (λ z. refused-not-0 e.field-0.0 (sym is ∙ z))

pub data_pages-requires : goal.data_pages-requires
data_pages-requires c =
    let d = (goal.at.data_pages-requires c).In_ok-list_checked in
    let b = (shape d).1 in
    rw c.recorded-p.ensures (omega (arith, b.bss-order, b.bss-end.1, setup-means c.args.setup (forks d).passed.setup))

pub returns-then-data_pages-free_count-clause-value : goal.returns-then-data_pages-free_count-clause-value
returns-then-data_pages-free_count-clause-value c =
    let d = (goal.at.returns-then-data_pages-free_count-clause-value c).In_ok-list_checked in
    let n = counted (goal.at.returns-then-data_pages-free_count-clause-value c).After-data_pages in
    too_few (state (at d)) c.args.number c.args.child (alike (at d)) 0 (none d) refl (omega (arith, n, c.free_count.ensures, c.if-data_pages-free_count.true))

pub returns-clause-value : goal.returns-clause-value
returns-clause-value c =
    let d = (goal.at.returns-clause-value c).In_ok-list_checked in
    let n = counted (goal.at.returns-clause-value c).After-data_pages in
    enough (state (at d)) c.args.number c.args.child (alike (at d)) 0 (none d) refl (omega (arith, n, c.free_count.ensures, c.if-data_pages-free_count.false))

pub returns-clause-ready : goal.returns-clause-ready
returns-clause-ready c = ready_of c.fork_ready-first.ensures.leaves (first-none (goal.at.returns-clause-ready c).In_ok-list_checked)
