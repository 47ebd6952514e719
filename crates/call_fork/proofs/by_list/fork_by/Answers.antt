-- `fork_by` meets its contract: a refusal leaves the state as it was, and a fork that nothing forbids leaves the copy.
use mathlib.Core.Path.{◌≡◌, refl, sym, ap, ◌∙◌}
use mathlib.Core.Bool.{true}
use Rattle.spec.specs.Tests.{same}
use Rattle.spec.specs.Book.{same_segment, used, proc_at}
use Rattle.spec.specs.Frames.{store}
use Rattle.spec.specs.World.{State, state_of, set_proc}
use Rattle.spec_laws.proofs.Held.{valid-low, valid-high}
use Rattle.spec_laws.proofs.Record.{Whole}
use Rattle.sound_records.proofs.Whole.{whole-told}
use Rattle.call_front.specs.Numbers.{fork_error}
use Rattle.call_front.proofs.FirstNumbers.{Forks, fork-none}
use Rattle.call_front.proofs.States.{state-is}
use Rattle.call_fork.proofs.Told.{holders-most}
use Rattle.call_fork.proofs.Answered.{number-none, list-refused, list_done}
use Rattle.call_fork.proofs.Finished.{asks-numbers, asks-segments, asks-bss, asks-told, copied-is}
use Rattle.call_fork.proofs.by_list.fork_by.Goals as goal
use Rattle.call_fork.proofs.by_list.fork_by.Goals.{In-Ok, After-share_pages}

-- a refusal, by its number
pub returns-in-Err : goal.returns-in-Err
returns-in-Err c =
    let a = c.args in
    let s : State = state_of a.setup a.frames.now a.book.now a.procs.now in
    list-refused s a.number a.child a.segments.now c.in-Err.e c.in-Err.ensures.value s c.from.result refl c.from.ensures

-- where nothing forbids it
module _ (c : In-Ok) where
  abbrev state : State
  state = state_of c.args.setup c.args.frames.now c.args.book.now c.args.procs.now

  none : (fork_error state c.args.number c.args.child ≡ 0) × (same same_segment c.args.segments.now (used (proc_at c.args.procs.now c.args.number).segments) ≡ true)
  none = number-none state c.args.number c.args.child c.args.segments.now (sym c.in-Ok.ensures.value)

  forks : Forks state c.args.number c.args.child
  forks = fork-none state c.args.number c.args.child none.0

  whole : Whole c.args.procs.now
  whole = whole-told c.args.procs.now c.lengths.ensures.records c.lengths.ensures.each

pub share_pages-requires : goal.share_pages-requires
share_pages-requires c =
    let f = forks (goal.at.share_pages-requires c).In-Ok in
    record {
      le_parent = (valid-low _ f.passed.number, valid-high _ f.passed.number, valid-low _ f.second, valid-high _ f.second);
      by_index = holders-most c.args.book.now c.in-Ok.ensures.ready.mappings;
    }

pub copy_segments-requires : goal.copy_segments-requires
copy_segments-requires c =
    let a = c.args in
    let d = (goal.at.copy_segments-requires c).In-Ok in
    let n = none d in
    let shared = c.share_pages.ensures a.frames.now in
    let b = asks-bss a.setup a.frames.now a.book.now c.share_pages.new.book a.procs.now a.number a.child a.segments.now c.list_ready.new.lookup (whole d) n.0 c.in-Ok.ensures.ready shared n.1 in
    record {
      frames_len = asks-numbers a.setup a.frames.now a.book.now c.share_pages.new.book a.procs.now a.number a.child a.segments.now c.list_ready.new.lookup (whole d) n.0 c.in-Ok.ensures.ready shared n.1;
      by_index = asks-segments a.setup a.frames.now a.book.now c.share_pages.new.book a.procs.now a.number a.child a.segments.now c.list_ready.new.lookup (whole d) n.0 c.in-Ok.ensures.ready shared n.1;
      bss = rw c.in-Ok.ensures.record_is b;
      told = asks-told a.setup a.frames.now a.book.now c.share_pages.new.book a.procs.now a.number a.child a.segments.now c.list_ready.new.lookup (whole d) n.0 c.in-Ok.ensures.ready shared n.1;
    }

pub set_proc-requires : goal.set_proc-requires
set_proc-requires c = (forks (goal.at.set_proc-requires c).In-Ok).second

pub returns-in-Ok : goal.returns-in-Ok
returns-in-Ok c =
    let a = c.args in
    let d = (goal.at.returns-in-Ok c).In-Ok in
    let n = none d in
    let q = c.in-Ok.ensures.record_is in
    let t = store c.copy_segments.new.frames c.copy_segments.new.book in
    list_done (state d) a.number a.child a.segments.now c.in-Ok.ensures.value (state_of a.setup c.copy_segments.new.frames c.copy_segments.new.book c.set_proc.new.procs)
    (state-is a.setup t _ c.set_proc.new.procs _
    (copied-is a.setup a.frames.now a.book.now c.share_pages.new.book a.procs.now a.number a.child a.segments.now c.list_ready.new.lookup (whole d) n.0 c.in-Ok.ensures.ready (c.share_pages.ensures a.frames.now) n.1 t (rw q at c.copy_segments.ensures))
    (c.set_proc.ensures ∙ ap (set_proc a.procs.now a.child) q))
