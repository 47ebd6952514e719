-- `start` meets its contract: a refusal leaves the state as it was, and a start that nothing forbids installs its plan.
use native.Mathlib.Omega.{arith}
use mathlib.Core.Path.{◌≡◌, sym, ap, ap₂, subst, ◌∙◌}
use mathlib.Core.Bool.{true, not}
use Prim.Native.Nat.{ℕ, ◌≤◌}
use lib.ListN.{length}
use borrow.Author.Tests.{eqb-true}
use Rattle.spec.specs.Tests.{◌is◌, sum}
use Rattle.spec.specs.Book.{free, page_count}
use Rattle.spec.specs.Frames.{Store, store}
use Rattle.spec.specs.Sound.{Mappings}
use Rattle.spec.specs.Exec.{args_of, args_error, registers, start_pieces}
use Rattle.spec.specs.Image.{program_of}
use Rattle.spec.specs.Program.{Program}
use Rattle.spec.specs.World.{State, state_of, Does, taken, set_proc, proc_of}
use Rattle.spec.specs.Machine.{start, plainly, call}
use Rattle.spec.specs.declared.UserRegs.{UserRegs}
use Rattle.spec.specs.declared.Setup.{Setup}
use Rattle.spec.specs.declared.Answer.TheVariants.{Regs}
use Rattle.spec_laws.proofs.Record.{Whole}
use Rattle.sound_records.proofs.Whole.{whole-procs}
use Rattle.image.specs.Images.{program}
use Rattle.exec.proofs.Planned.{same-program}
use Rattle.exec_load.specs.Installing.{Installable, installed}
use Rattle.exec_load.proofs.Installed.{plan-record}
use Rattle.call_front.proofs.FirstNumbers.{Passed, begin-none, sizes-words}
use Rattle.call_front.proofs.Living.{passed-sound}
use Rattle.call_front.proofs.States.{state-is}
use Rattle.call_start.proofs.Weighing.{Weighed, weighed, start-refused, start-goes, free-empty}
use Rattle.call_start.proofs.start.Goals as goal
use Rattle.call_start.proofs.start.Goals.{In-Ok}

-- a plan is installed under the setup that it was made under
module _ (c : In-Ok) where
  abbrev state : State
  state = state_of c.args.setup c.args.frames.now c.args.book.now c.args.procs

  all : Weighed state c.args.number c.args.form c.args.image.now c.args.bytes.now c.args.lengths.now
  all = weighed state c.args.number c.args.form c.args.image.now c.args.bytes.now c.args.lengths.now c.in-Ok.ensures.value

  passed : Passed state c.args.number (sum c.args.lengths.now is length c.args.bytes.now) × (not (taken state c.args.number) ≡ true)
  passed = begin-none state c.args.number (sum c.args.lengths.now is length c.args.bytes.now) all.first

  whole : Whole c.args.procs
  whole = let g = c.well_formed.1.1.1.0.1.1.0 in whole-procs c.args.procs g.0 g.1.1 g.1.0.1

  setup-is : c.in-Ok.plan.image.setup ≡ c.args.setup
  setup-is = c.in-Ok.ensures.planned.setup-same

  program-is : program c.in-Ok.plan.image ≡ program_of c.args.setup c.args.form c.args.image.now
  program-is = same-program c.in-Ok.plan.image c.args.setup c.args.form c.args.image.now c.in-Ok.ensures.planned

  args-pass : args_error c.in-Ok.plan.image.setup (args_of c.args.bytes.now c.args.lengths.now) ≡ 0
  args-pass = ap (λ (u : Setup). args_error u (args_of c.args.bytes.now c.args.lengths.now)) setup-is ∙ all.passed

  installable : Installable (store c.args.frames.now c.args.book.now) c.args.number c.in-Ok.plan
  installable =
      let n = passed in
      let w = sizes-words c.args.frames.now c.args.book.now n.0.sizes in
      let fits = sum c.args.lengths.now is length c.args.bytes.now in
      record {
        sizes = w.0;
        words = w.3;
        mappings = rw setup-is (passed-sound state c.args.number fits whole n.0).mappings;
        number = n.0.number;
        empty = free-empty state c.args.number fits whole n.0 n.1;
        room = rw (program-is, setup-is) all.room;
      }

pub install_with-regs-requires : goal.install_with-regs-requires
install_with-regs-requires c =
    let d = (goal.at.install_with-regs-requires c).In-Ok in
    record { installable = installable d; lengths_value = (eqb-true _ _ (passed d).0.lengths, args-pass d) }

pub with_proc-requires : goal.with_proc-requires
with_proc-requires c = (passed (goal.at.with_proc-requires c).In-Ok).0.number

pub returns-in-Ok : goal.returns-in-Ok
returns-in-Ok c =
    let a = c.args in
    let d = (goal.at.returns-in-Ok c).In-Ok in
    let m : Store = store a.frames.now a.book.now in
    let args = args_of a.bytes.now a.lengths.now in
    let regs = c.install_with-regs.ensures.value ∙ ap₂ (λ (p : Program) (u : Setup). registers p.entry u.ustktop args) (program-is d) (setup-is d) in
    subst (λ (r : UserRegs). Does (state d) (call a.number (start a.form a.image.now a.name.now a.bytes.now a.lengths.now)) (state_of a.setup c.install_with-regs.new.frames c.install_with-regs.new.book c.with_proc.result) (plainly (Regs r))) (sym regs)
    (start-goes (state d) a.number a.form a.image.now a.bytes.now a.lengths.now a.name.now c.in-Ok.ensures.value _
    (state-is a.setup _ _ c.with_proc.result _
    (c.install_with-regs.ensures.book_after ∙ ap₂ (λ (u : Setup) (p : Program). installed u m a.number p args) (setup-is d) (program-is d))
    (c.with_proc.ensures ∙ ap (set_proc a.procs a.number) (c.record_of.ensures ∙ plan-record c.in-Ok.plan a.name.now ∙ ap₂ (λ (u : Setup) (p : Program). proc_of u p a.name.now) (setup-is d) (program-is d)))))

pub returns-in-Err : goal.returns-in-Err
returns-in-Err c =
    let a = c.args in
    rw c.refused.ensures (start-refused (state_of a.setup a.frames.now a.book.now a.procs) a.number a.form a.image.now a.bytes.now a.lengths.now a.name.now c.in-Err.e c.in-Err.ensures.value)
