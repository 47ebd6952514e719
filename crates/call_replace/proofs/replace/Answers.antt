-- `replace` meets its contract: a refusal leaves the state as it was, and a plan is entered.
use mathlib.Core.Path.{◌≡◌, sym, subst}
use mathlib.Core.Bool.{true}
use Rattle.spec.specs.Exec.{copy_argv}
use Rattle.spec.specs.Frames.{mem_of, store}
use Rattle.spec.specs.Image.{program_of}
use Rattle.spec.specs.Program.{Program}
use Rattle.spec.specs.World.{State, state_of}
use Rattle.spec.specs.declared.Setup.{Setup}
use Rattle.spec_laws.proofs.Checks.{or-else}
use Rattle.spec_laws.proofs.Record.{Whole}
use Rattle.sound_records.proofs.Whole.{whole-procs}
use Rattle.image.specs.Images.{program}
use Rattle.exec.proofs.Planned.{same-program}
use Rattle.call_front.specs.Numbers.{plain_error}
use Rattle.call_replace.specs.Becoming.{Became}
use Rattle.call_replace.proofs.Freed.{enterable}
use Rattle.call_replace.proofs.Weighed.{replace-refused, replace-goes}
use Rattle.call_replace.proofs.replace.Goals as goal
use Rattle.call_replace.proofs.replace.Goals.{In-Ok}

-- where nothing forbids it
module _ (c : In-Ok) where
  abbrev state : State
  state = state_of c.args.setup c.args.frames.now c.args.book.now c.args.procs

  whole : Whole c.args.procs
  whole = let g = c.well_formed.1.1.1.0.1.1.0 in whole-procs c.args.procs g.0 g.1.1 g.1.0.1

  setup-is : c.in-Ok.plan.image.setup ≡ c.args.setup
  setup-is = c.in-Ok.ensures.planned.setup-same

  program-is : program c.in-Ok.plan.image ≡ program_of c.args.setup c.args.form c.args.image.now
  program-is = same-program c.in-Ok.plan.image c.args.setup c.args.form c.args.image.now c.in-Ok.ensures.planned

pub enter_argv-answer-requires : goal.enter_argv-answer-requires
enter_argv-answer-requires c =
    let d = (goal.at.enter_argv-answer-requires c).In-Ok in
    record {
      ready = c.in-Ok.ensures.ready;
      enterable = enterable c.args.setup c.args.frames.now c.args.book.now c.args.procs c.args.number (whole d) (or-else (plain_error (state d) c.args.number true) _ (sym c.in-Ok.ensures.value)).0 c.in-Ok.plan (setup-is d);
    }

pub returns-in-Ok : goal.returns-in-Ok
returns-in-Ok c =
    let a = c.args in
    let d = (goal.at.returns-in-Ok c).In-Ok in
    let r = c.enter_argv-answer in
    let became : Setup → Program → Type 0 = λ u p. Became (state_of u a.frames.now a.book.now a.procs) a.number p a.name.now (copy_argv u (mem_of (store a.frames.now a.book.now) a.number) a.argv) (state_of u r.new.frames r.new.book r.new.procs) r.result in
    replace-goes (state d) a.number a.form a.image.now a.name.now a.argv c.in-Ok.ensures.value _ _
    (subst (λ (u : Setup). became u (program_of a.setup a.form a.image.now)) (setup-is d) (subst (λ (p : Program). became c.in-Ok.plan.image.setup p) (program-is d) r.ensures))

pub returns-in-Err : goal.returns-in-Err
returns-in-Err c =
    let a = c.args in
    rw c.from-answer.ensures (replace-refused (state_of a.setup a.frames.now a.book.now a.procs) a.number a.form a.image.now a.name.now a.argv c.in-Err.e c.in-Err.ensures.value)
