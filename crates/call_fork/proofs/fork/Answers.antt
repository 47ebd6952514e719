-- `fork` meets its contract: it is a fork with the record's own list.
use mathlib.Core.Path.{ap, subst, ◌∙◌}
use mathlib.Core.List.{List}
use Rattle.spec.specs.Book.{used}
use Rattle.spec.specs.Machine.{fork, plainly, call}
use Rattle.spec.specs.World.{Does, state_of}
use Rattle.spec.specs.declared.Proc.{Proc}
use Rattle.spec.specs.declared.UserSegment.{UserSegment}
use Rattle.call_fork.proofs.fork.Goals as goal

pub returns : goal.returns
returns c =
    let a = c.args in
    let r = c.fork_by-answer in
    subst (λ (gs : List UserSegment). Does (state_of a.setup a.frames.now a.book.now a.procs) (call a.number (fork a.child gs)) (state_of a.setup r.new.frames r.new.book r.new.procs) (plainly r.result))
    (c.used.ensures ∙ ap (λ (p : Proc). used p.segments) c.recorded-p.ensures) r.ensures
