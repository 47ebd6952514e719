-- `install` meets its contract: pages placed, and arguments pushed onto the stack that is among them.
use mathlib.Core.Path.{sym, subst}
use Prim.Native.Nat.{◌-◌}
use Rattle.spec.specs.Frames.{Store}
use Rattle.spec.specs.declared.Setup.{Setup}
use Rattle.pagealloc.specs.Lent.{Mapped}
use Rattle.exec_load.proofs.Installed.{stack-mapped}
use Rattle.exec_load.proofs.installer.install.Goals as goal

pub push_args-requires-clause-mapped : goal.push_args-requires-clause-mapped
push_args-requires-clause-mapped c =
    let n = c.args.number in
    let setup = c.args.plan.now.image.setup in
    subst (λ (s : Setup). Mapped c.load.new.book n (s.ustktop - s.ustksize) s.ustktop) (sym c.setup.ensures)
    (subst (λ (m : Store). Mapped m.book n (setup.ustktop - setup.ustksize) setup.ustktop) (sym c.load.ensures) (stack-mapped _ n c.args.plan.now c.requires.installable))
