-- `lay_all` meets its contract: the parts of the first n processes are laid.
use native.Mathlib.Omega.{arith}
use borrow.Author.Rules.{rules}
use lib.ListN.{length}
use Rattle.sound_records.proofs.Whole.{proc-is}
use Rattle.sound_plan.proofs.Laying.{laidto-none, laidto-more, laid-all}
use Rattle.sound_plan.proofs.Plan.lay_all.Goals as goal
use mathlib.Core.Path.{◌≡◌}

pub loop-n-init : goal.loop-n-init
loop-n-init c = laidto-none _ _ _ (search rules) (search rules)

pub lay-t-requires : goal.lay-t-requires
lay-t-requires c =
    let l = c.loop-n in
    let e : length c.args.procs.now.all ≡ 16 = c.lengths.ensures.records in (
      omega arith,
      rw (proc-is c.args.procs.now l.n (omega arith)) (c.requires l.n (omega arith)),
      l.invariant.bound,
    )

pub loop-n-preserved : goal.loop-n-preserved
loop-n-preserved c =
    let l = c.loop-n in
    let e : length c.args.procs.now.all ≡ 16 = c.lengths.ensures.records in
    laidto-more _ l.n _ _ _ _ _ _ _ (proc-is c.args.procs.now l.n (omega arith)) l.invariant c.lay-t.ensures

pub returns : goal.returns
returns c =
    let e : length c.args.procs.now.all ≡ 16 = c.lengths.ensures.records in
    laid-all _ _ _ _ c.loop-n.n (omega arith) c.loop-n.invariant
