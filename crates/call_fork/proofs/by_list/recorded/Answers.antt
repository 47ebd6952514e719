-- `recorded` meets its contract: past the last record stands the zero record.
use Rattle.std.proofs.Common.{arith, ◌-◌, sym, ◌∙◌}
use Rattle.std.proofs.lemmas.List.{get_or_past}
use Rattle.spec.specs.Book.{zero_proc}
use Rattle.call_fork.proofs.by_list.recorded.Goals as goal

pub returns-in-None : goal.returns-in-None
returns-in-None c =
    c.zero_proc.ensures ∙ sym (get_or_past c.args.procs.now.all (c.args.number - 1) zero_proc (omega (arith, c.in-None.ensures.lookup.3, c.saturating_sub.ensures)))
