-- `records_ok` meets its contract.
use Rattle.std.proofs.Common.{rules, tests, ◌∙◌, sym}
use Rattle.std.proofs.lemmas.Iterator.{YieldsList-from_slice}
use Rattle.std.proofs.lemmas.Iterator.Search.{all_from_yields_List}
use Rattle.sound_records.specs.Records.{passes}
use Rattle.sound_records.proofs.Walk.{all-list}
use Rattle.sound_records.proofs.records_ok.Goals as goal

pub returns : goal.returns
returns c =
    all_from_yields_List (passes c.args.setup) _ _ c.all.result c.all.ensures.ran (YieldsList-from_slice c.args.procs.now.all cc) (λ x b q k. search (rules, tests)) ∙ sym (all-list (passes c.args.setup) c.args.procs.now.all)
