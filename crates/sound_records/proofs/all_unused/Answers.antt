-- `all_unused` meets its contract.
use Rattle.std.proofs.Common.{rules, tests, ◌∙◌, sym}
use Rattle.std.proofs.lemmas.Iterator.{YieldsList-from_slice}
use Rattle.std.proofs.lemmas.Iterator.Search.{all_from_yields_List}
use Rattle.spec.specs.Book.{unused}
use Rattle.sound_records.proofs.Walk.{all-list}
use Rattle.sound_records.proofs.all_unused.Goals as goal

pub returns : goal.returns
returns c =
    all_from_yields_List unused _ _ c.all.result c.all.ensures.ran (YieldsList-from_slice c.args.segments.now cc) (λ x b q k. search (rules, tests)) ∙ sym (all-list unused c.args.segments.now)
