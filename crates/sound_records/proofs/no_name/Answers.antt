-- `no_name` meets its contract.
use Rattle.std.proofs.Common.{rules, tests, ◌∙◌, sym}
use Rattle.std.proofs.lemmas.Iterator.{YieldsList-from_slice}
use Rattle.std.proofs.lemmas.Iterator.Search.{all_from_yields_List}
use Rattle.spec.specs.Tests.{◌is◌}
use Rattle.sound_records.proofs.Walk.{all-list}
use Rattle.sound_records.proofs.no_name.Goals as goal

pub returns : goal.returns
returns c =
    all_from_yields_List (λ b. b is 0) _ _ c.all.result c.all.ensures.ran (YieldsList-from_slice c.args.text.now cc) (λ x b q k. search (rules, tests)) ∙ sym (all-list (λ b. b is 0) c.args.text.now)
