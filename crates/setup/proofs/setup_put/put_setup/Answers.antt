-- `setup_put::put_setup` meets its contract: four lines, one behind the other.
-- Assumes nothing.
use Rattle.text.proofs.Behind.{behind, same_text}
use Rattle.setup.proofs.Texts.{lines_are}
use Rattle.setup.proofs.setup_put.put_setup.Goals as goal

pub returns-clause-puts : goal.returns-clause-puts
returns-clause-puts c =
    same_text (lines_are c.args.setup)
    (behind (behind (behind c.put_field.ensures.puts c.put_field-2.ensures.puts) c.put_field-3.ensures.puts) c.put_field-4.ensures.puts)
