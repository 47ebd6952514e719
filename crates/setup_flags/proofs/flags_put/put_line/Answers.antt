-- `flags_put::put_line` meets its contract: three texts, one behind the other.
-- Assumes nothing.
use Rattle.text.proofs.Behind.{behind}
use Rattle.setup_flags.proofs.flags_put.put_line.Goals as goal

pub returns-clause-puts : goal.returns-clause-puts
returns-clause-puts c = behind (behind c.put.ensures.puts c.put_word.ensures.puts) c.put-2.ensures.puts
