-- `segment_lines::put_line` meets its contract: three texts, one behind the other.
-- Assumes nothing.
use Rattle.text.proofs.Behind.{behind}
use Rattle.listing_lines.proofs.segment_lines.put_line.Goals as goal

pub returns-clause-puts : goal.returns-clause-puts
returns-clause-puts c = behind (behind c.put.ensures.puts c.put_kind.ensures.puts) c.put_span.ensures.puts
