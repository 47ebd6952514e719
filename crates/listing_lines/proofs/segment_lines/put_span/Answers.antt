-- `segment_lines::put_span` meets its contract: four texts, one behind the other.
-- Assumes nothing.
use Rattle.text.proofs.Behind.{behind, same_text}
use Rattle.listing_lines.proofs.Parts.{span-text}
use Rattle.listing_lines.proofs.segment_lines.put_span.Goals as goal

pub returns-clause-puts : goal.returns-clause-puts
returns-clause-puts c =
    same_text (span-text c.args.r) (behind (behind (behind c.put_decimal.ensures.puts c.put.ensures.puts) c.put_decimal-2.ensures.puts) c.put-2.ensures.puts)
