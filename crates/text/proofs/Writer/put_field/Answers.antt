-- `text::put_field` meets its contract: three texts, one behind the other.
-- Assumes nothing.
use native.Mathlib.Omega.{arith}
use Rattle.text.proofs.Behind.{behind}
use Rattle.text.proofs.Writer.put_field.Goals as goal

pub returns-clause-puts : goal.returns-clause-puts
returns-clause-puts c = behind (behind c.put.ensures.puts c.put_decimal.ensures.puts) c.put-2.ensures.puts

pub returns-clause-upper_bound : goal.returns-clause-upper_bound
returns-clause-upper_bound c = omega (arith, c.put.ensures.puts.place, c.put_decimal.ensures.upper_bound, c.put-2.ensures.puts.place)
