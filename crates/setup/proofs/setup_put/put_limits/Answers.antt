-- `setup_put::put_limits` meets its contract: two lines.
-- Assumes nothing.
use mathlib.Core.Path.{ap₂}
use mathlib.Core.List.{◌++◌}
use Prim.Native.Nat.{ℕ}
use Rattle.spec.specs.Tests.{ascii}
use Rattle.text.specs.Text.{field_text}
use Rattle.text.proofs.Behind.{behind, same_text}
use Rattle.setup.proofs.setup_put.put_limits.Goals as goal

pub returns-clause-puts : goal.returns-clause-puts
returns-clause-puts c =
    same_text (ap₂ (λ (x y : ℕ). field_text (ascii "LIMIT=") x ++ field_text (ascii "ARGLIMIT=") y) c.limit.ensures c.arg_limit.ensures)
    (behind c.put_field.ensures.puts c.put_field-2.ensures.puts)
