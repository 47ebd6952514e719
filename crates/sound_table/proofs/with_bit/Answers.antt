-- `with_bit` meets its contract.
use mathlib.Core.Path.{ap, ◌∙◌}
use lib.Bits.{bit_or}
use Rattle.sound_table.proofs.Bits.{shl_one, or-bit}
use Rattle.sound_table.proofs.with_bit.Goals as goal

pub overflow_shl-result : goal.overflow_shl-result
overflow_shl-result c = c.requires.0

pub returns : goal.returns
returns c = ap (bit_or c.args.word) (shl_one c.args.bit c.requires.0) ∙ or-bit c.args.bit c.args.word c.requires.1
