-- `holthrimi_write_flags` meets its contract.
use Rattle.text.proofs.Behind.{same-room}
use Rattle.holthrimi.proofs.rules.holthrimi_write_flags.Goals as goal

pub shape_of-out : goal.shape_of-out
shape_of-out c = same-room c.flags_into.ensures.puts

pub returns : goal.returns
returns c = c.flags_into.ensures.puts
