-- `holthrimi_write_setup` meets its contract.
use Rattle.text.proofs.Behind.{same-room}
use Rattle.holthrimi.proofs.rules.holthrimi_write_setup.Goals as goal

pub shape_of-out : goal.shape_of-out
shape_of-out c = same-room c.setup_into.ensures.puts

pub returns : goal.returns
returns c = c.setup_into.ensures.puts
