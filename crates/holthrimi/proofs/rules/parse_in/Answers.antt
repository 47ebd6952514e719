-- `parse_in` meets its contract: the setup is accepted where the image is read.
use Rattle.std.proofs.Common.{sym}
use Rattle.spec.proofs.Setups.{setup-means}
use Rattle.holthrimi.proofs.rules.parse_in.Goals as goal

pub parse-requires : goal.parse-requires
parse-requires c = setup-means _ (sym c.in_ok-check.ensures)
