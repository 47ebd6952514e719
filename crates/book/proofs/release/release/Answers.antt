-- `release` meets its contract. The loop's invariant: the frames before `k` are released.
use Rattle.std.proofs.Common.{arith}
use Rattle.book.proofs.Released.{release-all}
use Rattle.book.proofs.release.release.Goals as goal

pub returns : goal.returns
returns g c = λ t gives. release-all c.args.owner t c.args.book.now c.loop-k.book c.loop-k.k (c.loop-k.invariant.1 t gives) (omega arith)
