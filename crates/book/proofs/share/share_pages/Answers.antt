-- `share_pages` meets its contract. The loop's invariant: the frames before `k` are shared, and the others as they were.
use Rattle.std.proofs.Common.{arith}
use Rattle.book.proofs.Shared.{share-all, share-later}
use Rattle.book.proofs.share.share_pages.Goals as goal

pub join-requires : goal.join-requires
join-requires c =
    let l = c.loop-k in
    let a = c.args in
    let here = share-later a.parent a.child (omega arith) (omega arith) (omega arith) (omega arith) a.book.now l.book l.k l.invariant.1 (omega arith) in
    let few = c.requires.by_index l.k (omega arith) in
    (omega arith, omega arith, omega arith, omega (arith, here, few))

pub returns : goal.returns
returns c = share-all c.args.parent c.args.child c.args.book.now c.loop-k.book c.loop-k.k c.loop-k.invariant.1 (omega arith)
