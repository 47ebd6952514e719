-- `pagealloc::place::hold_loaded` meets its contract.
use Rattle.pagealloc.proofs.Placing.{held}
use Rattle.pagealloc.proofs.place.hold_loaded.Goals as goal

pub returns : goal.returns
returns c =
    let a = c.args in
    held a.frames.now a.book.now _ _ a.k _ a.owner a.page a.perm _ _ c.frame_addr.ensures c.load_frame.ensures c.pack.ensures c.take_frame.ensures
