-- `pagealloc::place::hold_copied` meets its contract.
use native.Mathlib.Omega.{arith}
use Rattle.pagealloc.proofs.Placing.{held}
use Rattle.pagealloc.proofs.Copying.{apart, copied}
use Rattle.pagealloc.proofs.place.hold_copied.Goals as goal

pub copy_frame-requires : goal.copy_frame-requires
copy_frame-requires c =
    let a = c.args in
    (omega arith, omega arith, rw (c.frame_addr.ensures, c.frame_addr-2.ensures) (apart a.book.now a.from a.k c.requires.from_bound.1 c.requires.frames_len.2))

pub returns : goal.returns
returns c =
    let a = c.args in
    held a.frames.now a.book.now _ _ a.k _ a.child a.page a.perm _ _ c.frame_addr-2.ensures
    (copied a.frames.now _ c.frame_addr-2.result.0 c.frame_addr.result.0 a.from c.frame_addr.ensures c.copy_frame.ensures) c.pack.ensures c.take_frame.ensures
