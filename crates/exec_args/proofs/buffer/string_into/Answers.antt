-- `buffer::string_into` meets its contract: a lent part, then a store behind it.
use native.Mathlib.Omega.{arith}
use Rattle.exec_args.proofs.Lay.{put-string}
use Rattle.exec_args.proofs.buffer.string_into.Goals as goal

pub returns : goal.returns
returns c =
    let a = c.args in
    put-string a.buf.now a.s.now _ a.at (omega arith) c.copy_from_slice.ensures.after
