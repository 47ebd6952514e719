-- `copy_to_nul` meets its contract: no more bytes stand before the NUL than there are.
use native.Mathlib.Omega.{arith}
use mathlib.Core.Path.{sym}
use lib.Seq.{length-take-le}
use Rattle.kstr.proofs.BeforeNul.{nul-most}
use Rattle.uaccess.proofs.strings.copy_to_nul.Goals as goal

pub slice_bounds-copy_from_slice-end : goal.slice_bounds-copy_from_slice-end
slice_bounds-copy_from_slice-end c = omega (arith, c.to_nul-n.ensures, nul-most c.args.s.now)

pub slice_bounds-copy_from_slice-end-2 : goal.slice_bounds-copy_from_slice-end-2
slice_bounds-copy_from_slice-end-2 c = sym (length-take-le _ _ (omega (arith, c.to_nul-n.ensures, nul-most c.args.s.now)))

pub slice_bounds-copy_from_slice-end-3 : goal.slice_bounds-copy_from_slice-end-3
slice_bounds-copy_from_slice-end-3 c = sym (length-take-le _ _ (omega (arith, c.to_nul-n.ensures, nul-most c.args.s.now)))
