-- `layout::layout` meets its contract. The invariant: the layout comes to what it comes to over the places that are left.
-- Assumes nothing.
use mathlib.Core.Path.{◌≡◌}
use Rattle.image.specs.Images.{form, bytes, program}
use Rattle.image.proofs.Places.{rest}
use Rattle.exec.specs.Fits.{nothing, fits}
use Rattle.exec.proofs.layout.layout.Given as goal

abbrev pub invariant-loop-i : goal.invariant-loop-i
invariant-loop-i l =
    fits l.image.setup nothing (program l.image).segments ≡ fits l.image.setup l.seen (rest l.image.setup (form l.image) (bytes l.image) l.i)
