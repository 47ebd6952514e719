-- `Image::segment` meets its contract: an accepted a.out's text and data lie in the file.
-- Assumes nothing.
use mathlib.Core.Path.{◌≡◌, subst}
use Rattle.spec.specs.Image.{read_error}
use Rattle.spec_laws.proofs.Aouts.{aout-means}
use Rattle.image.specs.declared.Reader.{Reader}
use Rattle.image.specs.Readers.{form_of, bytes_of}
use Rattle.image.proofs.Image.segment.Goals as goal

pub segment-requires-in-Aout : goal.segment-requires-in-Aout
segment-requires-in-Aout c =
    let i = c.args.self.now in
    let e = subst (λ (r : Reader). read_error i.setup (form_of r) (bytes_of r) ≡ 0) c.in-Aout.is i.accepted in
    ((aout-means i.setup _ _ e).inside, i.setup_ok)
