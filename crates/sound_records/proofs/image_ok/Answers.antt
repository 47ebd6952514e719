-- `image_ok` meets its contract, test by test.
use mathlib.Core.Path.{refl}
use Rattle.spec.specs.Numbers.{limit}
use Rattle.sound_records.proofs.Walk.{at_most}
use Rattle.sound_records.proofs.image_ok.Goals as goal

pub returns : goal.returns
returns c =
    let a = c.args in
    rw (c.limit-limit.ensures, at_most a.low a.s.range.start, at_most a.s.range.end (limit a.setup), at_most 1 a.s.perm, at_most a.s.perm 3) refl
