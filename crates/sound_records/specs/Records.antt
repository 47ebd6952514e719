-- The check's test of one record: the specification's, and each segment's permission, which the words of a sound book decide. A
-- record is tested before the book is looked at, so that a permission that no word could have is refused here; the check as a whole
-- comes to `sound_book`.
-- Assumes nothing.
use Rattle.std.specs.Prelude.{ℕ, ◌%◌, Bool, false, not, ◌&&◌, ◌||◌, List, [], ◌∷◌}
use Rattle.spec.specs.Tests.{◌is◌, ◌below◌, ◌above◌, ◌⇒◌else◌, all}
use Rattle.spec.specs.Numbers.{limit}
use Rattle.spec.specs.Book.{same_segment, unused, lives, stack}
use Rattle.spec.specs.Sound.{bss_ok}
use Rattle.spec.specs.declared.VirtRange.{VirtRange}
use Rattle.spec.specs.declared.UserSegment.{UserSegment}
use Rattle.spec.specs.declared.Proc.{Proc}
use Rattle.spec.specs.declared.Setup.{Setup}

-- a segment of the image, from `low` on
abbrev pub image_ok : Setup → ℕ → UserSegment → Bool
image_ok setup low g =
    g.range.start % 4096 is 0 && g.range.end % 4096 is 0 && g.range.start below g.range.end
    && not (g.range.start below low) && not (g.range.end above limit setup)

-- and with a permission
abbrev pub image_test : Setup → ℕ → UserSegment → Bool
image_test setup low g = image_ok setup low g && not (g.perm below 1) && not (g.perm above 3)

-- such segments from `low` on; then the stack; then unused places
abbrev pub shaped : Setup → ℕ → VirtRange → List UserSegment → Bool
shaped setup low bss [] = false
shaped setup low bss (g ∷ gs) =
    same_segment g (stack setup) ⇒ all unused gs && bss_ok setup low bss else
    (image_test setup low g && shaped setup g.range.end bss gs)

-- a living process's record, or a dead one's
abbrev pub passes : Setup → Proc → Bool
passes setup p = shaped setup setup.utzero p.bss p.segments || not (lives p)
