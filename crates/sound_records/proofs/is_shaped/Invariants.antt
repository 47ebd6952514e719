-- `is_shaped` meets its contract: what is left to test is the places from i on, with `low` where the place before ended.
use mathlib.Core.Path.{◌≡◌}
use lib.ListN.{drop}
use Rattle.sound_records.specs.Records.{shaped}
use Rattle.sound_records.proofs.is_shaped.Given as goal

abbrev pub invariant-loop-i : goal.invariant-loop-i
invariant-loop-i l = shaped l.setup l.setup.utzero l.bss l.segments ≡ shaped l.setup l.low l.bss (drop l.i l.segments)
