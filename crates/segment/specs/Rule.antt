-- A break's result, as the specification has it: a refusal hands the bss back as it was.
-- Assumes nothing.
use Rattle.std.specs.Prelude.{Result, Ok, Err, Option, Some}
use Rattle.spec.specs.Refusals.{refusal_number}
use Rattle.spec.specs.Segment.{Break}
use Rattle.spec.specs.declared.Refusal.{Refusal}
use Rattle.spec.specs.declared.VirtRange.{VirtRange}
use Rattle.segment.specs.declared.Break.{Break as Moved}

abbrev pub break_of : Option VirtRange → Result Moved Refusal → Break
break_of bss (Ok b) = record { error = 0; value = b.value; bss = Some b.bss }
break_of bss (Err r) = record { error = refusal_number r; value = 0; bss = bss }
