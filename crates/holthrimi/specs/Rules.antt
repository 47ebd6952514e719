-- What the exported functions that are no calls answer. C has neither options nor an enum that holds a number, so that an optional bss
-- is a mark and a range, and the form of an image a mark and a magic, in the calls too (request 9). Those that are handed a setup judge
-- it, 38 and 39, after their own 1 (request 5 and 7/13); beyond that they answer what the specification's `ibrk`, `args_error`,
-- `read_error` and the plan say.
-- Assumes nothing.
use Rattle.std.specs.Prelude.{ℕ, ◌+◌, ◌-◌, ◌*◌, Bool, not, Option, None, Some, List, ◌∷◌, ◌++◌, length, replicate}
use Rattle.spec.specs.Tests.{◌isnt◌, within, ◌⇒◌else◌, ◌or_else◌, sum}
use Rattle.spec.specs.Numbers.{max_frames, setup_error}
use Rattle.spec.specs.Book.{range, zero_segment, stack, page_count}
use Rattle.spec.specs.Frames.{sized}
use Rattle.spec.specs.Program.{Program}
use Rattle.spec.specs.Image.{read_error, program_of}
use Rattle.spec.specs.Exec.{args_of, args_error, program_segments, program_bss, image_error, start_pieces}
use Rattle.spec.specs.SetupText.{Read}
use Rattle.spec.specs.FlagsText.{FlagsRead as ReadFlags}
use Rattle.spec.specs.Segment.{Break, ibrk}
use Rattle.spec.specs.World.{State, sound}
use Rattle.spec.specs.declared.Setup.{Setup}
use Rattle.spec.specs.declared.Form.{Form}
use Rattle.spec.specs.declared.Form.TheVariants.{Elf, Aout}
use Rattle.spec.specs.declared.VirtRange.{VirtRange}
use Rattle.exec.specs.declared.Plan.{Plan}
use Rattle.holthrimi.specs.declared.rules.Rule.{Rule}
use Rattle.holthrimi.specs.declared.rules.SetupRead.{SetupRead}
use Rattle.holthrimi.specs.declared.rules.FlagsRead.{FlagsRead}
use Rattle.holthrimi.specs.declared.rules.Planned.{Planned}

-- the form of an image, as a mark and the magic that an a.out is to have
abbrev pub form_of : Bool → ℕ → Form
form_of aout magic = aout ⇒ Aout magic else Elf

-- an optional bss, as a mark and a range
abbrev pub bss_of : Bool → VirtRange → Option VirtRange
bss_of set bss = set ⇒ Some bss else None

-- no bss is told as zeros
abbrev pub or_zeros : Option VirtRange → VirtRange
or_zeros None = range 0 0
or_zeros (Some bss) = bss

-- the break's rule under a setup, or 38 or 39 for one that is not accepted, with the bss as it was
abbrev pub ibrk_in : Setup → Option VirtRange → ℕ → ℕ → Break
ibrk_in setup bss addr free = setup_error setup isnt 0 ⇒ record { error = setup_error setup; value = 0; bss = bss } else ibrk setup bss addr free

-- what a break comes to, in C
abbrev pub rule_of : Break → Rule
rule_of b = record { error = b.error; value = b.value; bss = or_zeros b.bss }

-- what arguments are refused with: lengths that don't sum to their bytes, the setup, then the arguments; or 0
abbrev pub args_in : Setup → List ℕ → List ℕ → ℕ
args_in setup bytes lengths =
    sum lengths isnt length bytes ⇒ 1 else
    setup_error setup or_else
    args_error setup (args_of bytes lengths)

-- the number of the form's reader under a setup, or 38 or 39 for a setup that is not accepted; or 0
abbrev pub parse_in : Setup → Form → List ℕ → ℕ
parse_in setup form image = setup_error setup or_else read_error setup form image

-- a refusal answers zeros but for its numbers
abbrev pub refused_plan : ℕ → ℕ → Planned
refused_plan number own = record { number = number; own = own; entry = 0; segments = replicate 16 zero_segment; count = 0; bss = range 0 0; pages = 0 }

-- an accepted plan, field by field
abbrev pub planned_of : Plan → Planned
planned_of p = record { number = 0; own = 0; entry = p.entry; segments = p.segments; count = p.count; bss = p.bss; pages = p.pages }

-- an accepted program answers its entry point, segments, bss and pages
abbrev pub accepted_plan : Setup → Program → Planned
accepted_plan setup p = record {
  number = 0;
  own = 0;
  entry = p.entry;
  segments = program_segments p ++ stack setup ∷ replicate (15 - length (program_segments p)) zero_segment;
  count = length (program_segments p);
  bss = program_bss p;
  pages = page_count (start_pieces setup p);
}

-- what a start needs of an image
unfoldable pub plan_of : Setup → Form → List ℕ → Planned
plan_of setup form image = image_error setup form image isnt 0 ⇒ refused_plan (image_error setup form image) (read_error setup form image) else accepted_plan setup (program_of setup form image)

-- the plan of an image under a setup, or 38 or 39 for a setup that is not accepted
abbrev pub plan_in : Setup → Form → List ℕ → Planned
plan_in setup form image = setup_error setup isnt 0 ⇒ refused_plan (setup_error setup) 0 else plan_of setup form image

-- what reading the lines of a setup or a flag table comes to, in C
abbrev pub told : SetupRead → Read
told a = record { error = a.number; setup = a.setup }

abbrev pub told_flags : FlagsRead → ReadFlags
told_flags a = record { error = a.number; flags = a.flags }

-- Request 10: the words of the book of so many frames, seventeen a frame; 0 for a number of frames that no call takes
abbrev pub book_words : ℕ → ℕ
book_words frames = within 1 (max_frames + 1) frames ⇒ 17 * frames else 0

-- 1, 38, 39 and 2 of every call: frames and book by their sizes, the setup, and the book sound; or 0
unfoldable pub book_error : State → ℕ
book_error s =
    not (sized s.store) ⇒ 1 else
    setup_error s.setup or_else
    not (sound s) ⇒ 2 else
    0
