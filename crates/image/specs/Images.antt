-- What a validated image is: its bytes, the program that it holds, and what a loader reads at each of its places.
-- Assumes nothing.
use Rattle.std.specs.Prelude.{ℕ, List, Option}
use Rattle.spec.specs.Program.{Program}
use Rattle.spec.specs.Image.{program_of}
use Rattle.spec.specs.declared.Form.{Form}
use Rattle.elf.specs.declared.Segment.{Segment}
use Rattle.image.specs.Places.{places, load_at}
use Rattle.image.specs.Readers.{form_of, bytes_of}
use Rattle.image.specs.declared.Image.{Image}

abbrev pub form : Image → Form
form i = form_of i.reader

abbrev pub bytes : Image → List ℕ
bytes i = bytes_of i.reader

abbrev pub program : Image → Program
program i = program_of i.setup (form i) (bytes i)

abbrev pub place_count : Image → ℕ
place_count i = places (form i) (bytes i)

abbrev pub segment_at : Image → ℕ → Option Segment
segment_at i k = load_at i.setup (form i) (bytes i) k
