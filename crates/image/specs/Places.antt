-- What a loader reads at each place of an image, whatever its form: a segment or none. The specification's programs are those segments
-- in order. The code reads an a.out's header once and then checks what it read, so that 42 to 27 are stated over its words too.
-- Assumes nothing.
use Rattle.std.specs.Prelude.{ℕ, ◌+◌, ◌*◌, ◌%◌, not, List, Option, None, Some}
use Rattle.spec.specs.Tests.{◌is◌, ◌isnt◌, ◌above◌, within, ◌⇒◌else◌}
use Rattle.spec.specs.Elf.{phoff, phnum, phdr_at}
use Rattle.spec.specs.Aout.{magic, text_size, data_size, bss_size, entry, text_end, data_at}
use Rattle.spec.specs.declared.Setup.{Setup}
use Rattle.spec.specs.declared.Form.{Form}
use Rattle.spec.specs.declared.Form.TheVariants.{Elf, Aout}
use Rattle.elf.specs.Reader.{load_of}
use Rattle.elf.specs.declared.Segment.{Segment as Held}
use Rattle.image.specs.declared.aout.Exec.{Exec}

-- ---- an a.out's header

abbrev pub exec_of : List ℕ → Exec
exec_of image = record { magic = magic image; text = text_size image; «data» = data_size image; bss = bss_size image; entry = entry image }

-- the checks after the image's length, of its words, in an image of n bytes
unfoldable pub exec_error : Setup → ℕ → ℕ → Exec → ℕ
exec_error setup expected n h =
    h.magic isnt expected ⇒ 42 else
    32 + h.text + h.«data» above n ⇒ 43 else
    h.entry % 4 isnt 0 ⇒ 19 else
    not (within (setup.utzero + 32) (setup.utzero + (32 + h.text)) h.entry) ⇒ 27 else
    0

-- ---- places

-- header and text; data and bss
abbrev pub text_held : Setup → List ℕ → Held
text_held setup image = record { vaddr = setup.utzero; memsz = text_end image; offset = 0; filesz = text_end image; perm = 1 }

abbrev pub data_held : Setup → List ℕ → Held
data_held setup image = record { vaddr = data_at setup image; memsz = data_size image + bss_size image; offset = text_end image; filesz = data_size image; perm = 3 }

abbrev pub aout_load : Setup → List ℕ → ℕ → Option Held
aout_load setup image i =
    i is 0 ⇒ Some (text_held setup image) else
    data_size image + bss_size image is 0 ⇒ None else
    Some (data_held setup image)

-- how many places an image has, and what stands at place i
abbrev pub places : Form → List ℕ → ℕ
places Elf image = phnum image
places (Aout magic) image = 2

abbrev pub load_at : Setup → Form → List ℕ → ℕ → Option Held
load_at setup Elf image i = load_of setup.flags (phdr_at image (phoff image + 56 * i))
load_at setup (Aout magic) image i = aout_load setup image i
