-- Request 9: Plan 9's executables, by a.out(6): a header of eight 32-bit big-endian words, which are magic, text, data, bss, syms, entry,
-- spsz and pcsz, then the bytes of text and of data. The caller gives the magic that is expected; syms, spsz and pcsz aren't read, nor
-- what stands behind data.
-- Assumes nothing.
use Rattle.std.specs.Prelude.{ℕ, ◌+◌, ◌%◌, not, ◌||◌, List, [], ◌∷◌, length, take, drop}
use Rattle.spec.specs.Tests.{◌is◌, ◌isnt◌, ◌below◌, ◌above◌, within, ◌⇒◌else◌}
use Rattle.spec.specs.Numbers.{page_up, be}
use Rattle.spec.specs.Program.{Segment, Program}
use Rattle.spec.specs.declared.Setup.{Setup}

-- the words that are read
abbrev pub magic : List ℕ → ℕ
magic image = be 4 image 0

abbrev pub text_size : List ℕ → ℕ
text_size image = be 4 image 4

abbrev pub data_size : List ℕ → ℕ
data_size image = be 4 image 8

abbrev pub bss_size : List ℕ → ℕ
bss_size image = be 4 image 12

abbrev pub entry : List ℕ → ℕ
entry image = be 4 image 20

-- header and text are the first bytes of the file, and load at UTZERO; data follows in the file, and loads at their end rounded up to
-- a page
abbrev pub text_end : List ℕ → ℕ
text_end image = 32 + text_size image

abbrev pub data_at : Setup → List ℕ → ℕ
data_at setup image = page_up (setup.utzero + text_end image)

-- what an image is refused for: 42 under 32 bytes or another magic; 43 where text and data leave the file; 19 where the entry is no
-- multiple of 4; 27 where it isn't in the text after the header; or 0
unfoldable pub aout_error : Setup → ℕ → List ℕ → ℕ
aout_error setup expected image =
    length image below 32 || magic image isnt expected ⇒ 42 else
    text_end image + data_size image above length image ⇒ 43 else
    entry image % 4 isnt 0 ⇒ 19 else
    not (within (setup.utzero + 32) (setup.utzero + text_end image) (entry image)) ⇒ 27 else
    0

-- header and text as text, all from the file
abbrev pub text_segment : Setup → List ℕ → Segment
text_segment setup image = record { vaddr = setup.utzero; memsz = text_end image; file = take (text_end image) image; perm = 1 }

-- data, which bss follows
abbrev pub data_segment : Setup → List ℕ → Segment
data_segment setup image = record { vaddr = data_at setup image; memsz = data_size image + bss_size image; file = take (data_size image) (drop (text_end image) image); perm = 3 }

-- the program that an accepted image holds; data and bss both 0 mean no data segment
abbrev pub aout_program : Setup → List ℕ → Program
aout_program setup image = record {
  entry = entry image;
  segments = text_segment setup image ∷ (data_size image + bss_size image is 0 ⇒ [] else data_segment setup image ∷ []);
}
