-- Request 9, for the reader: what stands in the pages of an a.out before its arguments are pushed.
-- Assumes nothing.
use Rattle.std.specs.Prelude.{ℕ, ◌+◌, ◌<◌, ◌≡◌, false, List, get_or, Some}
use Rattle.spec.specs.Tests.{within}
use Rattle.spec.specs.Frames.{Cell, Mem}
use Rattle.spec.specs.Aout.{data_size, text_end, data_at}
use Rattle.spec.specs.Image.{program_of}
use Rattle.spec.specs.Exec.{image_error, loaded}
use Rattle.spec.specs.declared.Setup.{Setup}
use Rattle.spec.specs.declared.Form.TheVariants.{Aout}

-- Request 9: header and text at UTZERO, data at the next page, zeros elsewhere
pub record AoutPages (setup : Setup) (image : List ℕ) (mem : Mem) : Type 0 where
  -- the file's first 32 + text bytes, as text
  pub text-bytes : (i : ℕ) → i < text_end image → mem (setup.utzero + i) ≡ Some (record { perm = 1; byte = get_or image i 0 })
  -- the data bytes that follow them in the file, as data
  pub data-bytes : (i : ℕ) → i < data_size image → mem (data_at setup image + i) ≡ Some (record { perm = 3; byte = get_or image (text_end image + i) 0 })
  -- every other byte of its pages is 0
  pub others : (a : ℕ) (c : Cell) → mem a ≡ Some c → within setup.utzero (setup.utzero + text_end image) a ≡ false
      → within (data_at setup image) (data_at setup image + data_size image) a ≡ false → c.byte ≡ 0

-- Request 9: so it is with every accepted a.out
abbrev pub AoutsLoad : Type 0
AoutsLoad =
    (setup : Setup) (magic : ℕ) (image : List ℕ) → image_error setup (Aout magic) image ≡ 0
    → AoutPages setup image (loaded setup (program_of setup (Aout magic) image))
