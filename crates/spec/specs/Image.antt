-- Request 9: an image is read in the form that the caller names.
-- Assumes nothing.
use Rattle.std.specs.Prelude.{ℕ, List}
use Rattle.spec.specs.Program.{Program}
use Rattle.spec.specs.Elf.{elf_error, elf_program}
use Rattle.spec.specs.Aout.{aout_error, aout_program}
use Rattle.spec.specs.declared.Setup.{Setup}
use Rattle.spec.specs.declared.Form.{Form}
use Rattle.spec.specs.declared.Form.TheVariants.{Elf, Aout}

-- what the form's reader refuses an image for, or 0
abbrev pub read_error : Setup → Form → List ℕ → ℕ
read_error setup Elf image = elf_error setup.flags image
read_error setup (Aout magic) image = aout_error setup magic image

-- the program that an accepted one holds
abbrev pub program_of : Setup → Form → List ℕ → Program
program_of setup Elf image = elf_program setup.flags image
program_of setup (Aout magic) image = aout_program setup image
