-- What the reader of an image stands for: the form that it reads, the image's bytes, and the flag table that it was checked under, which
-- an a.out has none of, so that it is the setup's.
-- Assumes nothing.
use Rattle.std.specs.Prelude.{ℕ, List}
use Rattle.spec.specs.declared.Setup.{Setup}
use Rattle.spec.specs.declared.Form.{Form}
use Rattle.spec.specs.declared.Form.TheVariants as form
use Rattle.image.specs.declared.Reader.{Reader}
use Rattle.image.specs.declared.Reader.TheVariants.{Elf, Aout}

abbrev pub form_of : Reader → Form
form_of (Elf e) = form.Elf
form_of (Aout a) = form.Aout a.magic

abbrev pub bytes_of : Reader → List ℕ
bytes_of (Elf e) = e.image.now
bytes_of (Aout a) = a.image.now

abbrev pub flags_of : Setup → Reader → List ℕ
flags_of setup (Elf e) = e.flags
flags_of setup (Aout a) = setup.flags
