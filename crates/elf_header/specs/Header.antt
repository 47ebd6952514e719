-- What the ELF header's fields are and what is checked of them; the permission that flags stand for. The code reads a header once and then
-- checks what it read, so that checks 13 to 20 are stated over the fields.
-- Assumes nothing.
use Rattle.std.specs.Prelude.{ℕ, ◌+◌, ◌*◌, ◌%◌, ◌||◌, List, get_or, Option, None, Some}
use Rattle.spec.specs.Tests.{◌is◌, ◌isnt◌, ◌above◌, ◌⇒◌else◌}
use Rattle.spec.specs.Numbers.{le}
use Rattle.elf_header.specs.declared.header.Ehdr.{Ehdr}

-- the fields of the ELF header
abbrev pub ehdr_of : List ℕ → Ehdr
ehdr_of image = record {
  class = le 1 image 4;
  encoding = le 1 image 5;
  ident = le 1 image 6;
  kind = le 2 image 16;
  machine = le 2 image 18;
  version = le 4 image 20;
  entry = le 8 image 24;
  phoff = le 8 image 32;
  phentsize = le 2 image 54;
  phnum = le 2 image 56;
}

-- checks 13 to 20 of those fields, in an image of n bytes
unfoldable pub fields_error : ℕ → Ehdr → ℕ
fields_error n h =
    h.class isnt 2 ⇒ 13 else
    h.encoding isnt 1 ⇒ 14 else
    h.ident isnt 1 || h.version isnt 1 ⇒ 15 else
    h.kind isnt 2 ⇒ 16 else
    h.machine isnt 183 ⇒ 17 else
    h.phentsize isnt 56 ⇒ 18 else
    h.entry % 4 isnt 0 ⇒ 19 else
    h.phoff + 56 * h.phnum above n ⇒ 20 else
    0

-- what a header's flags stand for under a flag table: a permission, or nothing where its row has 0
abbrev pub flag_at : List ℕ → ℕ → Option ℕ
flag_at flags bits = get_or flags (bits % 8) 0 is 0 ⇒ None else Some (get_or flags (bits % 8) 0)
