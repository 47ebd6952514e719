-- Item 4, elf.rs: the checks 11 to 28 of an image, in their order, and its loadable segments, under a flag table (request 7). An image
-- is any bytes; what is not checked here isn't read.
-- Assumes nothing.
use Rattle.std.specs.Prelude.{ℕ, zero, suc, ◌+◌, ◌*◌, ◌-◌, ◌%◌, ◌^◌, ◌≤◌, ◌<◌, ◌≡◌, ◌⊎◌, Bool, true, false, not, ◌&&◌, ◌||◌, List, [], ◌∷◌, map, length, take, drop, get_or}
use Rattle.spec.specs.Tests.{◌is◌, ◌isnt◌, ◌below◌, ◌above◌, ◌⇒◌else◌, ◌or_else◌, any, any_below, filter, same}
use Rattle.spec.specs.Numbers.{page_up, page_down, le}
use Rattle.spec.specs.Program.{Segment, in_file, Program}
use Rattle.spec.specs.declared.ElfError.{ElfError}
use Rattle.spec.specs.declared.ElfError.TheVariants.{Truncated, BadMagic, NotElf64, NotLittleEndian, BadVersion, NotExecutable, NotAarch64, BadPhentsize, MisalignedEntry, PhdrsOutOfRange, FileszOverMemsz, SegmentOutOfRange, Misaligned, BadAlign, Overflow, BadFlags, Unordered, EntryNotInText}

-- the numbers and their words
abbrev pub error_number : ElfError → ℕ
error_number Truncated = 11
error_number BadMagic = 12
error_number NotElf64 = 13
error_number NotLittleEndian = 14
error_number BadVersion = 15
error_number NotExecutable = 16
error_number NotAarch64 = 17
error_number BadPhentsize = 18
error_number MisalignedEntry = 19
error_number PhdrsOutOfRange = 20
error_number FileszOverMemsz = 21
error_number SegmentOutOfRange = 22
error_number Misaligned = 23
error_number BadAlign = 28
error_number Overflow = 24
error_number BadFlags = 25
error_number Unordered = 26
error_number EntryNotInText = 27

-- the first four bytes: 127 `ELF`
abbrev pub magic : List ℕ
magic = 127 ∷ 69 ∷ 76 ∷ 70 ∷ []

-- the entry at 24; the header table's offset at 32 and its count at 56
abbrev pub entry : List ℕ → ℕ
entry image = le 8 image 24

abbrev pub phoff : List ℕ → ℕ
phoff image = le 8 image 32

abbrev pub phnum : List ℕ → ℕ
phnum image = le 2 image 56

-- checks 11 to 20, in this order
unfoldable pub ehdr_error : List ℕ → ℕ
ehdr_error image =
    length image below 64 ⇒ 11 else
    not (same ◌is◌ (take 4 image) magic) ⇒ 12 else
    le 1 image 4 isnt 2 ⇒ 13 else
    le 1 image 5 isnt 1 ⇒ 14 else
    le 1 image 6 isnt 1 || le 4 image 20 isnt 1 ⇒ 15 else
    le 2 image 16 isnt 2 ⇒ 16 else
    le 2 image 18 isnt 183 ⇒ 17 else
    le 2 image 54 isnt 56 ⇒ 18 else
    entry image % 4 isnt 0 ⇒ 19 else
    phoff image + 56 * phnum image above length image ⇒ 20 else
    0

-- a program header
pub record Phdr : Type 0 where
  pub type : ℕ
  pub flags : ℕ
  pub offset : ℕ
  pub vaddr : ℕ
  pub filesz : ℕ
  pub memsz : ℕ
  pub align : ℕ

-- the program header at a place of the image
abbrev pub phdr_at : List ℕ → ℕ → Phdr
phdr_at image at = record {
  type = le 4 image at;
  flags = le 4 image (at + 4);
  offset = le 8 image (at + 8);
  vaddr = le 8 image (at + 16);
  filesz = le 8 image (at + 32);
  memsz = le 8 image (at + 40);
  align = le 8 image (at + 48);
}

-- k headers from place `at` on, in table order
abbrev pub phdrs_from : List ℕ → ℕ → ℕ → List Phdr
phdrs_from image at zero = []
phdrs_from image at (suc k) = phdr_at image at ∷ phdrs_from image (at + 56) k

-- a header whose type isn't 1 or whose memory size is 0 is skipped, before its other checks
abbrev pub loads : Phdr → Bool
loads p = p.type is 1 && p.memsz isnt 0

-- the program headers that are not skipped, in table order
unfoldable pub phdrs : List ℕ → List Phdr
phdrs image = filter loads (phdrs_from image (phoff image) (phnum image))

-- of the flags only the low three bits count: they name a row of the table
abbrev pub flag_perm : List ℕ → Phdr → ℕ
flag_perm flags p = get_or flags (p.flags % 8) 0

-- two numbers agree modulo m
abbrev pub agree : ℕ → ℕ → ℕ → Bool
agree m a b = a % m is b % m

-- a power of two of 64 bits: 2^k for some k below 64
unfoldable pub power_of_two : ℕ → Bool
power_of_two n = any_below 64 (λ k. n is 2 ^ k)

-- 28 (request 1): an alignment of 0 or 1 asks for nothing; any other is a power of two, and address and offset agree modulo it
unfoldable pub align_ok : Phdr → Bool
align_ok p = p.align is 0 || p.align is 1 || power_of_two p.align && agree p.align p.vaddr p.offset

-- what that means: an alignment that asks for something is 2^k, and address and offset lie a multiple of it apart
abbrev pub Apart : ℕ → ℕ → ℕ → Type 0
Apart m a b = (n : ℕ) × ((a ≡ b + n * m) ⊎ (b ≡ a + n * m))

abbrev pub Aligned : Phdr → Type 0
Aligned p = (p.align ≤ 1) ⊎ ((k : ℕ) × (k < 64) × (p.align ≡ 2 ^ k) × Apart p.align p.vaddr p.offset)

pub record AlignMeans : Type 0 where
  pub passed : (p : Phdr) → align_ok p ≡ true → Aligned p
  pub refused : (p : Phdr) → align_ok p ≡ false → ¬ Aligned p

-- checks 21 to 26 for each header, with 28 directly after 23; `end` is the page end of the segment before it
unfoldable pub phdr_error : List ℕ → List ℕ → ℕ → List Phdr → ℕ
phdr_error flags image end [] = 0
phdr_error flags image end (p ∷ ps) =
    p.filesz above p.memsz ⇒ 21 else
    p.offset + p.filesz above length image ⇒ 22 else
    not (agree 4096 p.vaddr p.offset) ⇒ 23 else
    not (align_ok p) ⇒ 28 else
    p.vaddr + p.memsz above 2 ^ 64 - 4096 ⇒ 24 else
    flag_perm flags p is 0 ⇒ 25 else
    page_down p.vaddr below end ⇒ 26 else
    phdr_error flags image (page_up (p.vaddr + p.memsz)) ps

-- the segment that a header describes, and all that an image has
abbrev pub segment_of : List ℕ → List ℕ → Phdr → Segment
segment_of flags image p = record { vaddr = p.vaddr; memsz = p.memsz; file = take p.filesz (drop p.offset image); perm = flag_perm flags p }

unfoldable pub segments_of : List ℕ → List ℕ → List Segment
unfolding phdrs
segments_of flags image = map (segment_of flags image) (phdrs image)

-- the entry must lie in the file bytes of some text segment
abbrev pub entry_in_text : List ℕ → List ℕ → Bool
entry_in_text flags image = any (λ g. g.perm is 1 && in_file (entry image) g) (segments_of flags image)

-- what an image is refused for: 11 to 20, then 21 to 26 and 28, then 27; or 0
unfoldable pub elf_error : List ℕ → List ℕ → ℕ
elf_error flags image =
    ehdr_error image or_else
    phdr_error flags image 0 (phdrs image) or_else
    (entry_in_text flags image ⇒ 0 else 27)

-- the program that an accepted image holds
abbrev pub elf_program : List ℕ → List ℕ → Program
elf_program flags image = record { entry = entry image; segments = segments_of flags image }
