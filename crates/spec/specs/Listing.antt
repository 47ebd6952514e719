-- The listing program: what it prints for an image, which a user sees without starting a process. It reads ELF, and keeps the deposit
-- machine's numbers and the built-in flag table.
-- Assumes nothing.
use Rattle.std.specs.Prelude.{ℕ, zero, suc, ◌+◌, ◌/◌, ◌%◌, List, [], ◌∷◌, ◌++◌, length}
use Rattle.spec.specs.Tests.{◌is◌, ◌isnt◌, ◌below◌, ◌above◌, ◌⇒◌else◌, ascii}
use Rattle.spec.specs.Flags.{built_in}
use Rattle.spec.specs.Numbers.{deposit}
use Rattle.spec.specs.Book.{page_count}
use Rattle.spec.specs.Program.{Program}
use Rattle.spec.specs.Elf.{elf_error, elf_program}
use Rattle.spec.specs.Exec.{image_error, program_segments, program_bss, start_pieces}
use Rattle.spec.specs.declared.UserSegment.{UserSegment}
use Rattle.spec.specs.declared.VirtRange.{VirtRange}
use Rattle.spec.specs.declared.Form.TheVariants.{Elf}

-- over 32,768 bytes 1; otherwise 11 to 28, 30 or 31; or 0
unfoldable pub list_error : List ℕ → ℕ
list_error image =
    length image above 32768 ⇒ 1 else
    elf_error built_in image isnt 0 ⇒ elf_error built_in image else
    image_error deposit Elf image

-- a number in decimal, of at most k digits; 20 digits hold every number below 2^64
abbrev pub decimal_of : ℕ → ℕ → List ℕ
decimal_of zero n = []
decimal_of (suc k) n = n below 10 ⇒ (48 + n) ∷ [] else decimal_of k (n / 10) ++ (48 + n % 10) ∷ []

abbrev pub decimal : ℕ → List ℕ
decimal n = decimal_of 20 n

-- start and end, and the end of the line (byte 10)
abbrev pub range_text : VirtRange → List ℕ
range_text r = decimal r.start ++ ascii " " ++ decimal r.end ++ 10 ∷ []

-- a segment's kind
abbrev pub kind_text : ℕ → List ℕ
kind_text perm =
    perm is 1 ⇒ ascii "text " else
    perm is 2 ⇒ ascii "rodata " else
    ascii "data "

-- each segment's kind, start and end
abbrev pub segment_lines : List UserSegment → List ℕ
segment_lines [] = []
segment_lines (g ∷ gs) = ascii "segment=" ++ kind_text g.perm ++ range_text g.range ++ segment_lines gs

-- entry; segments; bss; pages with stack
abbrev pub program_text : Program → List ℕ
program_text p =
    (ascii "entry=" ++ decimal p.entry ++ 10 ∷ segment_lines (program_segments p)
    ++ ascii "bss=" ++ range_text (program_bss p)
    ++ ascii "pages=" ++ decimal (page_count (start_pieces deposit p)) ++ 10 ∷ [])

-- a refusal's number; or the program
unfoldable pub listing : List ℕ → List ℕ
listing image =
    list_error image isnt 0 ⇒ ascii "refused=" ++ decimal (list_error image) ++ 10 ∷ [] else
    program_text (elf_program built_in image)
