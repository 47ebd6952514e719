-- The worked examples of docs/RULES.md: what the definitions give, beside what is said there, and one proof.
use mathlib.Core.Path.{◌≡◌, refl}
use mathlib.Core.Bool.{Bool, true, false, ◌||◌}
use Rattle.std.specs.Prelude.{None, Some}
use mathlib.Core.List.{List, [], ◌∷◌, ◌++◌, reverse, map}
use Prim.Native.Nat.{ℕ, zero, suc, ◌+◌, ◌-◌, ◌^◌}
use lib.ListN.{replicate, length, take, drop, set}
use Rattle.spec.specs.Tests.{◌is◌, within, ◌⇒◌else◌, all, same, ascii}
use Rattle.spec.specs.Flags.{built_in}
use Rattle.spec.specs.Numbers.{deposit, limit, le, le_bytes}
use Rattle.spec.specs.Name.{elem, kstrcpy}
use Rattle.spec.specs.Book.{range, segment, same_segment, page_count}
use Rattle.spec.specs.Frames.{Mem}
use Rattle.spec.specs.Program.{Program}
use Rattle.spec.specs.Elf.{ehdr_error, phdrs, power_of_two, align_ok, phdr_error, segments_of, elf_error, elf_program}
use Rattle.spec.specs.Aout.{aout_error, aout_program}
use Rattle.spec.specs.Exec.{image_error, program_segments, program_bss, start_pieces, file_byte, args_error, argv_at, registers, loaded, push_access, pushed, Argv, bad, over, read, arg_buffer, copy_argv}
use Rattle.spec.specs.Access.{◌names◌else◌, access, user_range_ok, copy_str}
use Rattle.spec.specs.Segment.{ibrk}
use Rattle.spec.specs.Machine.{replace, push, user-range-ok, copy-from-user, copy-to-user, try-copy-str-from-user, weigh}
use Rattle.spec.specs.Listing.{list_error, listing}
use Rattle.spec.specs.declared.Form.TheVariants.{Elf, Aout}
use Rattle.spec.specs.declared.Answer.TheVariants.{No, RefusedAt, EndedAt}

-- an ELF header whose unlisted fields are valid or 0, and a program header
abbrev ehdr : ℕ → ℕ → ℕ → List ℕ
ehdr entry phoff phnum =
    (127 ∷ ascii "ELF" ++ 2 ∷ 1 ∷ 1 ∷ []) ++ replicate 9 0
    ++ le_bytes 2 2 ++ le_bytes 2 183 ++ le_bytes 4 1 ++ le_bytes 8 entry ++ le_bytes 8 phoff ++ replicate 14 0 ++ le_bytes 2 56 ++ le_bytes 2 phnum ++ replicate 6 0

abbrev phdr : ℕ → ℕ → ℕ → ℕ → ℕ → List ℕ
phdr flags offset vaddr filesz memsz =
    le_bytes 4 1 ++ le_bytes 4 flags ++ le_bytes 8 offset ++ le_bytes 8 vaddr ++ le_bytes 8 0 ++ le_bytes 8 filesz ++ le_bytes 8 memsz ++ le_bytes 8 4096

-- an image of 120 bytes with one header
abbrev pub one : ℕ → ℕ → ℕ → ℕ → ℕ → List ℕ
one flags offset vaddr filesz memsz = ehdr 65652 64 1 ++ phdr flags offset vaddr filesz memsz

-- the listing's image of 184 bytes
abbrev pub image184 : List ℕ
image184 = ehdr 65712 64 2 ++ phdr 5 0 65536 180 180 ++ phdr 6 180 69812 4 8000 ++ replicate 4 170 ++ 1 ∷ 2 ∷ 3 ∷ 4 ∷ []

-- Request 1: a header of an image, from place `at` on, with another alignment; in the listing's image the text header stands at 64, the data
-- header at 120
abbrev aligned : List ℕ → ℕ → ℕ → List ℕ
aligned image at align = take (at + 48) image ++ le_bytes 8 align ++ drop (at + 56) image

-- k text headers, a page each, and an image of nothing else
abbrev pub texts : ℕ → ℕ → List ℕ
texts zero vaddr = []
texts (suc k) vaddr = phdr 5 0 vaddr 120 120 ++ texts k (vaddr + 4096)

abbrev pub many : ℕ → List ℕ
many k = ehdr 65652 64 k ++ texts k 65536

-- its program; and with a table that has constants which a build marks writable as rodata (request 7)
abbrev program : Program
program = elf_program built_in image184

abbrev partners : Program
partners = elf_program (set built_in 6 2) image184

-- Request 9: an a.out of two instructions, which is entered at its first, with 8 bytes of data and a bss of 8,000; syms, spsz and pcsz are
-- nonsense. Plan 9's magic for arm64 is 4 × 28 × 28 + 7.
abbrev word : ℕ → List ℕ
word n = reverse (le_bytes 4 n)

abbrev pub aout : ℕ → ℕ → ℕ → ℕ → List ℕ
aout text data-size bss-size entry =
    (word 3143 ++ word text ++ word data-size ++ word bss-size ++ word (2 ^ 32 - 1) ++ word entry ++ word 77 ++ word (2 ^ 31)) ++ replicate 8 170 ++ replicate 8 187

abbrev plan9 : Program
plan9 = aout_program deposit (aout 8 8 8000 65568)

abbrev lex-mot : List (List ℕ)
lex-mot = ascii "lex" ∷ ascii "mot" ∷ []

-- what the definitions give, and what docs/RULES.md says
abbrev pub starred : List (ℕ × ℕ)
starred =
    (elf_error built_in (replicate 63 0), 11)
    ∷ (elf_error built_in (replicate 64 0), 12)
    ∷ (elf_error built_in (ehdr 65652 64 0), 27)
    ∷ (elf_error built_in (ehdr 65652 65 0), 20)
    ∷ (elf_error built_in (one 5 120 65656 0 8), 27)
    ∷ (elf_error built_in (one 5 121 65657 0 8), 22)
    ∷ (elf_error built_in (one 13 0 65536 120 120), 0)
    ∷ (elf_error built_in (one 7 0 65536 120 0), 27)
    ∷ (elf_error built_in (one 5 0 (2 ^ 64 - 8192) 0 4096), 27)
    ∷ (args_error deposit (replicate 453 []), 0)
    ∷ (args_error deposit (replicate 454 []), 33)
    ∷ ((registers 0 deposit.ustktop lex-mot).argv, deposit.ustktop - 32)
    ∷ ((registers 0 deposit.ustktop lex-mot).sp, deposit.ustktop - 32)
    ∷ ((registers 0 deposit.ustktop []).argv, deposit.ustktop - 8)
    ∷ ((registers 0 deposit.ustktop []).sp, deposit.ustktop - 16)
    ∷ ((ibrk deposit (Some (range 69816 77824)) (2 ^ 64 - 1) 9).error, 33)
    ∷ []

-- pushed arguments read back as given
abbrev reads_back : List (List ℕ) → Bool
reads_back args = said (copy_argv deposit (pushed deposit.ustktop args (loaded deposit program)) (argv_at deposit.ustktop args))
  where
    said : Argv → Bool
    said (bad address) = false
    said over = false
    said (read more) = same (same ◌is◌) more args

-- Request 4: a data page at 65,536, a text page behind it, and a data page below the top; the address that is named, or 0
abbrev three : Mem
three a =
    within 65536 69632 a || within (2 ^ 47 - 4096) (2 ^ 47) a ⇒ Some (record { perm = 3; byte = 7 }) else
    within 69632 73728 a ⇒ Some (record { perm = 1; byte = 7 }) else
    None

abbrev bad_at : Bool → ℕ → ℕ → ℕ
bad_at write addr len = access deposit three write addr len names (λ address. address) else 0

-- a push of two arguments where all is data but for two bytes; the address that is named, or 1. Below 80,000 its strings begin at 79,995
-- and 79,998, its pointers at 79,968 and 79,976
abbrev push_bad : ℕ → ℕ → ℕ → ℕ
push_bad top x y =
    push_access deposit (λ a. a is x || a is y ⇒ None else Some (record { perm = 3; byte = 7 })) top (ascii "ab" ∷ ascii "c" ∷ []) names (λ address. address) else 1

-- the others, and the listing
abbrev unstarred : List (ℕ × ℕ)
unstarred =
    (elf_error built_in (one 7 0 65536 120 120), 25)
    ∷ (elf_error built_in (one 5 0 (2 ^ 64 - 8192) 0 4097), 24)
    ∷ (args_error deposit (replicate 4071 7 ∷ []), 0)
    ∷ (args_error deposit (replicate 4072 7 ∷ []), 33)
    ∷ ((ibrk deposit (Some (range 69816 77824)) (limit deposit + 1) 9).error, 34)
    ∷ (user_range_ok deposit (λ a. None) false (2 ^ 47) 0 ⇒ 1 else 0, 1)
    ∷ (user_range_ok deposit (λ a. None) false (2 ^ 47 + 1) 0 ⇒ 1 else 0, 0)
    ∷ (bad_at true (2 ^ 47 - 2) 2, 0)
    ∷ (bad_at true (2 ^ 47 - 2) 3, 2 ^ 47)
    ∷ (bad_at true (2 ^ 47 - 2) (2 ^ 64 - 1), 2 ^ 47)
    ∷ (bad_at true (2 ^ 47) 0, 0)
    ∷ (bad_at true (2 ^ 47) 1, 2 ^ 47)
    ∷ (bad_at true (2 ^ 47 + 1) 0, 2 ^ 47 + 1)
    ∷ (bad_at false (2 ^ 64 - 1) 2, 2 ^ 64 - 1)
    ∷ (bad_at false 69631 2, 0)
    ∷ (bad_at true 69631 2, 69632)
    ∷ (bad_at true 69700 2, 69700)
    ∷ (bad_at false 73727 2, 73728)
    ∷ (bad_at false (2 ^ 47 - 4097) 5000, 2 ^ 47 - 4097)
    ∷ (push_bad 80000 0 0, 1)
    ∷ (push_bad 80000 79997 79968, 79997)
    ∷ (push_bad 80000 79998 79970, 79970)
    ∷ (push_bad 80000 79999 79976, 79999)
    ∷ (push_bad 16 80000 80000, 0)
    ∷ ((copy_str deposit (λ a. None) [] 7).size, 0)
    ∷ (elf_error built_in (set image184 0 126), 12)
    ∷ (elf_error built_in (set image184 4 1), 13)
    ∷ (elf_error built_in (set image184 5 2), 14)
    ∷ (elf_error built_in (set image184 6 0), 15)
    ∷ (elf_error built_in (set image184 20 2), 15)
    ∷ (elf_error built_in (set image184 16 3), 16)
    ∷ (elf_error built_in (set image184 18 62), 17)
    ∷ (elf_error built_in (set image184 54 64), 18)
    ∷ (elf_error built_in (set image184 24 177), 19)
    ∷ (elf_error built_in (set image184 57 1), 20)
    ∷ (elf_error built_in (set image184 153 32), 21)
    ∷ (elf_error built_in (set image184 152 5), 22)
    ∷ (elf_error built_in (set image184 136 181), 23)
    ∷ (elf_error built_in (set image184 124 2), 25)
    ∷ (elf_error built_in (set image184 137 0), 26)
    ∷ (elf_error built_in (one 5 0 65536 117 120), 0)
    ∷ (elf_error built_in (one 5 0 65536 116 120), 27)
    ∷ (image_error deposit Elf (set image184 137 0), 30)
    ∷ (image_error deposit Elf (ehdr 116 64 1 ++ phdr 5 0 0 120 120), 30)
    ∷ (image_error deposit Elf (one 5 0 65536 120 (limit deposit - 65536)), 0)
    ∷ (image_error deposit Elf (one 5 0 65536 120 (limit deposit - 65535)), 30)
    ∷ (image_error deposit Elf (ehdr 73844 64 2 ++ phdr 6 0 65536 120 120 ++ phdr 5 0 73728 120 120), 30)
    ∷ (image_error deposit Elf (many 15), 0)
    ∷ (image_error deposit Elf (many 16), 31)
    ∷ (length image184, 184)
    ∷ (image_error deposit Elf image184, 0)
    ∷ (program.entry, 65712)
    ∷ (page_count (start_pieces deposit program), 7)
    ∷ ((program_bss program).start, 69816)
    ∷ ((program_bss program).end, 77824)
    ∷ (same same_segment (program_segments program) (segment 65536 69632 1 ∷ segment 69632 73728 3 ∷ []) ⇒ 1 else 0, 1)
    ∷ (same same_segment (program_segments partners) (segment 65536 69632 1 ∷ segment 69632 77824 2 ∷ []) ⇒ 1 else 0, 1)
    ∷ ((program_bss partners).start, 77824)
    ∷ (reads_back lex-mot ⇒ 1 else 0, 1)
    ∷ (reads_back [] ⇒ 1 else 0, 1)
    ∷ (reads_back ([] ∷ (65 ∷ []) ∷ [] ∷ replicate 9 66 ∷ []) ⇒ 1 else 0, 1)
    ∷ []

-- Request 1: on the data header 69,812 leaves 4,276 of 65,536, where 180 is asked for
abbrev alignments : List (ℕ × ℕ)
alignments =
    (elf_error built_in (aligned image184 64 65536), 0)
    ∷ (elf_error built_in (aligned image184 120 65536), 28)
    ∷ (image_error deposit Elf (aligned image184 120 65536), 30)
    ∷ (list_error (aligned image184 120 65536), 28)
    ∷ (elf_error built_in (aligned image184 120 0), 0)
    ∷ (elf_error built_in (aligned image184 120 1), 0)
    ∷ (elf_error built_in (aligned image184 120 2), 0)
    ∷ (elf_error built_in (aligned image184 120 3), 28)
    ∷ (elf_error built_in (aligned image184 120 4096), 0)
    ∷ (elf_error built_in (aligned image184 120 (2 ^ 63)), 28)
    ∷ (elf_error built_in (aligned image184 120 (2 ^ 64 - 1)), 28)
    -- address and offset are equal: they agree modulo any number
    ∷ (elf_error built_in (aligned (at_zero 5) 64 (2 ^ 63)), 0)
    ∷ (elf_error built_in (aligned (at_zero 5) 64 3), 28)
    ∷ (elf_error built_in (aligned (at_zero 5) 64 (2 ^ 64 - 1)), 28)
    -- after 23, before 25; a header that is skipped is not judged
    ∷ (elf_error built_in (aligned (one 5 1 65536 119 120) 64 3), 23)
    ∷ (elf_error built_in (aligned (at_zero 7) 64 3), 28)
    ∷ (elf_error built_in (aligned (one 5 0 65536 120 0) 64 3), 27)
    ∷ (elf_error built_in (aligned (set (one 5 0 65536 120 120) 64 2) 64 3), 27)
    ∷ []
  where
    at_zero : ℕ → List ℕ
    at_zero flags = ehdr 116 64 1 ++ phdr flags 0 0 120 120

-- Request 9
abbrev aouts : List (ℕ × ℕ)
aouts =
    (aout_error deposit 3143 (take 31 (aout 8 8 0 65568)), 42)
    ∷ (aout_error deposit 3142 (aout 8 8 0 65568), 42)
    ∷ (aout_error deposit 3143 (aout 8 8 0 65568), 0)
    ∷ (aout_error deposit 3143 (aout 8 9 0 65569), 43)
    ∷ (aout_error deposit 3143 (aout (2 ^ 32 - 1) 1 0 65568), 43)
    ∷ (aout_error deposit 3143 (aout 8 8 0 65569), 19)
    ∷ (aout_error deposit 3143 (aout 8 8 0 65564), 27)
    ∷ (aout_error deposit 3143 (aout 8 8 0 65572), 0)
    ∷ (aout_error deposit 3143 (aout 8 8 0 65576), 27)
    ∷ (aout_error deposit 3143 (aout 0 16 0 65568), 27)
    ∷ (image_error deposit (Aout 3143) (aout 8 8 8000 65568), 0)
    ∷ (image_error deposit (Aout 3142) (aout 8 8 8000 65568), 30)
    ∷ (plan9.entry, 65568)
    ∷ (page_count (start_pieces deposit plan9), 7)
    ∷ ((program_bss plan9).start, 69640)
    ∷ ((program_bss plan9).end, 77824)
    ∷ (same same_segment (program_segments plan9) (segment 65536 69632 1 ∷ segment 69632 73728 3 ∷ []) ⇒ 1 else 0, 1)
    ∷ (file_byte (aout_program deposit (aout 8 4 8000 65568)).segments 69635, 187)
    ∷ (file_byte (aout_program deposit (aout 8 4 8000 65568)).segments 69636, 0)
    ∷ (length (aout_program deposit (aout 16 0 0 65568)).segments, 1)
    ∷ []

-- the listing's five lines
abbrev lines184 : List ℕ
lines184 = ascii "entry=65712\nsegment=text 65536 69632\nsegment=data 69632 73728\nbss=69816 77824\npages=7\n"

-- names: an element, 27 bytes as they are, 28 cut at 24, a cut before a byte that continues a character, and at place 0
abbrev pub kept_names : List (List ℕ × List ℕ)
kept_names =
    (elem (ascii "bin/rc/lex"), ascii "lex")
    ∷ (elem (ascii "lex/"), [])
    ∷ (elem (ascii "lex"), ascii "lex")
    ∷ (kstrcpy (replicate 27 97), replicate 27 97 ++ 0 ∷ [])
    ∷ (kstrcpy (replicate 28 97), replicate 24 97 ++ ascii "..." ++ 0 ∷ [])
    ∷ (kstrcpy (replicate 23 97 ++ replicate 5 128), replicate 22 97 ++ ascii "..." ++ replicate 3 0)
    ∷ (kstrcpy (replicate 22 97 ++ 195 ∷ replicate 6 191), replicate 22 97 ++ ascii "..." ++ replicate 3 0)
    ∷ (kstrcpy (replicate 28 128), ascii "..." ++ replicate 25 0)
    ∷ []

abbrev pub rows-equal : List (ℕ × ℕ) → Bool
rows-equal rows = all (λ row. row.0 is row.1) rows

pub starred-hold : rows-equal starred ≡ true
unfolding ehdr_error phdrs power_of_two align_ok phdr_error segments_of elf_error ibrk
starred-hold = refl

pub unstarred-hold : rows-equal unstarred ≡ true
unfolding ehdr_error phdrs power_of_two align_ok phdr_error segments_of elf_error ibrk access arg_buffer copy_argv
unstarred-hold = refl

-- Request 4: a range that is asked for answers no; the string copy called by itself is refused; the others end the process
pub bad-answers-hold : map (λ q. (weigh (record { setup = deposit; segments = []; bss = range 0 0; mem = three }) 0 0 q).says)
    (user-range-ok 69631 2 true
    ∷ try-copy-str-from-user (0 ∷ 0 ∷ []) 73727
    ∷ copy-from-user (0 ∷ 0 ∷ []) 73727
    ∷ copy-to-user 69631 (1 ∷ 2 ∷ [])
    ∷ push 0 73728 (7 ∷ []) (1 ∷ [])
    ∷ replace Elf image184 [] 73727
    ∷ replace Elf image184 [] 65536
    ∷ [])
    ≡ No 69632 ∷ RefusedAt 73728 ∷ EndedAt 73728 ∷ EndedAt 69632 ∷ EndedAt 73726 ∷ EndedAt 73728 ∷ EndedAt (le 8 (replicate 8 7) 0) ∷ []
unfolding ehdr_error phdrs power_of_two align_ok phdr_error segments_of elf_error access arg_buffer copy_argv
bad-answers-hold = refl

pub alignments-hold : rows-equal alignments ≡ true
unfolding ehdr_error phdrs power_of_two align_ok phdr_error segments_of elf_error list_error
alignments-hold = refl

pub aouts-hold : rows-equal aouts ≡ true
unfolding aout_error
aouts-hold = refl

pub listing-holds : listing image184 ≡ lines184
unfolding ehdr_error phdrs power_of_two align_ok phdr_error segments_of elf_error list_error listing
listing-holds = refl

pub kept-names-hold : all (λ row. same ◌is◌ row.0 row.1) kept_names ≡ true
kept-names-hold = refl
