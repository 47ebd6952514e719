-- Item 5, exec.rs: layout, segments, the contents of pages, and arguments. It says what a program's memory is to be before it first
-- runs; how it comes into frames is in World.
-- Assumes nothing.
use Rattle.std.specs.Prelude.{ℕ, zero, suc, ◌+◌, ◌*◌, ◌-◌, ◌/◌, Bool, true, false, not, ◌&&◌, ◌||◌, List, [], ◌∷◌, ◌++◌, map, length, take, drop, get_or, replicate, Ok, Err, Option, None, Some}
use Rattle.spec.specs.Tests.{◌is◌, ◌isnt◌, ◌below◌, ◌above◌, ◌⇒◌else◌, any, has, filter}
use Rattle.spec.specs.Numbers.{limit, arg_limit, page_up, page_down, le, le_bytes}
use Rattle.spec.specs.Book.{range, segment, stack, bss_segment, perm_at}
use Rattle.spec.specs.Frames.{Cell, Mem}
use Rattle.spec.specs.Access.{◌names◌else◌, access, bytes_at, write, Str, copy_str, Checked}
use Rattle.spec.specs.Program.{Segment, in_file, Program}
use Rattle.spec.specs.Image.{read_error, program_of}
use Rattle.spec.specs.declared.Setup.{Setup}
use Rattle.spec.specs.declared.Form.{Form}
use Rattle.spec.specs.declared.VirtRange.{VirtRange}
use Rattle.spec.specs.declared.UserSegment.{UserSegment}
use Rattle.spec.specs.declared.UserRegs.{UserRegs}

-- ---- layout

-- `layout`: each segment starts at UTZERO or above and ends at most at limit, and nothing follows a data segment
abbrev pub layout_ok : Setup → List Segment → Bool
layout_ok setup [] = true
layout_ok setup (g ∷ gs) =
    not (g.vaddr below setup.utzero) && not (g.vaddr + g.memsz above limit setup) && (g.perm isnt 3 || length gs is 0) && layout_ok setup gs

-- bss: from data's address + file size to the page end of data's memory; without data, empty at the page end of the last segment
-- (every program has a segment: an image with none is refused with 27)
abbrev pub bss_of : List Segment → VirtRange
bss_of [] = range 0 0
bss_of (g ∷ []) = range (g.perm is 3 ⇒ g.vaddr + length g.file else page_up (g.vaddr + g.memsz)) (page_up (g.vaddr + g.memsz))
bss_of (g ∷ h ∷ gs) = bss_of (h ∷ gs)

-- `segments`: each segment's pages, but the data's recorded pages end at bss start rounded up; empty ranges are dropped
abbrev pub user_segment : VirtRange → Segment → UserSegment
user_segment bss g = segment (page_down g.vaddr) (g.perm is 3 ⇒ page_up bss.start else page_up (g.vaddr + g.memsz)) g.perm

abbrev pub kept : VirtRange → List Segment → List UserSegment
kept bss gs = filter (λ s. s.range.start below s.range.end) (map (user_segment bss) gs)

-- the bss of a program
abbrev pub program_bss : Program → VirtRange
program_bss p = bss_of p.segments

-- and the segments that are recorded of it
abbrev pub program_segments : Program → List UserSegment
program_segments p = kept (program_bss p) p.segments

-- 30 for the layout; 31 for over 15 recorded segments; or 0
abbrev pub layout_error : Setup → Program → ℕ
layout_error setup p =
    not (layout_ok setup p.segments) ⇒ 30 else
    length (program_segments p) above 15 ⇒ 31 else
    0

-- what an image is refused with by start and replace: 30 for any number of its reader's, then what its program is refused with; or 0
abbrev pub image_error : Setup → Form → List ℕ → ℕ
image_error setup form image = read_error setup form image isnt 0 ⇒ 30 else layout_error setup (program_of setup form image)

-- the pages that a start takes, ascending: the recorded segments', the bss's, the stack's
abbrev pub start_pieces : Setup → Program → List UserSegment
start_pieces setup p = program_segments p ++ bss_segment (program_bss p) ∷ stack setup ∷ []

-- a page holds its file bytes and zero elsewhere
abbrev pub file_byte : List Segment → ℕ → ℕ
file_byte [] a = 0
file_byte (g ∷ gs) a = in_file a g ⇒ get_or g.file (a - g.vaddr) 0 else file_byte gs a

-- what stands at each address of a program's pages before arguments are pushed
abbrev pub cell_of : ℕ → Option ℕ → Option Cell
cell_of byte None = None
cell_of byte (Some perm) = Some (record { perm = perm; byte = byte })

abbrev pub loaded : Setup → Program → Mem
loaded setup p a = cell_of (file_byte p.segments a) (perm_at (start_pieces setup p) a)

-- ---- arguments

-- bytes and lengths stand for a list of arguments
abbrev pub args_of : List ℕ → List ℕ → List (List ℕ)
args_of bytes [] = []
args_of bytes (n ∷ ns) = take n bytes ∷ args_of (drop n bytes) ns

-- the strings, each with its NUL
abbrev pub strings : List (List ℕ) → List ℕ
strings [] = []
strings (a ∷ args) = a ++ 0 ∷ strings args

-- `stack_size`: strings with NULs rounded up to 8, + 8 × (count + 1) + 8
abbrev pub stack_size : ℕ → ℕ → ℕ
stack_size size count = (size + 7) / 8 * 8 + 8 * (count + 1) + 8

-- 32 for a NUL in an argument; 33 for arguments over the limit; or 0
abbrev pub args_error : Setup → List (List ℕ) → ℕ
args_error setup args =
    any (has 0) args ⇒ 32 else
    stack_size (length (strings args)) (length args) above arg_limit setup ⇒ 33 else
    0

-- `push_args`: strings end at top; pointers and a null lie below from an 8-aligned place; sp is that place rounded down to 16
abbrev pub strings_at : ℕ → List (List ℕ) → ℕ
strings_at top args = top - length (strings args)

abbrev pub argv_at : ℕ → List (List ℕ) → ℕ
argv_at top args = strings_at top args / 8 * 8 - 8 * (length args + 1)

abbrev pub registers : ℕ → ℕ → List (List ℕ) → UserRegs
registers pc top args = record { pc = pc; sp = argv_at top args / 16 * 16; argc = length args; argv = argv_at top args }

-- a pointer to each string from place s on, then a null
abbrev pub pointers : ℕ → List (List ℕ) → List ℕ
pointers s [] = le_bytes 8 0
pointers s (a ∷ args) = le_bytes 8 s ++ pointers (s + length a + 1) args

-- a push below address 0
abbrev pub below_zero : ℕ → List (List ℕ) → Bool
below_zero top args = strings_at top args / 8 * 8 below 8 * (length args + 1)

-- its copies, place and length, in the Rust's writing order from strings s and pointers p on: of each argument its bytes, its NUL and its
-- pointer; then the null pointer
abbrev pub copies : ℕ → ℕ → List (List ℕ) → List (ℕ × ℕ)
copies s p [] = (p, 8) ∷ []
copies s p (a ∷ args) = (s, length a) ∷ (s + length a, 1) ∷ (p, 8) ∷ copies (s + length a + 1) (p + 8) args

-- the first of them that can't be written names the address
abbrev pub first_bad : Setup → Mem → List (ℕ × ℕ) → Checked
first_bad setup mem [] = Ok tt
first_bad setup mem ((at, len) ∷ more) = access setup mem true at len names Err else first_bad setup mem more

-- whether it may write its strings and its pointers (request 4): a push below address 0 is bad at 0
abbrev pub push_access : Setup → Mem → ℕ → List (List ℕ) → Checked
push_access setup mem top args = below_zero top args ⇒ Err 0 else first_bad setup mem (copies (strings_at top args) (argv_at top args) args)

-- and what it leaves
abbrev pub pushed : ℕ → List (List ℕ) → Mem → Mem
pushed top args mem = write (argv_at top args) (pointers (strings_at top args) args) (write (strings_at top args) (strings args) mem)

-- ---- the arguments of replace

-- what `copy_argv` comes to: a bad address, 35; arguments over the limit, 33; or the arguments
pub data Argv : Type 0 where
  bad : (address : ℕ) → Argv
  over : Argv
  read : (args : List (List ℕ)) → Argv

-- the arguments, none where they are refused
abbrev pub args_read : Argv → List (List ℕ)
args_read (bad address) = []
args_read over = []
args_read (read args) = args

-- the buffer that each string is copied to
unfoldable pub arg_buffer : Setup → List ℕ
arg_buffer setup = replicate (arg_limit setup) 0

-- in reading order: pointer, string, limit, next. `before` are the arguments read so far; each takes 8 bytes of the limit or more,
-- so that arg_limit turns are never used up
abbrev pub argv_from : Setup → Mem → ℕ → List (List ℕ) → ℕ → Argv
argv_from setup mem argv before zero = over
argv_from setup mem argv before (suc turns) =
    let at : ℕ = argv + 8 * length before in
    let s : ℕ = le 8 (bytes_at mem at 8) 0 in
    let str : Str = copy_str setup mem (arg_buffer setup) s in
    let args : List (List ℕ) = before ++ take str.size str.buffer ∷ [] in
    let more : Argv = argv_from setup mem argv args turns in
    access setup mem false at 8 names bad else
    s is 0 ⇒ read before else
    str.access names bad else
    str.size is arg_limit setup ⇒ over else
    stack_size (length (strings args)) (length args) above arg_limit setup ⇒ over else
    more

-- the arguments in the array of pointers at `argv`
unfoldable pub copy_argv : Setup → Mem → ℕ → Argv
copy_argv setup mem argv = argv_from setup mem argv [] (arg_limit setup)
