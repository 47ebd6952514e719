-- Short histories on the 184-byte image and an a.out, computed under a small setup: a process starts, writes, breaks and forks, and
-- parent and child differ afterwards; frames are few and text is shared; and setups that are turned away.
use mathlib.Core.Path.{◌≡◌, refl}
use mathlib.Core.Bool.{true, false}
use mathlib.Core.List.{List, [], ◌∷◌, map}
use Prim.Native.Nat.{ℕ, ◌-◌, ◌*◌}
use lib.ListN.{replicate, set}
use Rattle.spec.specs.Tests.{ascii}
use Rattle.spec.specs.Flags.{built_in, flags_ok}
use Rattle.spec.specs.Numbers.{setup_ok, setup_error, page_bytes, zero_page}
use Rattle.spec.specs.Book.{zero_proc, segment, stack}
use Rattle.spec.specs.Frames.{place, share, release, pokes}
use Rattle.spec.specs.Access.{access}
use Rattle.spec.specs.Sound.{sound_book}
use Rattle.spec.specs.Elf.{ehdr_error, phdrs, power_of_two, align_ok, phdr_error, segments_of, elf_error}
use Rattle.spec.specs.Aout.{aout_error}
use Rattle.spec.specs.Exec.{arg_buffer, copy_argv}
use Rattle.spec.specs.Segment.{ibrk}
use Rattle.spec.specs.Machine.{start, replace, break, fork, end, user-range-ok, copy-from-user, copy-to-user, try-copy-str-from-user, Call, call, Reply, number_of, value_of, judge}
use Rattle.spec.specs.World.{State, answer, after}
use Rattle.spec.specs.declared.Setup.{Setup}
use Rattle.spec.specs.declared.Form.TheVariants.{Elf, Aout}
use Rattle.spec.proofs.Examples.{image184, aout}

-- a school's setup: 1 MB of addresses, one page of stack
abbrev school : Setup
school = record { utzero = 65536; ustktop = 1048576; ustksize = 4096; uaddrtop = 1048576; flags = built_in }

-- frames and book with no process
abbrev fresh : Setup → ℕ → State
fresh setup n = record { setup = setup; store = record { frames = replicate (4096 * n) 0; book = replicate (17 * n) 0 }; procs = record { all = replicate 16 zero_proc } }

-- the answers of calls, first call first
abbrev play : State → List Call → List Reply
play s [] = []
play s (c ∷ cs) =
    let t : State = after s c in
    answer s c ∷ play t cs

-- of an answer its number, its value and its buffer
abbrev told : Reply → List ℕ
told r = number_of r.says ∷ value_of r.says ∷ r.buffer

-- the process starts with two arguments; its data hold file bytes; it writes; its break grows and the new page is zero; it forks; each
-- writes its own byte and reads its own; the break shrinks inside a page and the tail stays; a range up to its page's end passes, and one
-- byte more is bad at that end (request 4); a string is read; a write to text ends the child, with its address
abbrev calls : List Call
calls =
    call 1 (start Elf image184 (ascii "bin/lex") (ascii "lexmot") (3 ∷ 3 ∷ []))
    ∷ call 1 (copy-from-user (replicate 6 9) 69812)
    ∷ call 1 (copy-to-user 73730 (5 ∷ 6 ∷ []))
    ∷ call 1 (break 77825)
    ∷ call 1 (copy-from-user (replicate 3 9) 77823)
    ∷ call 1 (fork 2 (segment 65536 69632 1 ∷ segment 69632 73728 3 ∷ stack school ∷ []))
    ∷ call 2 (copy-to-user 73730 (7 ∷ []))
    ∷ call 1 (copy-from-user (replicate 2 9) 73730)
    ∷ call 2 (copy-from-user (replicate 2 9) 73730)
    ∷ call 1 (break 73729)
    ∷ call 1 (copy-from-user (replicate 2 9) 73730)
    ∷ call 1 (user-range-ok 77823 1 false)
    ∷ call 1 (user-range-ok 77823 2 false)
    ∷ call 1 (try-copy-str-from-user (replicate 5 9) (school.ustktop - 8))
    ∷ call 2 (copy-to-user 65536 (1 ∷ []))
    ∷ call 2 (break 0)
    ∷ call 1 end
    ∷ []

pub played : map told (play (fresh school 10) calls)
    ≡ (0 ∷ 0 ∷ []) ∷ (0 ∷ 0 ∷ 1 ∷ 2 ∷ 3 ∷ 4 ∷ 0 ∷ 0 ∷ []) ∷ (0 ∷ 0 ∷ []) ∷ (0 ∷ 0 ∷ []) ∷ (0 ∷ 0 ∷ 0 ∷ 0 ∷ 0 ∷ []) ∷ (0 ∷ 0 ∷ []) ∷ (0 ∷ 0 ∷ [])
    ∷ (0 ∷ 0 ∷ 5 ∷ 6 ∷ []) ∷ (0 ∷ 0 ∷ 7 ∷ 6 ∷ []) ∷ (0 ∷ 0 ∷ []) ∷ (0 ∷ 0 ∷ 5 ∷ 6 ∷ []) ∷ (0 ∷ 1 ∷ []) ∷ (0 ∷ 77824 ∷ []) ∷ (0 ∷ 3 ∷ 108 ∷ 101 ∷ 120 ∷ 9 ∷ 9 ∷ [])
    ∷ (35 ∷ 65536 ∷ []) ∷ (4 ∷ 0 ∷ []) ∷ (0 ∷ 0 ∷ []) ∷ []
unfolding setup_ok flags_ok setup_error ehdr_error phdrs power_of_two align_ok phdr_error segments_of elf_error ibrk access arg_buffer copy_argv place share release pokes sound_book page_bytes zero_page judge answer after
played = refl

-- ---- its limits

-- a start with arguments over a quarter of its stack; a break one page past its limit, and to it, which wants more frames; its last byte,
-- and an empty range one past it, which is bad at its own start
pub at-school : map told (play (fresh school 4)
    (call 1 (start Elf image184 (ascii "bin/lex") (replicate 1000 7) (1000 ∷ []))
    ∷ call 1 (start Elf image184 (ascii "bin/lex") (replicate 999 7) (999 ∷ []))
    ∷ call 1 (break 1044480)
    ∷ call 1 (break 1040384)
    ∷ call 1 (user-range-ok 1048575 1 true)
    ∷ call 1 (user-range-ok 1048577 0 true)
    ∷ []))
    ≡ (33 ∷ 0 ∷ []) ∷ (0 ∷ 0 ∷ []) ∷ (34 ∷ 0 ∷ []) ∷ (33 ∷ 0 ∷ []) ∷ (0 ∷ 1 ∷ []) ∷ (0 ∷ 1048577 ∷ []) ∷ []
unfolding setup_ok flags_ok setup_error ehdr_error phdrs power_of_two align_ok phdr_error segments_of elf_error ibrk access arg_buffer copy_argv place share release pokes sound_book page_bytes zero_page judge answer after
at-school = refl

-- ---- shared text

abbrev forked : Call
forked = call 1 (fork 2 (segment 65536 69632 1 ∷ segment 69632 73728 3 ∷ stack school ∷ []))

-- the first bytes of a process's text, which are its image's; and a replace by an a.out of as many pages (request 9), with no arguments
abbrev text : ℕ → Call
text n = call n (copy-from-user (replicate 4 9) 65536)

abbrev again : Call
again = call 2 (replace (Aout 3143) (aout 8 8 8000 65568) (ascii "bin/lex") (school.ustktop - 8))

abbrev begin : Call
begin = call 1 (start Elf image184 (ascii "bin/lex") [] [])

-- a start takes four frames, a fork three more
pub too_few : map told (play (fresh school 6) (begin ∷ forked ∷ [])) ≡ (0 ∷ 0 ∷ []) ∷ (33 ∷ 0 ∷ []) ∷ []
unfolding setup_ok flags_ok setup_error ehdr_error phdrs power_of_two align_ok phdr_error segments_of elf_error ibrk access arg_buffer copy_argv place share release pokes sound_book page_bytes zero_page judge answer after
too_few = refl

-- a child that replaces its image wants four, and holds three alone: it ends. Once its parent has ended, a child has the text alone, and
-- becomes the a.out, whose text begins with its magic, and whose data begin at the next page
pub shared : map told (play (fresh school 7) (begin ∷ forked ∷ text 1 ∷ text 2 ∷ again ∷ text 2 ∷ forked ∷ call 1 end ∷ text 2 ∷ again ∷ text 2 ∷ call 2 (copy-from-user (replicate 4 9) 69630) ∷ []))
    ≡ (0 ∷ 0 ∷ []) ∷ (0 ∷ 0 ∷ []) ∷ (0 ∷ 0 ∷ 127 ∷ 69 ∷ 76 ∷ 70 ∷ []) ∷ (0 ∷ 0 ∷ 127 ∷ 69 ∷ 76 ∷ 70 ∷ []) ∷ (33 ∷ 0 ∷ []) ∷ (4 ∷ 0 ∷ 9 ∷ 9 ∷ 9 ∷ 9 ∷ [])
    ∷ (0 ∷ 0 ∷ []) ∷ (0 ∷ 0 ∷ []) ∷ (0 ∷ 0 ∷ 127 ∷ 69 ∷ 76 ∷ 70 ∷ []) ∷ (0 ∷ 0 ∷ []) ∷ (0 ∷ 0 ∷ 0 ∷ 0 ∷ 12 ∷ 71 ∷ []) ∷ (0 ∷ 0 ∷ 0 ∷ 0 ∷ 187 ∷ 187 ∷ []) ∷ []
unfolding setup_ok flags_ok setup_error ehdr_error phdrs power_of_two align_ok phdr_error segments_of elf_error aout_error ibrk access arg_buffer copy_argv place share release pokes sound_book page_bytes zero_page judge answer after
shared = refl

-- ---- bad setups

-- 1 comes before 38, 38 before 39, and both before all else; a flag table is judged whole, whatever an image uses
-- flags 7, readable, writable and executable, as data
abbrev seven_data : List ℕ
seven_data = set built_in 7 3

abbrev bad : Setup
bad = record { utzero = 65536; ustktop = 1048576; ustksize = 4095; uaddrtop = 1048576; flags = seven_data }

abbrev worse : Setup
worse = record { utzero = 65536; ustktop = 1048576; ustksize = 4096; uaddrtop = 1048576; flags = seven_data }

pub turned-away : map told (play (fresh bad 16) (call 1 (start Elf image184 [] [] (1 ∷ [])) ∷ call 17 end ∷ [])) ≡ (1 ∷ 0 ∷ []) ∷ (38 ∷ 0 ∷ []) ∷ []
unfolding setup_ok flags_ok setup_error judge answer after
turned-away = refl

pub table-turned-away : map told (play (fresh worse 16) (call 1 (start Elf image184 [] [] (1 ∷ [])) ∷ call 1 (start Elf image184 [] [] []) ∷ call 17 end ∷ [])) ≡ (1 ∷ 0 ∷ []) ∷ (39 ∷ 0 ∷ []) ∷ (39 ∷ 0 ∷ []) ∷ []
unfolding setup_ok flags_ok setup_error judge answer after
table-turned-away = refl
