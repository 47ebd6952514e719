-- Frames, book and records: what a process holds in them, what a call answers and what it leaves. `Does`, at the end, is the one
-- form of the ten calls' contracts.
-- Assumes nothing.
use Rattle.std.specs.Prelude.{ℕ, ◌-◌, ◌≡◌, Bool, true, not, ◌&&◌, List, [], ◌∷◌, ◌++◌, length, get_or, set, replicate, Option, None, Some}
use Rattle.spec.specs.Tests.{◌is◌, ◌isnt◌, within, ◌⇒◌else◌}
use Rattle.spec.specs.Numbers.{setup_error, page_up, page_bytes, zero_page}
use Rattle.spec.specs.Name.{elem, kstrcpy}
use Rattle.spec.specs.Book.{valid, frame_of, free, alone, data_only, range, segment, zero_segment, zero_proc, lives, used, stack, pieces_of, proc_at}
use Rattle.spec.specs.Frames.{Store, store, sized, mem_of, pages_of, place, share, release, frame_bytes, pokes}
use Rattle.spec.specs.Sound.{sound_book}
use Rattle.spec.specs.Program.{Program}
use Rattle.spec.specs.Image.{program_of}
use Rattle.spec.specs.Exec.{program_segments, program_bss, start_pieces, file_byte, args_of, strings, strings_at, argv_at, pointers, args_read, copy_argv}
use Rattle.spec.specs.Machine.{Ask, start, replace, push, break, fork, end, user-range-ok, copy-from-user, copy-to-user, try-copy-str-from-user, Call, Outcome, accepted, refused, ended, Reply, outcome, refuse, Machine, lengths_fit, replaces, judge}
use Rattle.spec.specs.declared.Setup.{Setup}
use Rattle.spec.specs.declared.Proc.{Proc}
use Rattle.spec.specs.declared.Procs.{Procs}

-- the setup, which is handed to every call, the same each time; frames and book, which are lent to it; and records
pub record State : Type 0 where
  pub setup : Setup
  pub store : Store
  pub procs : Procs

-- the same, of a setup, lent frame bytes and book, and records
abbrev pub state_of : Setup → List ℕ → List ℕ → Procs → State
state_of setup frames book procs = record { setup = setup; store = store frames book; procs = procs }

-- 2: the book is sound
abbrev pub sound : State → Bool
sound s = sound_book s.setup s.store.book s.procs

-- a number is taken while its process lives
abbrev pub taken : State → ℕ → Bool
taken s n = valid n && lives (proc_at s.procs n)

-- what process n holds: the machine of demand 3, read off frames, book and records
abbrev pub view : State → ℕ → Machine
view s n = record {
  setup = s.setup;
  segments = used (proc_at s.procs n).segments;
  bss = (proc_at s.procs n).bss;
  mem = mem_of s.store n;
}

-- ---- the answer

-- the frames that replace's process holds alone; other calls don't ask
abbrev pub alone_for : State → Call → ℕ
alone_for s c = replaces c.ask ⇒ alone s.store.book c.number else 0

-- 1, 38, 39 and 2 judge what is lent and handed over; all else is judged over what the process holds, the free frames, for replace those
-- held alone, and the numbers taken
unfoldable pub answer : State → Call → Reply
answer s c =
    not (sized s.store && lengths_fit c.ask) ⇒ refuse 1 c.ask else
    setup_error s.setup isnt 0 ⇒ refuse (setup_error s.setup) c.ask else
    not (sound s) ⇒ refuse 2 c.ask else
    judge (view s c.number) (free s.store.book) (alone_for s c) (taken s) c

-- readable is an address where `copy_from_user` of one byte would pass now, with the byte it would give
abbrev pub given : Reply → Outcome → Option ℕ
given r accepted = Some (get_or r.buffer 0 0)
given r refused = None
given r ended = None

abbrev pub readable : State → ℕ → ℕ → Option ℕ
readable s n a =
    let one : Reply = answer s (record { number = n; ask = copy-from-user (0 ∷ []) a }) in
    given one (outcome one)

-- ---- the state after a call

-- the record of process n set
abbrev pub set_proc : Procs → ℕ → Proc → Procs
set_proc ps n p = record { all = set ps.all (n - 1) p }

-- `push_args` writes strings, then pointers
abbrev pub push_in : Store → ℕ → ℕ → List (List ℕ) → Store
push_in m n top args = pokes (pokes m n (strings_at top args) (strings args)) n (argv_at top args) (pointers (strings_at top args) args)

-- a process ends: frames free, record zero, frame bytes as before
abbrev pub forget : State → ℕ → State
forget s n = record { setup = s.setup; store = release s.store n (λ page. true); procs = set_proc s.procs n zero_proc }

-- the record of a program: its segments and the stack, the last element of a name, and its bss
abbrev pub proc_of : Setup → Program → List ℕ → Proc
proc_of setup program name = record {
  segments = program_segments program ++ stack setup ∷ replicate (15 - length (program_segments program)) zero_segment;
  text = kstrcpy (elem name);
  bss = program_bss program;
}

-- a program's pages, ascending, then its arguments; and its record
abbrev pub load : State → ℕ → Program → List ℕ → List (List ℕ) → State
load s n program name args = record {
  setup = s.setup;
  store = push_in (place s.store n (pages_of (page_bytes (file_byte program.segments)) (start_pieces s.setup program))) n s.setup.ustktop args;
  procs = set_proc s.procs n (proc_of s.setup program name);
}

-- the bss end moves to `top`: pages past it are freed, new ones are zeroed
abbrev pub brk : State → ℕ → Proc → ℕ → State
brk s n p top = record {
  setup = s.setup;
  store =
      place (release s.store n (within top p.bss.end)) n
      (pages_of zero_page (segment p.bss.end top 3 ∷ []));
  procs = set_proc s.procs n (record { segments = p.segments; text = p.text; bss = range p.bss.start top });
}

-- fork (request 10): text and rodata are shared; data, stack and bss are copied now, segments in record order, then bss; the child
-- takes record and name
abbrev pub copy : State → ℕ → ℕ → Proc → State
copy s n child p = record {
  setup = s.setup;
  store =
      place (share s.store n child) child
      (pages_of (λ a. frame_bytes s.store.frames (frame_of s.store.book n a)) (data_only (pieces_of p)));
  procs = set_proc s.procs child p;
}

abbrev pub with_store : State → Store → State
with_store s m = record { setup = s.setup; store = m; procs = s.procs }

-- an accepted call; replace frees the old pages first, and has read its arguments before
abbrev pub settle : State → ℕ → Ask → State
settle s n (start form image name bytes lengths) = load s n (program_of s.setup form image) name (args_of bytes lengths)
settle s n (replace form image name argv) = load (forget s n) n (program_of s.setup form image) name (args_read (copy_argv s.setup (view s n).mem argv))
settle s n (push pc top bytes lengths) = with_store s (push_in s.store n top (args_of bytes lengths))
settle s n (break addr) = addr is 0 ⇒ s else brk s n (proc_at s.procs n) (page_up addr)
settle s n (fork child segments) = copy s n child (proc_at s.procs n)
settle s n end = forget s n
settle s n (user-range-ok addr len write) = s
settle s n (copy-from-user buffer src) = s
settle s n (copy-to-user dst bytes) = with_store s (pokes s.store n dst bytes)
settle s n (try-copy-str-from-user buffer src) = s

-- a refusal changes nothing; what ends a process frees it
abbrev pub leave : State → Call → Outcome → State
leave s c accepted = settle s c.number c.ask
leave s c refused = s
leave s c ended = forget s c.number

-- frames, book and records after a call
unfoldable pub after : State → Call → State
after s c = leave s c (outcome (answer s c))

-- ---- the one form of all contracts

-- what a call that found s leaves and answers are the definitions'
pub record Does (s : State) (c : Call) (t : State) (r : Reply) : Type 0 where
  pub left : t ≡ after s c
  pub said : r ≡ answer s c
