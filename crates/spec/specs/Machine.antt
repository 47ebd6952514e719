-- The ten calls and their answers; the plain machine: what one process holds, what a call answers over it, what a call makes of it.
-- Nothing here knows of frames, a book or other processes. Assumes nothing.
use Rattle.std.specs.Prelude.{ℕ, ◌+◌, ◌%◌, Bool, true, false, not, ◌&&◌, ◌||◌, List, [], ◌∷◌, ◌++◌, length, None, Some}
use Rattle.spec.specs.Tests.{◌is◌, ◌isnt◌, ◌above◌, ◌⇒◌else◌, same, sum}
use Rattle.spec.specs.Numbers.{page_up}
use Rattle.spec.specs.Book.{valid, range, stack, same_segment, data_only, pieces, page_count}
use Rattle.spec.specs.Frames.{Mem}
use Rattle.spec.specs.Access.{◌names◌else◌, access, bytes_at, write, Str, copy_str}
use Rattle.spec.specs.Program.{Program}
use Rattle.spec.specs.Image.{program_of}
use Rattle.spec.specs.Exec.{image_error, program_segments, program_bss, start_pieces, loaded, args_of, args_error, registers, push_access, pushed, Argv, bad, over, read, args_read, copy_argv}
use Rattle.spec.specs.Segment.{Break, ibrk, moved}
use Rattle.spec.specs.declared.Setup.{Setup}
use Rattle.spec.specs.declared.Form.{Form}
use Rattle.spec.specs.declared.VirtRange.{VirtRange}
use Rattle.spec.specs.declared.UserSegment.{UserSegment}
use Rattle.spec.specs.declared.UserRegs.{UserRegs}
use Rattle.spec.specs.declared.Answer.{Answer}
use Rattle.spec.specs.declared.Answer.TheVariants.{Regs, Value, Done, No, Refused, Ended, RefusedAt, EndedAt}

-- ---- calls and answers

-- the ten calls with their arguments: bytes of lent buffers, fork's lent list, and the form of an image (request 9) among them
pub data Ask : Type 0 where
  start : (form : Form) (image name bytes lengths : List ℕ) → Ask
  replace : (form : Form) (image name : List ℕ) (argv : ℕ) → Ask
  push : (pc top : ℕ) (bytes lengths : List ℕ) → Ask
  break : (addr : ℕ) → Ask
  fork : (child : ℕ) (segments : List UserSegment) → Ask
  end : Ask
  user-range-ok : (addr len : ℕ) (write : Bool) → Ask
  copy-from-user : (buffer : List ℕ) (src : ℕ) → Ask
  copy-to-user : (dst : ℕ) (bytes : List ℕ) → Ask
  try-copy-str-from-user : (buffer : List ℕ) (src : ℕ) → Ask

-- all that a call is given but setup, frames, book and records
pub record Call : Type 0 where
  pub number : ℕ  -- the process's; of fork the parent's
  pub ask : Ask

-- a call of process n
abbrev pub call : ℕ → Ask → Call
call n q = record { number = n; ask = q }

-- all that a call gives back but frames, book and records: its answer, and its lent buffer afterwards
pub record Reply : Type 0 where
  pub says : Answer
  pub buffer : List ℕ

-- a call was accepted, refused, or ended the process
pub data Outcome : Type 0 where
  accepted refused ended : Outcome

abbrev pub outcome_of : Answer → Outcome
outcome_of (Regs regs) = accepted
outcome_of (Value value) = accepted
outcome_of Done = accepted
outcome_of (No address) = accepted
outcome_of (Refused number) = refused
outcome_of (Ended number) = ended
outcome_of (RefusedAt address) = refused
outcome_of (EndedAt address) = ended

abbrev pub outcome : Reply → Outcome
outcome r = outcome_of r.says

-- the table's number of an answer, or 0 if accepted
abbrev pub number_of : Answer → ℕ
number_of (Regs regs) = 0
number_of (Value value) = 0
number_of Done = 0
number_of (No address) = 0
number_of (Refused number) = number
number_of (Ended number) = number
number_of (RefusedAt address) = 35
number_of (EndedAt address) = 35

-- its values: a refusal answers zeros, but for the bad address (request 4)
abbrev pub zero_regs : UserRegs
zero_regs = record { pc = 0; sp = 0; argc = 0; argv = 0 }

abbrev pub regs_of : Answer → UserRegs
regs_of (Regs regs) = regs
regs_of (Value value) = zero_regs
regs_of Done = zero_regs
regs_of (No address) = zero_regs
regs_of (Refused number) = zero_regs
regs_of (Ended number) = zero_regs
regs_of (RefusedAt address) = zero_regs
regs_of (EndedAt address) = zero_regs

abbrev pub value_of : Answer → ℕ
value_of (Regs regs) = 0
value_of (Value value) = value
value_of Done = 0
value_of (No address) = address
value_of (Refused number) = 0
value_of (Ended number) = 0
value_of (RefusedAt address) = address
value_of (EndedAt address) = address

-- the buffer that a call is lent
abbrev pub lent : Ask → List ℕ
lent (start form image name bytes lengths) = []
lent (replace form image name argv) = []
lent (push pc top bytes lengths) = []
lent (break addr) = []
lent (fork child segments) = []
lent end = []
lent (user-range-ok addr len write) = []
lent (copy-from-user buffer src) = buffer
lent (copy-to-user dst bytes) = []
lent (try-copy-str-from-user buffer src) = buffer

-- an answer with no lent buffer
abbrev pub plainly : Answer → Reply
plainly a = record { says = a; buffer = [] }

-- a refusal changes nothing
abbrev pub refuse : ℕ → Ask → Reply
refuse number q = record { says = Refused number; buffer = lent q }

-- ---- the machine

-- segments with permissions, a bss, and a byte for each address of their pages; and the setup, which never changes
pub record Machine : Type 0 where
  pub setup : Setup
  pub segments : List UserSegment
  pub bss : VirtRange
  pub mem : Mem

-- nothing left
abbrev pub off : Setup → Machine
off setup = record { setup = setup; segments = []; bss = range 0 0; mem = λ a. None }

-- ---- what a call answers, over what the machine holds, the free frames, for replace those held alone, and the numbers taken

-- 1: argument lengths sum to their bytes
abbrev pub lengths_fit : Ask → Bool
lengths_fit (start form image name bytes lengths) = sum lengths is length bytes
lengths_fit (replace form image name argv) = true
lengths_fit (push pc top bytes lengths) = sum lengths is length bytes
lengths_fit (break addr) = true
lengths_fit (fork child segments) = true
lengths_fit end = true
lengths_fit (user-range-ok addr len write) = true
lengths_fit (copy-from-user buffer src) = true
lengths_fit (copy-to-user dst bytes) = true
lengths_fit (try-copy-str-from-user buffer src) = true

-- for 2 to 5 and for lines: a call begins a process, forks one, or is made by a living one for itself
pub data Kind : Type 0 where
  begins : Kind
  forks : (child : ℕ) (segments : List UserSegment) → Kind
  plain : Kind

abbrev pub kind : Ask → Kind
kind (start form image name bytes lengths) = begins
kind (replace form image name argv) = plain
kind (push pc top bytes lengths) = plain
kind (break addr) = plain
kind (fork child segments) = forks child segments
kind end = plain
kind (user-range-ok addr len write) = plain
kind (copy-from-user buffer src) = plain
kind (copy-to-user dst bytes) = plain
kind (try-copy-str-from-user buffer src) = plain

-- 2: fork's lent list is the record's segments (a number outside 1 to 16 has no record, and is 3's)
abbrev pub list_fits : Machine → ℕ → Kind → Bool
list_fits m n begins = true
list_fits m n (forks child segments) = not (valid n) || same same_segment segments m.segments
list_fits m n plain = true

-- 3: the number is 1 to 16; of fork both
abbrev pub numbered : ℕ → Kind → Bool
numbered n begins = valid n
numbered n (forks child segments) = valid n && valid child
numbered n plain = valid n

-- 4: the process lives; of fork the parent
abbrev pub living : (ℕ → Bool) → ℕ → Kind → Bool
living taken n begins = true
living taken n (forks child segments) = taken n
living taken n plain = taken n

-- 5: the new process's number doesn't live
abbrev pub unclaimed : (ℕ → Bool) → ℕ → Kind → Bool
unclaimed taken n begins = not (taken n)
unclaimed taken n (forks child segments) = not (taken child)
unclaimed taken n plain = true

-- Request 10: what fork copies: data, bss and stack
abbrev pub copied : Machine → ℕ
copied m = page_count (data_only (pieces m.segments m.bss))

-- Request 10: whether a call is a replace, the only one that weighs the frames that its process holds alone
abbrev pub replaces : Ask → Bool
replaces (start form image name bytes lengths) = false
replaces (replace form image name argv) = true
replaces (push pc top bytes lengths) = false
replaces (break addr) = false
replaces (fork child segments) = false
replaces end = false
replaces (user-range-ok addr len write) = false
replaces (copy-from-user buffer src) = false
replaces (copy-to-user dst bytes) = false
replaces (try-copy-str-from-user buffer src) = false

-- start (`exec`), by its image's number and its program: 32, 33 arguments, 30, 31, 33 frames
abbrev pub weigh_start : Setup → ℕ → ℕ → Program → List (List ℕ) → Answer
weigh_start setup free error program args =
    args_error setup args isnt 0 ⇒ Refused (args_error setup args) else
    error isnt 0 ⇒ Refused error else
    page_count (start_pieces setup program) above free ⇒ Refused 33 else
    Regs (registers program.entry setup.ustktop args)

-- replace (`sysexec` after reading): 30, 31, then `copy_argv`'s 35 or 33 in reading order, then 33 if the frames that it holds alone
-- and the free ones don't suffice; 35 and the last 33 end the process
abbrev pub weigh_read : Setup → ℕ → ℕ → Program → Argv → Answer
weigh_read setup free alone program (bad address) = EndedAt address
weigh_read setup free alone program over = Refused 33
weigh_read setup free alone program (read args) =
    page_count (start_pieces setup program) above alone + free ⇒ Ended 33 else
    Regs (registers program.entry setup.ustktop args)

abbrev pub weigh_replace : Setup → ℕ → ℕ → ℕ → Program → Argv → Answer
weigh_replace setup free alone error program argv =
    error isnt 0 ⇒ Refused error else
    weigh_read setup free alone program argv

-- push: 36, 32, 33, 35
abbrev pub weigh_push : Machine → ℕ → ℕ → List (List ℕ) → Answer
weigh_push m pc top args =
    top % 16 isnt 0 ⇒ Refused 36 else
    args_error m.setup args isnt 0 ⇒ Refused (args_error m.setup args) else
    push_access m.setup m.mem top args names EndedAt else
    Regs (registers pc top args)

-- break: `ibrk`'s rule; a living process has a bss
abbrev pub weigh_break : Break → Answer
weigh_break b =
    b.error isnt 0 ⇒ Refused b.error else
    Value b.value

-- the string copy called by itself: 35 ends nothing
abbrev pub weigh_str : Str → Answer
weigh_str s = s.access names RefusedAt else Value s.size

-- after 1 to 5, each call's own numbers in its order
abbrev pub weigh : Machine → ℕ → ℕ → Ask → Reply
weigh m free alone (start form image name bytes lengths) = plainly (weigh_start m.setup free (image_error m.setup form image) (program_of m.setup form image) (args_of bytes lengths))
weigh m free alone (replace form image name argv) = plainly (weigh_replace m.setup free alone (image_error m.setup form image) (program_of m.setup form image) (copy_argv m.setup m.mem argv))
weigh m free alone (push pc top bytes lengths) = plainly (weigh_push m pc top (args_of bytes lengths))
weigh m free alone (break addr) = plainly (weigh_break (ibrk m.setup (Some m.bss) addr free))
weigh m free alone (fork child segments) = plainly (copied m above free ⇒ Refused 33 else Done)
weigh m free alone end = plainly Done
weigh m free alone (user-range-ok addr len write) = plainly (access m.setup m.mem write addr len names No else Value 1)
weigh m free alone (copy-from-user buffer src) =
    access m.setup m.mem false src (length buffer) names (λ address. record { says = EndedAt address; buffer = buffer }) else
    record { says = Done; buffer = bytes_at m.mem src (length buffer) }
weigh m free alone (copy-to-user dst bytes) = plainly (access m.setup m.mem true dst (length bytes) names EndedAt else Done)
weigh m free alone (try-copy-str-from-user buffer src) =
    let str : Str = copy_str m.setup m.mem buffer src in
    record { says = weigh_str str; buffer = str.buffer }

-- the table: 1 to 5 come first, in that order
unfoldable pub judge : Machine → ℕ → ℕ → (ℕ → Bool) → Call → Reply
judge m free alone taken c =
    not (lengths_fit c.ask) ⇒ refuse 1 c.ask else
    not (list_fits m c.number (kind c.ask)) ⇒ refuse 2 c.ask else
    not (numbered c.number (kind c.ask)) ⇒ refuse 3 c.ask else
    not (living taken c.number (kind c.ask)) ⇒ refuse 4 c.ask else
    not (unclaimed taken c.number (kind c.ask)) ⇒ refuse 5 c.ask else
    weigh m free alone c.ask

-- ---- what a call makes of the machine

abbrev pub with_mem : Machine → Mem → Machine
with_mem m mem = record { setup = m.setup; segments = m.segments; bss = m.bss; mem = mem }

-- start: segments, bss and stack of a program, file bytes in place, 0 elsewhere; then the arguments pushed
abbrev pub begun : Setup → Program → List (List ℕ) → Machine
begun setup program args = record {
  setup = setup;
  segments = program_segments program ++ stack setup ∷ [];
  bss = program_bss program;
  mem = pushed setup.ustktop args (loaded setup program);
}

-- break: the bss end becomes `top`
abbrev pub moved_to : ℕ → Machine → Machine
moved_to top m = record { setup = m.setup; segments = m.segments; bss = range m.bss.start top; mem = moved m.bss.end top m.mem }

-- an accepted call; fork, reads and checks make no change
abbrev pub run : Machine → Ask → Machine
run m (start form image name bytes lengths) = begun m.setup (program_of m.setup form image) (args_of bytes lengths)
run m (replace form image name argv) = begun m.setup (program_of m.setup form image) (args_read (copy_argv m.setup m.mem argv))
run m (push pc top bytes lengths) = with_mem m (pushed top (args_of bytes lengths) m.mem)
run m (break addr) = addr is 0 ⇒ m else moved_to (page_up addr) m
run m (fork child segments) = m
run m end = off m.setup
run m (user-range-ok addr len write) = m
run m (copy-from-user buffer src) = m
run m (copy-to-user dst bytes) = with_mem m (write dst bytes m.mem)
run m (try-copy-str-from-user buffer src) = m

-- of an answer the machine is told only whether the call was accepted, refused or ended the process
abbrev pub feed : Machine → Ask → Outcome → Machine
feed m ask accepted = run m ask
feed m ask refused = m
feed m ask ended = off m.setup
