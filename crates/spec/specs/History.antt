-- Histories, lines, and demand 3: one claim about whole lists of the ten calls, in any order; demand 2's sentence on arguments; and
-- both of a run of functions.
-- A list of calls has its latest call first, and so has a line. Assumes nothing.
use Rattle.std.specs.Prelude.{ℕ, ◌-◌, ◌≤◌, ◌≡◌, Bool, true, false, not, ◌&&◌, List, [], ◌∷◌, map, length, Option, None, Some}
use Rattle.spec.specs.Tests.{◌is◌, ◌⇒◌else◌, all}
use Rattle.spec.specs.Numbers.{setup_error, arg_limit}
use Rattle.spec.specs.Book.{valid, free, pieces, perm_at}
use Rattle.spec.specs.Frames.{Cell, Mem, sized}
use Rattle.spec.specs.Exec.{args_of, read, args_read, copy_argv}
use Rattle.spec.specs.Machine.{Ask, start, replace, push, break, fork, end, user-range-ok, copy-from-user, copy-to-user, try-copy-str-from-user, Call, Kind, begins, forks, plain, kind, Outcome, accepted, refused, ended, Reply, outcome, Machine, off, feed, judge}
use Rattle.spec.specs.World.{State, sound, taken, view, alone_for, answer, readable, after, Does}
use Rattle.spec.specs.declared.Setup.{Setup}
use Rattle.spec.specs.declared.UserRegs.{UserRegs}
use Rattle.spec.specs.declared.Answer.TheVariants.{Regs}

-- frames, book and records after a list of calls
abbrev pub state : State → List Call → State
state s [] = s
state s (c ∷ earlier) = after (state s earlier) c

-- ---- lines

-- a call of a line with its arguments, and the free frames, of replace those held alone, and the numbers taken before it
pub record Asked : Type 0 where
  pub call : Call
  pub free-before : ℕ
  pub alone-before : ℕ
  pub taken-before : ℕ → Bool

-- and, apart, its answer
pub record Entry : Type 0 where
  pub asked : Asked
  pub answered : Reply

abbrev pub entry : State → Call → Reply → Entry
entry s c r = record {
  asked = record { call = c; free-before = free s.store.book; alone-before = alone_for s c; taken-before = taken s };
  answered = r;
}

-- the entries of a list of calls
abbrev pub entries : State → List Call → List Entry
entries s [] = []
entries s (c ∷ earlier) = entry (state s earlier) c (answer (state s earlier) c) ∷ entries s earlier

-- a line for each number
abbrev pub Lines : Type 0
Lines = ℕ → List Entry

abbrev pub put : {A : Type 0} → (ℕ → A) → ℕ → A → ℕ → A
put f n x p = p is n ⇒ x else f p

-- each later call with a living process's number is of its line, refused ones too
abbrev pub later : Lines → Entry → ℕ → Lines
later l e n = e.asked.taken-before n ⇒ put l n (e ∷ l n) else l

-- a line begins with an accepted start; a fork counts for the parent, and a child's line is its parent's up to and with the fork;
-- a start on a taken number counts for nobody
abbrev pub join : Lines → Entry → ℕ → Kind → Outcome → Lines
join l e n begins accepted = put l n (e ∷ [])
join l e n begins refused = l
join l e n begins ended = l
join l e n (forks child segments) accepted = put (later l e n) child (e ∷ l n)
join l e n (forks child segments) refused = later l e n
join l e n (forks child segments) ended = later l e n
join l e n plain o = later l e n

-- each number's line in a list of entries; a dead number keeps its last line
abbrev pub lines_of : List Entry → Lines
lines_of [] = λ n. []
lines_of (e ∷ earlier) = join (lines_of earlier) e e.asked.call.number (kind e.asked.call.ask) (outcome e.answered)

-- and after a list of calls
abbrev pub lines : State → List Call → Lines
lines s h = lines_of (entries s h)

-- a process lives from its line's start to an answer that says it ended or an accepted end, which leave its machine nothing
abbrev pub machine : Setup → List Entry → Machine
machine setup [] = off setup
machine setup (e ∷ earlier) = feed (machine setup earlier) e.asked.call.ask (outcome e.answered)

-- the byte that a machine holds at an address, and the permission
abbrev pub byte_in : Option Cell → Option ℕ
byte_in None = None
byte_in (Some c) = Some c.byte

abbrev pub held : Machine → ℕ → Option ℕ
held m a = byte_in (m.mem a)

abbrev pub perm_in : Option Cell → Option ℕ
perm_in None = None
perm_in (Some c) = Some c.perm

abbrev pub held_perm : Machine → ℕ → Option ℕ
held_perm m a = perm_in (m.mem a)

-- each answer of a line is what items 3 to 6 and the table give over what the machine held, the free frames, of replace those held
-- alone, and the numbers taken before the call
abbrev pub Explained : Setup → List Entry → Type 0
Explained setup [] = Unit {0}
Explained setup (e ∷ earlier) =
    (e.answered ≡ judge (machine setup earlier) e.asked.free-before e.asked.alone-before e.asked.taken-before e.asked.call)
    × Explained setup earlier

-- ---- demand 3

-- what the records' types say: sixteen records of sixteen segment places and 28 name bytes
abbrev pub typed : State → Bool
typed s = length s.procs.all is 16 && all (λ p. length p.segments is 16 && length p.text is 28) s.procs.all

-- an accepted setup, and a sound book with no process, sized as number 1 wants
pub record Begin (s : State) : Type 0 where
  pub types : typed s ≡ true
  pub sizes : sized s.store ≡ true
  pub setup : setup_error s.setup ≡ 0
  pub book : sound s ≡ true
  pub nobody : (n : ℕ) → taken s n ≡ false

pub record Claim : Type 0 where
  -- the setup never changes
  pub setup : (s : State) (h : List Call) → (state s h).setup ≡ s.setup
  -- after any calls, each process's readable addresses and bytes are those of the machine fed its line
  pub bytes : (s : State) → Begin s → (h : List Call) (n a : ℕ) → valid n ≡ true → readable (state s h) n a ≡ held (machine s.setup (lines s h n)) a
  -- which holds a byte for each address of its segments' and its bss's pages, with their permissions
  pub pages : (s : State) → Begin s → (h : List Call) (n a : ℕ) → valid n ≡ true
      → held_perm (machine s.setup (lines s h n)) a ≡ perm_at (pieces (machine s.setup (lines s h n)).segments (machine s.setup (lines s h n)).bss) a
  -- a number is taken while its process lives by its line: while the machine holds segments
  pub numbers : (s : State) → Begin s → (h : List Call) (n : ℕ) → valid n ≡ true
      → taken (state s h) n ≡ not (length (machine s.setup (lines s h n)).segments is 0)
  -- each answer of each line is what the table gives over that machine
  pub answers : (s : State) → Begin s → (h : List Call) (n : ℕ) → Explained s.setup (lines s h n)
  -- two histories with the same setup and the same line, equally many free frames, for replace equally many held alone, and the same
  -- numbers taken before each call of it, give equal answers and equal bytes
  pub alike : (s t : State) → Begin s → Begin t → s.setup ≡ t.setup → (h g : List Call) (n : ℕ) → valid n ≡ true
      → map (λ e. e.asked) (lines s h n) ≡ map (λ e. e.asked) (lines t g n)
      → (map (λ e. e.answered) (lines s h n) ≡ map (λ e. e.answered) (lines t g n))
      × ((a : ℕ) → readable (state s h) n a ≡ readable (state t g) n a)

-- ---- demand 2's last sentence: pushed arguments read back as given, and top minus stack pointer is at most the argument limit

-- registers tell of arguments that were pushed below `top`
pub record ArgsAt (setup : Setup) (mem : Mem) (top : ℕ) (args : List (List ℕ)) (regs : UserRegs) : Type 0 where
  pub count : regs.argc ≡ length args
  pub read_back : copy_argv setup mem regs.argv ≡ read args
  pub near : (regs.sp ≤ top) × (top - regs.sp ≤ arg_limit setup)

-- what registers that were answered tell of memory after the call: of start and push the arguments given, of replace those that it
-- read before; no other call answers registers
abbrev pub ArgsRead : Machine → Ask → Mem → UserRegs → Type 0
ArgsRead m (start form image name bytes lengths) mem regs = ArgsAt m.setup mem m.setup.ustktop (args_of bytes lengths) regs
ArgsRead m (replace form image name argv) mem regs = ArgsAt m.setup mem m.setup.ustktop (args_read (copy_argv m.setup m.mem argv)) regs
ArgsRead m (push pc top bytes lengths) mem regs = ArgsAt m.setup mem top (args_of bytes lengths) regs
ArgsRead m (break addr) mem regs = ⊥
ArgsRead m (fork child segments) mem regs = ⊥
ArgsRead m end mem regs = ⊥
ArgsRead m (user-range-ok addr len write) mem regs = ⊥
ArgsRead m (copy-from-user buffer src) mem regs = ⊥
ArgsRead m (copy-to-user dst bytes) mem regs = ⊥
ArgsRead m (try-copy-str-from-user buffer src) mem regs = ⊥

-- after any calls
abbrev pub Arguments : Type 0
Arguments =
    (s : State) → Begin s → (h : List Call) (c : Call) (regs : UserRegs) → (answer (state s h) c).says ≡ Regs regs
    → ArgsRead (view (state s h) c.number) c.ask (view (state s (c ∷ h)) c.number).mem regs

-- ---- the tie to the code

-- a run of functions, each of which did what its contract says: the entries of its calls, with what the functions answered, and the
-- state that it led to
pub data Ran (s : State) : List Entry → State → Type 0 where
  none_yet : Ran s [] s
  one_more : {h : List Entry} {t u : State} {c : Call} {r : Reply} → Ran s h t → Does t c u r → Ran s (entry t c r ∷ h) u

-- what a program that calls them in any order may rely on
pub record Runs : Type 0 where
  -- each call finds the setup of the beginning, and frames and book sized and sound, so that 38 and 39 are never answered, and 1 and 2 only
  -- for lengths and lists that don't fit
  pub found : (s t : State) → Begin s → (h : List Entry) → Ran s h t → (t.setup ≡ s.setup) × (sized t.store ≡ true) × (sound t ≡ true)
  -- readable addresses and bytes are those of the machine fed the process's line
  pub bytes : (s t : State) → Begin s → (h : List Entry) → Ran s h t → (n a : ℕ) → valid n ≡ true → readable t n a ≡ held (machine s.setup (lines_of h n)) a
  -- a number is taken while that machine holds segments
  pub numbers : (s t : State) → Begin s → (h : List Entry) → Ran s h t → (n : ℕ) → valid n ≡ true
      → taken t n ≡ not (length (machine s.setup (lines_of h n)).segments is 0)
  -- what a function answers next is what the table gives over that machine, the free frames, of replace those held alone, and the
  -- numbers taken
  pub answers : (s t u : State) → Begin s → (h : List Entry) → Ran s h t → (c : Call) (r : Reply) → Does t c u r
      → r ≡ judge (machine s.setup (lines_of h c.number)) (free t.store.book) (alone_for t c) (taken t) c
  -- registers that it answers tell of the arguments
  pub arguments : (s t u : State) → Begin s → (h : List Entry) → Ran s h t → (c : Call) (r : Reply) (regs : UserRegs) → Does t c u r → r.says ≡ Regs regs
      → ArgsRead (view t c.number) c.ask (view u c.number).mem regs
  -- two runs with the same setup and the same line, equally many free frames, for replace equally many held alone, and the same numbers
  -- taken before each call of it, have had equal answers to it from the functions and end with equal bytes
  pub alike : (s t u v : State) → Begin s → Begin u → s.setup ≡ u.setup → (h g : List Entry) → Ran s h t → Ran u g v → (n : ℕ) → valid n ≡ true
      → map (λ e. e.asked) (lines_of h n) ≡ map (λ e. e.asked) (lines_of g n)
      → (map (λ e. e.answered) (lines_of h n) ≡ map (λ e. e.answered) (lines_of g n))
      × ((a : ℕ) → readable t n a ≡ readable v n a)
