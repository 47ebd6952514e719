-- Answers as C sees them, the one form of the exported calls' contracts, and runs of exported functions. Who links the library
-- believes this module besides the specification: `Tells` is `Does` with the answer in numbers, and demand 3 holds of such runs.
-- Assumes nothing.
use Rattle.std.specs.Prelude.{ℕ, ◌≡◌, List, [], ◌∷◌, map}
use Rattle.spec.specs.Machine.{number_of, regs_of, value_of, Call}
use Rattle.spec.specs.World.{State, after, answer}
use Rattle.spec.specs.History.{Entry, Ran}
use Rattle.spec.specs.declared.Answer.{Answer}
use Rattle.spec.specs.declared.Answer.TheVariants.{Regs, Value, Done, No, Refused, Ended, RefusedAt, EndedAt}
use Rattle.holthrimi.specs.declared.told.Told.{Told}

-- 0 accepted, 1 refused, 2 ended; and 3 for a range that can't be accessed (request 4), since any value, 1 too, may be its bad address
abbrev pub kind_of : Answer → ℕ
kind_of (Regs regs) = 0
kind_of (Value value) = 0
kind_of Done = 0
kind_of (No address) = 3
kind_of (Refused number) = 1
kind_of (Ended number) = 2
kind_of (RefusedAt address) = 1
kind_of (EndedAt address) = 2

-- an answer in numbers: its kind, the table's number or 0, its value, which is the bad address where there is one, and its registers;
-- zeros where it has none
abbrev pub told_of : Answer → Told
told_of a = record { kind = kind_of a; number = number_of a; value = value_of a; regs = regs_of a }

-- `Does`, with the answer told in numbers: what a call that found s leaves, tells and gives back in its lent buffer are the
-- definitions'
pub record Tells (s : State) (c : Call) (t : State) (o : Told) (buffer : List ℕ) : Type 0 where
  pub left : t ≡ after s c
  pub said : o ≡ told_of (answer s c).says
  pub lent : buffer ≡ (answer s c).buffer

-- ---- runs of exported functions

-- a call, with what its function told and left in its lent buffer
pub record Heard : Type 0 where
  pub call : Call
  pub told : Told
  pub buffer : List ℕ

-- a run of exported functions, each of which did what its contract says, and the state that it led to
pub data Linked (s : State) : List Heard → State → Type 0 where
  no_call : Linked s [] s
  one-call : {h : List Heard} {t u : State} {c : Call} {o : Told} {b : List ℕ} → Linked s h t → Tells t c u o b
      → Linked s (record { call = c; told = o; buffer = b } ∷ h) u

-- an entry of a run under `Does`, as C hears it
abbrev pub heard_of : Entry → Heard
heard_of e = record { call = e.asked.call; told = told_of e.answered.says; buffer = e.answered.buffer }

-- it is a run under `Does` that C heard: what `Runs` says of lines, bytes and answers holds of it
abbrev pub LinkedRuns : Type 0
LinkedRuns = (s t : State) (h : List Heard) → Linked s h t → (k : List Entry) × (Ran s k t × (h ≡ map heard_of k))
