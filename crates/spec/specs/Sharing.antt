-- Request 10, for the reader: what sharing text and rodata leaves as it was, and what it saves.
-- Assumes nothing.
use Rattle.std.specs.Prelude.{ℕ, suc, ◌+◌, ◌*◌, ◌-◌, ◌≡◌, Bool, true, List, [], ◌∷◌}
use Rattle.spec.specs.Tests.{◌isnt◌, all}
use Rattle.spec.specs.Book.{valid, frame_count, free, text_only, data_only, page_count}
use Rattle.spec.specs.Image.{program_of}
use Rattle.spec.specs.Exec.{start_pieces}
use Rattle.spec.specs.Machine.{Ask, start, fork, Call, accepted, outcome}
use Rattle.spec.specs.World.{State, taken, answer, readable}
use Rattle.spec.specs.History.{state, Begin}
use Rattle.spec.specs.declared.UserSegment.{UserSegment}
use Rattle.spec.specs.declared.Form.{Form}

-- a call of process n
abbrev pub calls : ℕ → Ask → Call
calls n q = record { number = n; ask = q }

-- whether a call is made for other processes than n
abbrev pub elsewhere : ℕ → Call → Bool
elsewhere n c = c.number isnt n

-- frames that hold a page
abbrev pub in_use : State → ℕ
in_use s = frame_count s.store.book - free s.store.book

-- a start, and forks of what it started and of its children, all accepted: the calls, and the processes that live after them
pub data Family (s : State) (form : Form) (image : List ℕ) : List Call → ℕ → Type 0 where
  one : (n : ℕ) (name bytes lengths : List ℕ) → outcome (answer s (calls n (start form image name bytes lengths))) ≡ accepted
      → Family s form image (calls n (start form image name bytes lengths) ∷ []) 1
  one_more : {h : List Call} {k : ℕ} → Family s form image h k → (n child : ℕ) (segments : List UserSegment) → outcome (answer (state s h) (calls n (fork child segments))) ≡ accepted
      → Family s form image (calls n (fork child segments) ∷ h) (suc k)

pub record Sharing : Type 0 where
  -- calls of others, whatever they write, change no byte that a living process reads, shared frames or not
  pub apart : (s : State) → Begin s → (h g : List Call) (n a : ℕ) → valid n ≡ true → taken (state s h) n ≡ true → all (elsewhere n) g ≡ true
      → readable (state (state s h) g) n a ≡ readable (state s h) n a
  -- a child reads what its parent read at the fork, and goes on doing so whatever others do: when its parent is replaced or ended, too
  pub child : (s : State) → Begin s → (h g : List Call) (n child a : ℕ) (segments : List UserSegment) → outcome (answer (state s h) (calls n (fork child segments))) ≡ accepted → all (elsewhere child) g ≡ true
      → readable (state (state s (calls n (fork child segments) ∷ h)) g) child a ≡ readable (state s h) n a
  -- one program and its forks take its text and rodata once, and data, bss and stack for each process
  pub pupils : (s : State) → Begin s → (form : Form) (image : List ℕ) (h : List Call) (k : ℕ) → Family s form image h k
      → in_use (state s h) ≡ page_count (text_only (start_pieces s.setup (program_of s.setup form image))) + k * page_count (data_only (start_pieces s.setup (program_of s.setup form image)))
