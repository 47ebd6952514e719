-- Request 7, for the reader: which flag tables there are, that lines and tables stand for each other, and that a user of the built-in
-- table sees no change.
-- Assumes nothing.
use Rattle.std.specs.Prelude.{ℕ, ◌%◌, ◌≡◌, Bool, true, not, ◌&&◌, List, [], ◌∷◌, ◌++◌, map, length}
use Rattle.spec.specs.Tests.{◌is◌, ◌⇒◌else◌, any, same}
use Rattle.spec.specs.Flags.{built_in, flags_ok}
use Rattle.spec.specs.Numbers.{setup_ok}
use Rattle.spec.specs.Book.{free}
use Rattle.spec.specs.Frames.{sized}
use Rattle.spec.specs.Elf.{Phdr, flag_perm}
use Rattle.spec.specs.Machine.{Call, refuse, lengths_fit, judge}
use Rattle.spec.specs.World.{State, sound, taken, view, alone_for, answer}
use Rattle.spec.specs.FlagsText.{flags_text, read_flags}

-- row 4 is rodata or refused; 5 text, rodata or refused; 6 data, rodata or refused; the others are refused
abbrev pub last_rows : List (List ℕ)
last_rows = map (λ c. c ∷ 0 ∷ []) (0 ∷ 2 ∷ 3 ∷ [])

abbrev pub before : List ℕ → List (List ℕ) → List (List ℕ)
before [] rows = []
before (c ∷ cs) rows = map (λ r. c ∷ r) rows ++ before cs rows

abbrev pub tables : List (List ℕ)
tables = map (λ r. 0 ∷ 0 ∷ 0 ∷ 0 ∷ r) (before (0 ∷ 2 ∷ []) (before (0 ∷ 1 ∷ 2 ∷ []) last_rows))

-- a table stands among others
abbrev pub among : List ℕ → List (List ℕ) → Bool
among t ts = any (same ◌is◌ t) ts

-- no table stands twice
abbrev pub distinct : List (List ℕ) → Bool
distinct [] = true
distinct (t ∷ ts) = not (among t ts) && distinct ts

pub record Tables : Type 0 where
  -- the tables of eight rows that the rules accept are these, 18 in all, the built-in one among them
  pub these : (flags : List ℕ) → length flags ≡ 8 → flags_ok flags ≡ among flags tables
  pub eighteen : length tables ≡ 18
  pub each-once : distinct tables ≡ true
  pub with_built_in : among built_in tables ≡ true
  -- what is written of an accepted table is read as that table; and where bytes are read, they are its lines
  pub read_back : (flags : List ℕ) → length flags ≡ 8 → flags_ok flags ≡ true → read_flags (flags_text flags) ≡ record { error = 0; flags = flags }
  pub written_back : (bytes : List ℕ) → (read_flags bytes).error ≡ 0 → (flags_text (read_flags bytes).flags ≡ bytes) × (flags_ok (read_flags bytes).flags ≡ true)
  -- with the built-in table flags stand for this: 5 text, 4 rodata, 6 data, others refused; and 39 is never answered
  pub rule : (p : Phdr) → flag_perm built_in p ≡ (p.flags % 8 is 5 ⇒ 1 else p.flags % 8 is 4 ⇒ 2 else p.flags % 8 is 6 ⇒ 3 else 0)
  pub answers : (s : State) (c : Call) → s.setup.flags ≡ built_in → answer s c ≡ (
      not (sized s.store && lengths_fit c.ask) ⇒ refuse 1 c.ask else
      not (setup_ok s.setup) ⇒ refuse 38 c.ask else
      not (sound s) ⇒ refuse 2 c.ask else
      judge (view s c.number) (free s.store.book) (alone_for s c) (taken s) c)
