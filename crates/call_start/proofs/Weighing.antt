-- What a start answers, by the number that it is refused with; and what a number that is free tells.
use Prim.Native.Nat.{ℕ, ◌≤◌, ◌<◌}
use native.Mathlib.Omega.{arith}
use mathlib.Core.Path.{◌≡◌, refl, sym, ap, ◌∙◌}
use mathlib.Core.Bool.{Bool, true, false, not}
use Rattle.std.specs.Prelude.{None}
use mathlib.Core.List.{List}
use lib.ListN.{length}
use borrow.Author.Tests.{ltb-false}
use Rattle.spec.specs.Tests.{◌is◌, ◌isnt◌, ◌above◌, ◌⇒◌else◌, ◌or_else◌, sum}
use Rattle.spec.specs.Numbers.{page_down}
use Rattle.spec.specs.Book.{free, page_count}
use Rattle.spec.specs.Frames.{cell_in, mem_of}
use Rattle.spec.specs.Image.{program_of}
use Rattle.spec.specs.Exec.{image_error, start_pieces, args_of, args_error, registers}
use Rattle.spec.specs.Machine.{Ask, start, outcome, plainly, Reply, call}
use Rattle.spec.specs.Refusals.{refusal_number}
use Rattle.spec.specs.World.{State, taken, leave, answer, Does}
use Rattle.spec.specs.declared.Form.{Form}
use Rattle.spec.specs.declared.Answer.{Answer}
use Rattle.spec.specs.declared.Answer.TheVariants.{Regs, Refused}
use Rattle.spec.specs.declared.Refusal.{Refusal}
use Rattle.spec.proofs.Bools.{split, not-true}
use Rattle.spec.proofs.Chain.{number-first}
use Rattle.spec_laws.proofs.Checks.{or-else}
use Rattle.spec_laws.proofs.Record.{Whole}
use Rattle.spec_laws.proofs.Facts.{dead-frame}
use Rattle.spec_history.proofs.OneState.{taken_is}
use Rattle.call_front.specs.Numbers.{begin_error}
use Rattle.call_front.proofs.FirstNumbers.{Passed}
use Rattle.call_front.proofs.Living.{passed-sound}
use Rattle.call_front.proofs.Answers.{or_refuse, in_order, answer-start, refused-first, goes_on}
use Rattle.call_start.specs.Numbers.{start_number}

module _ (s : State) (n : ℕ) (form : Form) (image bytes lengths : List ℕ) where
  abbrev pub begins : ℕ
  begins = begin_error s n (sum lengths is length bytes)

  abbrev pub argued : ℕ
  argued = args_error s.setup (args_of bytes lengths)

  abbrev pub imaged : ℕ
  imaged = image_error s.setup form image

  abbrev pub short : Bool
  short = page_count (start_pieces s.setup (program_of s.setup form image)) above free s.store.book

  -- ---- the number, as it is found

  pub begins-given : (e : ℕ) → e ≡ begins → (e ≡ 0 → ⊥) → e ≡ start_number s n form image bytes lengths
  unfolding start_number
  begins-given e h ne = number-first e begins _ h ne

  module _ (none : 0 ≡ begins) where
    pub argued-given : (e : ℕ) → e ≡ argued → (e ≡ 0 → ⊥) → e ≡ start_number s n form image bytes lengths
    unfolding start_number
    argued-given e h ne = rw (← none) (number-first e argued _ h ne)

    module _ (passed : 0 ≡ argued) where
      pub imaged-given : (e : ℕ) → e ≡ imaged → (e ≡ 0 → ⊥) → e ≡ start_number s n form image bytes lengths
      unfolding start_number
      imaged-given e h ne = rw (← none, ← passed) (number-first e imaged _ h ne)

      pub frames-given : 0 ≡ imaged → (e : ℕ) → e ≡ (short ⇒ 33 else 0) → e ≡ start_number s n form image bytes lengths
      unfolding start_number
      frames-given accepted e h = rw (← none, ← passed, ← accepted) h

  -- ---- where there is none

  pub record Weighed : Type 0 where
    pub first : begins ≡ 0
    pub passed : argued ≡ 0
    pub accepted : imaged ≡ 0
    pub room : page_count (start_pieces s.setup (program_of s.setup form image)) ≤ free s.store.book

  pub weighed : 0 ≡ start_number s n form image bytes lengths → Weighed
  unfolding start_number
  weighed e =
      let p = or-else begins _ (sym e) in
      let q = or-else argued _ p.1 in
      let r = or-else imaged _ q.1 in
      record { first = p.0; passed = q.0; accepted = r.0; room = split short (λ t. absurd (let z : ◌≡◌ {A = ℕ} 33 0 = rw t at r.1 in omega arith)) (λ t. ltb-false (free s.store.book) _ t) }

  -- ---- the answer

  module _ (name : List ℕ) where
    abbrev asked : Ask
    asked = start form image name bytes lengths

    abbrev regs : Answer
    regs = Regs (registers (program_of s.setup form image).entry s.setup.ustktop (args_of bytes lengths))

    in-turn : (a b : ℕ) (c : Bool) (r : Answer) → plainly (a isnt 0 ⇒ Refused a else b isnt 0 ⇒ Refused b else c ⇒ Refused 33 else r) ≡ or_refuse a asked (or_refuse b asked (or_refuse (c ⇒ 33 else 0) asked (plainly r)))
    in-turn a b c r = split (a is 0) (λ p. split (b is 0) (λ q. split c (λ t. rw (p, q, t) refl) (λ t. rw (p, q, t) refl)) (λ q. rw (p, q) refl)) (λ p. rw p refl)

    answer-number : answer s (call n asked) ≡ or_refuse (start_number s n form image bytes lengths) asked (plainly regs)
    unfolding start_number
    answer-number =
        answer-start s n form image name bytes lengths
        ∙ ap (or_refuse begins asked)
        (in-turn argued imaged short regs ∙ ap (or_refuse argued asked) (in_order imaged (short ⇒ 33 else 0) asked (plainly regs)) ∙ in_order argued (imaged or_else (short ⇒ 33 else 0)) asked (plainly regs))
        ∙ in_order begins (argued or_else imaged or_else (short ⇒ 33 else 0)) asked (plainly regs)

    pub start-refused : (r : Refusal) → refusal_number r ≡ start_number s n form image bytes lengths → Does s (call n asked) s (plainly (Refused (refusal_number r)))
    start-refused = refused-first s n asked _ _ answer-number

    pub start-goes : 0 ≡ start_number s n form image bytes lengths → (t : State) → t ≡ leave s (call n asked) (outcome (plainly regs)) → Does s (call n asked) t (plainly regs)
    start-goes e t l = goes_on s n asked _ _ answer-number e t (plainly regs) refl l

-- ---- a number that is free has no page

pub free-empty : (s : State) (n : ℕ) (fits : Bool) → Whole s.procs → Passed s n fits → not (taken s n) ≡ true → (a : ℕ) → mem_of s.store n a ≡ None
free-empty s n fits whole passed t a =
    ap (cell_in s.store n a)
    (dead-frame s.setup s.store.book s.procs whole (passed-sound s n fits whole passed) n passed.number (sym (taken_is s n passed.number) ∙ not-true (taken s n) t) (page_down a))
