-- The numbers that come first: the one that is given, and what none tells.
use Prim.Native.Nat.{ℕ, ◌*◌, ◌≤◌}
use native.Mathlib.Omega.{arith}
use mathlib.Core.Path.{◌≡◌, refl, sym, ap, ◌∙◌}
use mathlib.Core.Bool.{Bool, true, false, not, ◌&&◌}
use mathlib.Core.List.{List}
use lib.ListN.{length}
use borrow.Author.Tests.{eqb-true}
use Rattle.spec.specs.Tests.{◌is◌, within, ◌⇒◌else◌, ◌or_else◌}
use Rattle.spec.specs.Numbers.{setup_error}
use Rattle.spec.specs.Book.{valid, frame_count}
use Rattle.spec.specs.Frames.{sized, store}
use Rattle.spec.specs.World.{State, sound, taken}
use Rattle.spec.proofs.Bools.{both, clash, not-true, within-means}
use Rattle.spec.proofs.Chain.{past, not-fails}
use Rattle.spec_laws.proofs.Checks.{or-else}
use Rattle.sound.specs.Numbers.{sound_error}
use Rattle.call_front.specs.Numbers.{number_error, plain_error, begin_error, fork_error}

-- ---- in code: after a test b of what the specification calls b' the next number is looked for

pub further : (b b' : Bool) (k e r : ℕ) → b ≡ b' → not b ≡ false → r ≡ e → r ≡ (not b' ⇒ k else e)
further b b' k e r h t g = past (not b') k e r (not-fails b b' h t) g

-- a number that is given by itself is given before others
pub given_still : (t : Bool) (k e r : ℕ) → (r ≡ 0 → ⊥) → r ≡ (t ⇒ k else 0) → r ≡ (t ⇒ k else e)
given_still true k e r ne h = h
given_still false k e r ne h = absurd (ne h)

-- what the check of the book gives: k, the setup's number, if it is not 0, or 2; e is what it gave
two-given : (a b : Bool) (k e next : ℕ) → e ≡ (a ⇒ (not b ⇒ 2 else 0) else k) → (e ≡ 0 → ⊥) → e ≡ (a ⇒ (not b ⇒ 2 else next) else k)
two-given true true k e next h ne = absurd (ne h)
two-given true false k e next h ne = h
two-given false b k e next h ne = h

module _ (s : State) (e : ℕ) (next : ℕ) (found : e ≡ sound_error s.setup s.store.book s.procs) where
  pub sound-given : (e ≡ 0 → ⊥) → e ≡ (setup_error s.setup or_else not (sound s) ⇒ 2 else next)
  sound-given = two-given (setup_error s.setup is 0) (sound s) (setup_error s.setup) e next found

-- ---- sizes

module _ (frames book : List ℕ) where
  pub sizes-words : sized (store frames book) ≡ true → (length frames ≡ 4096 * frame_count book) × (1 ≤ frame_count book) × (frame_count book ≤ 1024) × (length book ≡ 17 * frame_count book)
  sizes-words e =
      let p = both (length frames is 4096 * frame_count book && length book is 17 * frame_count book) (within 1 1025 (frame_count book)) e in
      let q = both (length frames is 4096 * frame_count book) (length book is 17 * frame_count book) p.0 in
      let w = within-means 1 1025 (frame_count book) p.1 in
      (eqb-true _ _ q.0, w.0, omega (arith, w.1), eqb-true _ _ q.1)

-- ---- where no number is given

pub none_here : (b : Bool) (k e : ℕ) → (k is 0) ≡ false → (not b ⇒ k else e) ≡ 0 → (b ≡ true) × (e ≡ 0)
none_here true k e z h = (refl, h)
none_here false k e z h = absurd (let w : (k is 0) ≡ true = rw h in let v : false ≡ true = sym z ∙ w in let u : ◌≡◌ {A = ℕ} 0 1 = cc in omega arith)

-- sizes, the setup, the book and the number are as they should be
pub record Passed (s : State) (n : ℕ) (fits : Bool) : Type 0 where
  pub sizes : sized s.store ≡ true
  pub lengths : fits ≡ true
  pub setup : setup_error s.setup ≡ 0
  pub book : sound s ≡ true
  pub number : valid n ≡ true

pub number-none : (s : State) (n : ℕ) (fits : Bool) → number_error s n fits ≡ 0 → Passed s n fits
unfolding number_error
number-none s n fits e =
    let p1 = none_here (sized s.store && fits) 1 _ refl e in
    let p = or-else (setup_error s.setup) _ p1.1 in
    let p2 = none_here (sound s) 2 _ refl p.1 in
    let p3 = none_here (valid n) 3 0 refl p2.1 in
    let b = both (sized s.store) fits p1.0 in
    record { sizes = b.0; lengths = b.1; setup = p.0; book = p2.0; number = p3.0 }

-- and the process lives
pub plain-none : (s : State) (n : ℕ) (fits : Bool) → plain_error s n fits ≡ 0 → Passed s n fits × (taken s n ≡ true)
unfolding plain_error
plain-none s n fits e =
    let p = or-else (number_error s n fits) _ e in
    (number-none s n fits p.0, (none_here (taken s n) 4 0 refl p.1).0)

-- or the number of a new process is free
pub begin-none : (s : State) (n : ℕ) (fits : Bool) → begin_error s n fits ≡ 0 → Passed s n fits × (not (taken s n) ≡ true)
unfolding begin_error
begin-none s n fits e =
    let p = or-else (number_error s n fits) _ e in
    (number-none s n fits p.0, (none_here (not (taken s n)) 5 0 refl p.1).0)

-- or, of a fork, both
pub record Forks (s : State) (n child : ℕ) : Type 0 where
  pub passed : Passed s n true
  pub second : valid child ≡ true
  pub parent : taken s n ≡ true
  pub fresh : not (taken s child) ≡ true

pub fork-none : (s : State) (n child : ℕ) → fork_error s n child ≡ 0 → Forks s n child
unfolding fork_error
fork-none s n child e =
    let p = or-else (number_error s n true) _ e in
    let p3 = none_here (valid child) 3 _ refl p.1 in
    let p4 = none_here (taken s n) 4 _ refl p3.1 in
    let p5 = none_here (not (taken s child)) 5 0 refl p4.1 in
    record { passed = number-none s n true p.0; second = p3.0; parent = p4.0; fresh = p5.0 }

-- whose numbers differ
pub fork-other : (s : State) (n child : ℕ) → Forks s n child → n ≡ child → ⊥
fork-other s n child f e = clash (taken s child) (ap (taken s) (sym e) ∙ f.parent) (not-true (taken s child) f.fresh)
