-- The tests 1 to 5: which a call has passed that is not refused, or is refused with an address, and that a number outside 1 to 16 is
-- refused.
use Prim.Native.Nat.{ℕ}
use native.Mathlib.Omega.{arith}
use mathlib.Core.Path.{◌≡◌, refl, sym}
use mathlib.Core.Bool.{Bool, true, false, not, ◌&&◌}
use borrow.Author.Tests.{eq-eqb}
use Rattle.spec.proofs.Bools.{both}
use Rattle.spec.proofs.Setups.{setup-means}
use Rattle.spec.specs.Tests.{◌is◌, ◌⇒◌else◌}
use Rattle.spec.specs.Numbers.{setup_error, SetupOk}
use Rattle.spec.specs.Book.{valid, free}
use Rattle.spec.specs.Frames.{sized}
use Rattle.spec.specs.Machine.{Ask, Call, Kind, begins, forks, plain, kind, Outcome, accepted, refused, ended, Reply, outcome, refuse, Machine, judge, weigh, lengths_fit, list_fits, numbered, living, unclaimed}
use Rattle.spec.specs.World.{State, sound, taken, view, alone_for, answer}
use Rattle.spec.specs.History.{typed}

-- what holds after any list of calls
pub record Good (s : State) : Type 0 where
  pub types : typed s ≡ true
  pub sizes : sized s.store ≡ true
  pub setup : setup_error s.setup ≡ 0
  pub book : sound s ≡ true

pub good-setup : (s : State) → Good s → SetupOk s.setup
good-setup s g = setup-means s.setup g.setup

-- in a sound book under an accepted setup the answer is the table's over what the caller sees
answer-chain : (a b d e : Bool) (x y z : Reply) (f : Bool → Reply) → a ≡ true → d ≡ true → e ≡ true → f b ≡ (not b ⇒ x else f true)
    → (not (a && b) ⇒ x else not d ⇒ y else not e ⇒ z else f b) ≡ f b
answer-chain a true d e x y z f p q u r = rw (p, q, u)
answer-chain a false d e x y z f p q u r = rw p (sym r)

pub answered : (s : State) → Good s → (c : Call) → answer s c ≡ judge (view s c.number) (free s.store.book) (alone_for s c) (taken s) c
unfolding answer judge
answered s g c =
    answer-chain (sized s.store) (lengths_fit c.ask) (setup_error s.setup is 0) (sound s) (refuse 1 c.ask) (refuse (setup_error s.setup) c.ask) (refuse 2 c.ask)
    (λ b. not b ⇒ refuse 1 c.ask else
    not (list_fits (view s c.number) c.number (kind c.ask)) ⇒ refuse 2 c.ask else
    not (numbered c.number (kind c.ask)) ⇒ refuse 3 c.ask else
    not (living (taken s) c.number (kind c.ask)) ⇒ refuse 4 c.ask else
    not (unclaimed (taken s) c.number (kind c.ask)) ⇒ refuse 5 c.ask else
    weigh (view s c.number) (free s.store.book) (alone_for s c) c.ask) g.sizes (eq-eqb (setup_error s.setup) 0 g.setup) g.book refl

-- ---- a call that is not refused

pub accepted≢ : accepted ≡ refused → ⊥
accepted≢ e = let z : ◌≡◌ {A = ℕ} 0 1 = cc in omega arith

pub ended≢ : ended ≡ refused → ⊥
ended≢ e = let z : ◌≡◌ {A = ℕ} 0 1 = cc in omega arith

pub record Passed (m : Machine) (f al : ℕ) (t : ℕ → Bool) (c : Call) (P : Reply → Type 0) : Type 0 where
  pub lengths : lengths_fit c.ask ≡ true
  pub list : list_fits m c.number (kind c.ask) ≡ true
  pub number : numbered c.number (kind c.ask) ≡ true
  pub lives : living t c.number (kind c.ask) ≡ true
  pub new : unclaimed t c.number (kind c.ask) ≡ true
  pub weighed : P (weigh m f al c.ask)

refusing : (P : Reply → Type 0) (t : Bool) (k : ℕ) (d : Ask) (x : Reply) → P (not t ⇒ refuse k d else x) → ((n : ℕ) → P (refuse n d) → ⊥) → (t ≡ true) × P x
refusing P true k d x e h = (refl, e)
refusing P false k d x e h = absurd (h k e)

-- a call with a reply that no refusal by a number alone is has passed 1 to 5, and comes to what its own tests give
pub passed-by : (P : Reply → Type 0) (m : Machine) (f al : ℕ) (t : ℕ → Bool) (c : Call) → P (judge m f al t c) → ((n : ℕ) → P (refuse n c.ask) → ⊥) → Passed m f al t c P
unfolding judge
passed-by P m f al t c e h =
    let a5 : Reply = not (unclaimed t c.number (kind c.ask)) ⇒ refuse 5 c.ask else weigh m f al c.ask in
    let a4 : Reply = not (living t c.number (kind c.ask)) ⇒ refuse 4 c.ask else a5 in
    let a3 : Reply = not (numbered c.number (kind c.ask)) ⇒ refuse 3 c.ask else a4 in
    let a2 : Reply = not (list_fits m c.number (kind c.ask)) ⇒ refuse 2 c.ask else a3 in
    let h1 = refusing P (lengths_fit c.ask) 1 c.ask a2 e h in
    let h2 = refusing P (list_fits m c.number (kind c.ask)) 2 c.ask a3 h1.1 h in
    let h3 = refusing P (numbered c.number (kind c.ask)) 3 c.ask a4 h2.1 h in
    let h4 = refusing P (living t c.number (kind c.ask)) 4 c.ask a5 h3.1 h in
    let h5 = refusing P (unclaimed t c.number (kind c.ask)) 5 c.ask (weigh m f al c.ask) h4.1 h in
    record { lengths = h1.0; list = h2.0; number = h3.0; lives = h4.0; new = h5.0; weighed = h5.1 }

-- so one that is accepted, or ends its process
pub passed : (m : Machine) (f al : ℕ) (t : ℕ → Bool) (c : Call) (o : Outcome) → outcome (judge m f al t c) ≡ o → (o ≡ refused → ⊥) → Passed m f al t c (λ r. outcome r ≡ o)
passed m f al t c o e h = passed-by (λ r. outcome r ≡ o) m f al t c e (λ n z. h (sym z))

-- and the other way round
pub weighs : (m : Machine) (f al : ℕ) (t : ℕ → Bool) (c : Call) → lengths_fit c.ask ≡ true → list_fits m c.number (kind c.ask) ≡ true → numbered c.number (kind c.ask) ≡ true
    → living t c.number (kind c.ask) ≡ true → unclaimed t c.number (kind c.ask) ≡ true → judge m f al t c ≡ weigh m f al c.ask
unfolding judge
weighs m f al t c p q r s u = rw (p, q, r, s, u)

pub valid-number : (n : ℕ) (k : Kind) → numbered n k ≡ true → valid n ≡ true
valid-number n begins e = e
valid-number n (forks child segments) e = (both (valid n) (valid child) e).0
valid-number n plain e = e

-- ---- a number outside 1 to 16 is refused, whatever the machine

stray-list : (m : Machine) (n : ℕ) (k : Kind) → valid n ≡ false → list_fits m n k ≡ true
stray-list m n begins v = refl
stray-list m n (forks child segments) v = rw v
stray-list m n plain v = refl

stray-number : (n : ℕ) (k : Kind) → valid n ≡ false → numbered n k ≡ false
stray-number n begins v = v
stray-number n (forks child segments) v = rw v
stray-number n plain v = v

abbrev stray_answer : Call → Reply
stray_answer c = not (lengths_fit c.ask) ⇒ refuse 1 c.ask else refuse 3 c.ask

stray-chain : (a b d e g : Bool) (x y z u v w : Reply) → b ≡ true → d ≡ false
    → (not a ⇒ x else not b ⇒ y else not d ⇒ z else not e ⇒ u else not g ⇒ v else w) ≡ (not a ⇒ x else z)
stray-chain a b d e g x y z u v w p q = rw (p, q)

pub stray : (m : Machine) (f al : ℕ) (t : ℕ → Bool) (c : Call) → valid c.number ≡ false → judge m f al t c ≡ stray_answer c
unfolding judge
stray m f al t c v =
    stray-chain (lengths_fit c.ask) (list_fits m c.number (kind c.ask)) (numbered c.number (kind c.ask)) (living t c.number (kind c.ask)) (unclaimed t c.number (kind c.ask))
    (refuse 1 c.ask) (refuse 2 c.ask) (refuse 3 c.ask) (refuse 4 c.ask) (refuse 5 c.ask) (weigh m f al c.ask)
    (stray-list m c.number (kind c.ask) v) (stray-number c.number (kind c.ask) v)

pub stray-out : (t : Bool) (d : Ask) → outcome (not t ⇒ refuse 1 d else refuse 3 d) ≡ refused
stray-out true d = refl
stray-out false d = refl
