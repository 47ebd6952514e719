-- The answer of a call, once the numbers that come first are known.
use Prim.Native.Nat.{ℕ}
use mathlib.Core.Path.{◌≡◌, refl, sym, ap, ◌∙◌}
use mathlib.Core.Bool.{Bool, true, false, not, ◌&&◌, ◌||◌}
use mathlib.Core.List.{List}
use lib.Dec.{eqb}
use Rattle.spec.specs.Tests.{◌isnt◌, ◌⇒◌else◌, ◌or_else◌, same}
use Rattle.spec.specs.Numbers.{setup_error}
use Rattle.spec.specs.Book.{valid, free, same_segment, used, proc_at}
use Rattle.spec.specs.Frames.{sized}
use Rattle.spec.specs.Machine.{Ask, start, fork, plain, kind, Reply, outcome, refuse, lengths_fit, judge, weigh, call}
use Rattle.spec.specs.World.{State, sound, taken, view, alone_for, answer, leave, after, Does}
use Rattle.spec.specs.Refusals.{refusal_number}
use Rattle.spec.specs.declared.Form.{Form}
use Rattle.spec.specs.declared.Refusal.{Refusal}
use Rattle.spec.proofs.Refused.{refused-not-0}
use Rattle.spec.specs.declared.UserSegment.{UserSegment}
use Rattle.spec.proofs.Bools.{or-test}
use Rattle.spec.proofs.Lists.{same_self}
use Rattle.spec.proofs.Chain.{here, past, isnt-holds-through, isnt-fails-through}
use Rattle.spec.proofs.Taken.{refused-keeps}
use Rattle.spec_laws.proofs.Record.{is_same}
use Rattle.call_front.specs.Numbers.{number_error, plain_error, begin_error, fork_error}

-- a refusal where there is a number, and the rest where there is none
abbrev pub or_refuse : ℕ → Ask → Reply → Reply
or_refuse e q r = e isnt 0 ⇒ refuse e q else r

-- one test of the chain
step : (b : Bool) (k e : ℕ) (q : Ask) (x r : Reply) → (k isnt 0) ≡ true → x ≡ or_refuse e q r → (not b ⇒ refuse k q else x) ≡ or_refuse (not b ⇒ k else e) q r
step true k e q x r z h = h
step false k e q x r z h = sym (rw z)

-- a test that holds already
skip : (b : Bool) (x y : Reply) → b ≡ true → (not b ⇒ y else x) ≡ x
skip b x y h = rw h

-- lengths that are tested again
again : (z f : Bool) (e : ℕ) (q : Ask) (x r : Reply) → (f ≡ true → x ≡ or_refuse e q r) → (not (z && f) ⇒ refuse 1 q else x) ≡ or_refuse (not (z && f) ⇒ 1 else e) q r
again true true e q x r h = h refl
again true false e q x r h = refl
again false true e q x r h = refl
again false false e q x r h = refl

-- two numbers in order
pub in_order : (a b : ℕ) (q : Ask) (r : Reply) → or_refuse a q (or_refuse b q r) ≡ or_refuse (a or_else b) q r
in_order a b q r = go (eqb a 0) refl
  where
    go : (z : Bool) → eqb a 0 ≡ z → (not z ⇒ refuse a q else or_refuse b q r) ≡ or_refuse (z ⇒ b else a) q r
    go true e = refl
    go false e = sym (rw e)

-- a number, and what is refused behind it
behind : (k e : ℕ) (q : Ask) (x r : Reply) → x ≡ or_refuse e q r → or_refuse k q x ≡ or_refuse (k or_else e) q r
behind k e q x r h = ap (or_refuse k q) h ∙ in_order k e q r

pub answer-plain : (s : State) (n : ℕ) (q : Ask) → kind q ≡ plain
    → answer s (call n q) ≡ or_refuse (plain_error s n (lengths_fit q)) q (weigh (view s n) (free s.store.book) (alone_for s (call n q)) q)
unfolding answer judge number_error plain_error
answer-plain s n q k =
    let w : Reply = weigh (view s n) (free s.store.book) (alone_for s (call n q)) q in
    let x : Reply = not (taken s n) ⇒ refuse 4 q else w in
    again (sized s.store) (lengths_fit q) _ q _ x
    (λ f. behind (setup_error s.setup) _ q _ x (step (sound s) 2 _ q _ x refl (skip (lengths_fit q) _ (refuse 1 q) f ∙ rw k (step (valid n) 3 0 q _ x refl refl))))
    ∙ ap (or_refuse (number_error s n (lengths_fit q)) q) (step (taken s n) 4 0 q w w refl refl)
    ∙ in_order (number_error s n (lengths_fit q)) (not (taken s n) ⇒ 4 else 0) q w

pub answer-start : (s : State) (n : ℕ) (form : Form) (image name bytes lengths : List ℕ)
    → let q : Ask = start form image name bytes lengths in
    answer s (call n q) ≡ or_refuse (begin_error s n (lengths_fit q)) q (weigh (view s n) (free s.store.book) (alone_for s (call n q)) q)
unfolding answer judge number_error begin_error
answer-start s n form image name bytes lengths =
    let q : Ask = start form image name bytes lengths in
    let w : Reply = weigh (view s n) (free s.store.book) (alone_for s (call n q)) q in
    let x : Reply = not (not (taken s n)) ⇒ refuse 5 q else w in
    again (sized s.store) (lengths_fit q) _ q _ x
    (λ f. behind (setup_error s.setup) _ q _ x (step (sound s) 2 _ q _ x refl (skip (lengths_fit q) _ (refuse 1 q) f ∙ step (valid n) 3 0 q _ x refl refl)))
    ∙ ap (or_refuse (number_error s n (lengths_fit q)) q) (step (not (taken s n)) 5 0 q w w refl refl)
    ∙ in_order (number_error s n (lengths_fit q)) (not (not (taken s n)) ⇒ 5 else 0) q w

-- 3 of two numbers
two : (a b : Bool) (q : Ask) (x : Reply) → (not (a && b) ⇒ refuse 3 q else x) ≡ (not a ⇒ refuse 3 q else not b ⇒ refuse 3 q else x)
two true b q x = refl
two false b q x = refl

pub answer-fork : (s : State) (n child : ℕ)
    → let q : Ask = fork child (used (proc_at s.procs n).segments) in
    answer s (call n q) ≡ or_refuse (fork_error s n child) q (weigh (view s n) (free s.store.book) (alone_for s (call n q)) q)
unfolding answer judge number_error fork_error
answer-fork s n child =
    let gs : List UserSegment = used (proc_at s.procs n).segments in
    let q : Ask = fork child gs in
    let w : Reply = weigh (view s n) (free s.store.book) (alone_for s (call n q)) q in
    let x₅ : Reply = not (not (taken s child)) ⇒ refuse 5 q else w in
    let x₄ : Reply = not (taken s n) ⇒ refuse 4 q else x₅ in
    let x₃ : Reply = not (valid child) ⇒ refuse 3 q else x₄ in
    again (sized s.store) true _ q _ x₃
    (λ f. behind (setup_error s.setup) _ q _ x₃ (step (sound s) 2 _ q _ x₃ refl
    (skip (not (valid n) || same same_segment gs gs) _ (refuse 2 q) (or-test (not (valid n)) _ (λ _. same_self same_segment is_same gs)) ∙ two (valid n) (valid child) q x₄ ∙ step (valid n) 3 0 q _ x₃ refl refl)))
    ∙ ap (or_refuse (number_error s n true) q) (step (valid child) 3 _ q _ w refl (step (taken s n) 4 _ q _ w refl (step (not (taken s child)) 5 0 q w w refl refl)))
    ∙ in_order (number_error s n true) _ q w

-- ---- what a call does, from what was found first

-- a call that is refused
pub does-refused : (s : State) (n : ℕ) (q : Ask) (e : ℕ) → answer s (call n q) ≡ refuse e q → Does s (call n q) s (refuse e q)
does-refused s n q e h = record { left = sym (refused-keeps s (call n q) (ap outcome h)); said = sym h }

-- a call whose answer is known
pub does-answered : (s : State) (n : ℕ) (q : Ask) (t : State) (r : Reply) → answer s (call n q) ≡ r → t ≡ leave s (call n q) (outcome r) → Does s (call n q) t r
unfolding after
does-answered s n q t r h l = record { left = l ∙ ap (λ (x : Reply). leave s (call n q) (outcome x)) (sym h); said = sym h }

-- a is the number that comes first, and w what the call answers if there is none
module _ (s : State) (n : ℕ) (q : Ask) (a : ℕ) (w : Reply) (all : answer s (call n q) ≡ or_refuse a q w) where
  pub refused-first : (r : Refusal) → refusal_number r ≡ a → Does s (call n q) s (refuse (refusal_number r) q)
  refused-first r first =
      does-refused s n q (refusal_number r)
      (all ∙ sym (here (a isnt 0) (refuse a q) w (refuse (refusal_number r) q) (isnt-holds-through (refusal_number r) a 0 first (refused-not-0 r)) (ap (λ (k : ℕ). refuse k q) first)))

  pub goes_on : 0 ≡ a → (t : State) (r : Reply) → w ≡ r → t ≡ leave s (call n q) (outcome r) → Does s (call n q) t r
  goes_on first t r h l = does-answered s n q t r (all ∙ sym (past (a isnt 0) (refuse a q) w w (isnt-fails-through 0 a 0 first refl) refl) ∙ h) l

-- of a call that a living process makes for itself
module _ (s : State) (n : ℕ) (q : Ask) (k : kind q ≡ plain) where
  pub plain-refused : (r : Refusal) → refusal_number r ≡ plain_error s n (lengths_fit q) → Does s (call n q) s (refuse (refusal_number r) q)
  plain-refused = refused-first s n q _ _ (answer-plain s n q k)

  pub plain-goes : 0 ≡ plain_error s n (lengths_fit q) → (t : State) (r : Reply) → weigh (view s n) (free s.store.book) (alone_for s (call n q)) q ≡ r → t ≡ leave s (call n q) (outcome r) → Does s (call n q) t r
  plain-goes = goes_on s n q _ _ (answer-plain s n q k)

-- of a fork
module _ (s : State) (n child : ℕ) where
  abbrev asked : Ask
  asked = fork child (used (proc_at s.procs n).segments)

  pub fork-refused : (r : Refusal) → refusal_number r ≡ fork_error s n child → Does s (call n asked) s (refuse (refusal_number r) asked)
  fork-refused = refused-first s n asked _ _ (answer-fork s n child)

  pub fork-goes : 0 ≡ fork_error s n child → (t : State) (r : Reply) → weigh (view s n) (free s.store.book) (alone_for s (call n asked)) asked ≡ r → t ≡ leave s (call n asked) (outcome r) → Does s (call n asked) t r
  fork-goes = goes_on s n asked _ _ (answer-fork s n child)
