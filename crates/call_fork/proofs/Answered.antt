-- The answer of a fork with any list, once its number is known.
use Prim.Native.Nat.{ℕ}
use mathlib.Core.Path.{◌≡◌, refl, sym, ap, subst, ◌∙◌}
use mathlib.Core.Bool.{Bool, true, false, not, ◌&&◌, ◌||◌}
use mathlib.Core.List.{List}
use lib.Dec.{eqb, ltb}
use native.Mathlib.Omega.{arith}
use borrow.Author.Tests.{eqb-true, ltb-false}
use Rattle.spec.specs.Tests.{◌isnt◌, ◌below◌, ◌above◌, ◌⇒◌else◌, same}
use Rattle.spec.specs.Flags.{flags_ok}
use Rattle.spec.specs.Numbers.{setup_ok, setup_error}
use Rattle.spec.specs.Book.{valid, free, same_segment, used, proc_at}
use Rattle.spec.specs.Frames.{sized}
use Rattle.spec.specs.Machine.{Ask, fork, Reply, plainly, refuse, judge, weigh, copied, call}
use Rattle.spec.specs.World.{State, sound, taken, view, alone_for, copy, answer, Does}
use Rattle.spec.specs.declared.UserSegment.{UserSegment}
use Rattle.spec.specs.declared.Answer.{Answer}
use Rattle.spec.specs.declared.Answer.TheVariants.{Done, Refused}
use Rattle.spec.specs.Refusals.{refusal_number}
use Rattle.spec.specs.declared.Refusal.{Refusal}
use Rattle.spec.proofs.Bools.{split}
use Rattle.spec_laws.proofs.Checks.{or-else}
use Rattle.call_front.specs.Numbers.{number_error, fork_error}
use Rattle.call_front.proofs.Answers.{or_refuse, in_order, refused-first, goes_on}
use Rattle.call_front.proofs.FirstNumbers.{fork-none}
use Rattle.call_fork.specs.ByList.{list_error, fork_number}
use Rattle.call_fork.proofs.Judged.{first_of}

abbrev list_of : (a v : Bool) → ℕ → ℕ
list_of a v e = ((not a && e isnt 1) && e below 38) && v ⇒ 2 else e

abbrev chain : (z u g d v w t f a : Bool) → Ask → Reply → Reply
chain z u g d v w t f a q x =
    not (z && true) ⇒ refuse 1 q else
    (not u ⇒ 38 else not g ⇒ 39 else 0) isnt 0 ⇒ refuse (not u ⇒ 38 else not g ⇒ 39 else 0) q else
    not d ⇒ refuse 2 q else
    not (not v || a) ⇒ refuse 2 q else
    not (v && w) ⇒ refuse 3 q else
    not t ⇒ refuse 4 q else
    not (not f) ⇒ refuse 5 q else
    x

chain-is : (z u g d v w t f a : Bool) (q : Ask) (x : Reply) → chain z u g d v w t f a q x ≡ or_refuse (list_of a v (first_of z u g d v w t f)) q x
chain-is false u g d v w t f true q x = refl
chain-is false u g d v w t f false q x = refl
chain-is true false g d v w t f true q x = refl
chain-is true false g d v w t f false q x = refl
chain-is true true false d v w t f true q x = refl
chain-is true true false d v w t f false q x = refl
chain-is true true true false true w t f true q x = refl
chain-is true true true false true w t f false q x = refl
chain-is true true true false false w t f true q x = refl
chain-is true true true false false w t f false q x = refl
chain-is true true true true false w t f true q x = refl
chain-is true true true true false w t f false q x = refl
chain-is true true true true true false t f true q x = refl
chain-is true true true true true false t f false q x = refl
chain-is true true true true true true false f true q x = refl
chain-is true true true true true true false f false q x = refl
chain-is true true true true true true true true true q x = refl
chain-is true true true true true true true true false q x = refl
chain-is true true true true true true true false true q x = refl
chain-is true true true true true true true false false q x = refl

list-zero : (a v : Bool) (e : ℕ) → list_of a v e ≡ 0 → (e ≡ 0) × (v ≡ true → a ≡ true)
list-zero true v e h = (h, λ t. refl)
list-zero false v e h =
    split (eqb e 1)
    (λ q. let z : e ≡ 0 = rw q at h in absurd (let w = eqb-true e 1 q in omega arith))
    (λ q. split (ltb e 38)
    (λ r. behind v (rw (q, r) at h))
    (λ r. let z : e ≡ 0 = rw (q, r) at h in absurd (let w = ltb-false e 38 r in omega arith)))
  where
    behind : (v : Bool) → (v ⇒ 2 else e) ≡ 0 → (e ≡ 0) × (v ≡ true → false ≡ true)
    behind true z = absurd (omega (arith, z))
    behind false z = (z, λ t. t)

-- where there is no number, none came first
pub number-error : (s : State) (n child : ℕ) (alike : Bool) → fork_number s n child alike ≡ 0 → fork_error s n child ≡ 0
unfolding list_error fork_number
number-error s n child alike e = (list-zero alike (valid n) (fork_error s n child) (or-else (list_error s n child alike) _ e).0).0

module _ (s : State) (n child : ℕ) (gs : List UserSegment) where
  abbrev asked : Ask
  asked = fork child gs

  abbrev pub alike_of : Bool
  alike_of = same same_segment gs (used (proc_at s.procs n).segments)

  answer-chain : answer s (call n asked) ≡ or_refuse (list_error s n child alike_of) asked (weigh (view s n) (free s.store.book) (alone_for s (call n asked)) asked)
  unfolding setup_error answer judge number_error fork_error list_error
  answer-chain = chain-is (sized s.store) (setup_ok s.setup) (flags_ok s.setup.flags) (sound s) (valid n) (valid child) (taken s n) (taken s child) alike_of asked _

  weighed : (c : Bool) → plainly (c ⇒ Refused 33 else Done) ≡ or_refuse (c ⇒ 33 else 0) asked (plainly Done)
  weighed true = refl
  weighed false = refl

  pub answer-number : answer s (call n asked) ≡ or_refuse (fork_number s n child alike_of) asked (plainly Done)
  unfolding fork_number
  answer-number =
      answer-chain
      ∙ ap (or_refuse (list_error s n child alike_of) asked) (weighed (copied (view s n) above free s.store.book))
      ∙ in_order (list_error s n child alike_of) (copied (view s n) above free s.store.book ⇒ 33 else 0) asked (plainly Done)

  -- where there is no number, the list is the record's
  pub number-none : fork_number s n child alike_of ≡ 0 → (fork_error s n child ≡ 0) × (alike_of ≡ true)
  unfolding list_error fork_number
  number-none e =
      let p = list-zero alike_of (valid n) (fork_error s n child) (or-else (list_error s n child alike_of) _ e).0 in
      (p.0, p.1 (fork-none s n child p.0).passed.number)

  -- a fork that is refused, and one that isn't
  pub list-refused : (e : Refusal) → refusal_number e ≡ fork_number s n child alike_of → (t : State) (r : Answer) → t ≡ s → r ≡ Refused (refusal_number e) → Does s (call n asked) t (plainly r)
  list-refused e number t r f h = subst (λ (x : State). Does s (call n asked) x (plainly r)) (sym f)
      (subst (λ (x : Answer). Does s (call n asked) s (plainly x)) (sym h) (refused-first s n asked _ _ answer-number e number))

  pub list_done : 0 ≡ fork_number s n child alike_of → (t : State) → t ≡ copy s n child (proc_at s.procs n) → Does s (call n asked) t (plainly Done)
  list_done number t f = goes_on s n asked _ _ answer-number number t (plainly Done) refl f
