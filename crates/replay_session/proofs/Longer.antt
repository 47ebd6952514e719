-- A list with more segments than a record has is unlike every record, whatever stands behind them; so a fork with it does the same.
-- Assumes nothing.
use mathlib.Core.Path.{◌≡◌, refl, ap, ◌∙◌}
use mathlib.Core.Bool.{Bool, true, false, ◌&&◌}
use mathlib.Core.List.{List, [], ◌∷◌, ◌++◌}
use Prim.Native.Nat.{ℕ, suc, ◌-◌, ◌≤◌, ◌<◌, zero-le, suc-le-suc}
use native.Mathlib.Nat.{not-suc-le-zero, le_of_suc-le-suc}
use native.Mathlib.Omega.{arith}
use lib.ListN.{length}
use Rattle.spec.specs.Tests.{same, ◌⇒◌else◌}
use Rattle.spec.specs.Book.{same_segment, unused, used, proc_at}
use Rattle.spec.specs.Machine.{fork, Outcome, accepted, refused, ended, outcome, Reply, judge, call}
use Rattle.spec.specs.World.{State, leave, answer, after, Does}
use Rattle.spec.specs.declared.UserSegment.{UserSegment}
use Rattle.spec_laws.proofs.Record.{Whole}

unlike : (xs ys us : List UserSegment) → length us < length xs → same same_segment xs us ≡ same same_segment (xs ++ ys) us
unlike [] ys us h = absurd (not-suc-le-zero h)
unlike (x ∷ xs) ys [] h = refl
unlike (x ∷ xs) ys (u ∷ us) h = ap (λ (b : Bool). same_segment x u && b) (unlike xs ys us (le_of_suc-le-suc h))

few : (gs : List UserSegment) → length (used gs) ≤ length gs
few [] = zero-le
few (g ∷ gs) = at (unused g) (few gs)
  where
    at : (b : Bool) → length (used gs) ≤ length gs → length (b ⇒ [] else g ∷ used gs) ≤ suc (length gs)
    at true h = zero-le
    at false h = suc-le-suc h

module _ (s : State) (n child : ℕ) (xs ys : List UserSegment) (w : Whole s.procs) (h : length xs ≡ 17) where
  alike : same same_segment xs (used (proc_at s.procs n).segments) ≡ same same_segment (xs ++ ys) (used (proc_at s.procs n).segments)
  alike = unlike xs ys (used (proc_at s.procs n).segments) (omega (arith, few (proc_at s.procs n).segments, (w.each (n - 1)).segments, h))

  answers : answer s (call n (fork child xs)) ≡ answer s (call n (fork child (xs ++ ys)))
  unfolding answer judge
  answers = rw alike

  leaves : (o : Outcome) → leave s (call n (fork child xs)) o ≡ leave s (call n (fork child (xs ++ ys))) o
  leaves accepted = refl
  leaves refused = refl
  leaves ended = refl

  pub longer : {t : State} {r : Reply} → Does s (call n (fork child xs)) t r → Does s (call n (fork child (xs ++ ys))) t r
  unfolding after
  longer d = record {
    left = d.left ∙ leaves (outcome (answer s (call n (fork child xs)))) ∙ ap (λ (x : Reply). leave s (call n (fork child (xs ++ ys))) (outcome x)) answers;
    said = d.said ∙ answers;
  }
