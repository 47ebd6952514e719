-- Request 7, for the reader: the record `Tables` holds.
use Prim.Native.Nat.{ℕ, ◌%◌}
use native.Mathlib.Omega.{arith}
use mathlib.Core.Path.{◌≡◌, refl, ap, ◌∙◌}
use mathlib.Core.Bool.{Bool, true, false, not, ◌&&◌}
use Rattle.spec.specs.Tests.{◌isnt◌, ◌⇒◌else◌}
use Rattle.spec.specs.Flags.{built_in, flags_ok}
use Rattle.spec.specs.Numbers.{setup_ok, setup_error}
use Rattle.spec.specs.Book.{free}
use Rattle.spec.specs.Frames.{sized}
use Rattle.spec.specs.Machine.{Ask, Call, Reply, refuse, lengths_fit, judge}
use Rattle.spec.specs.World.{State, sound, taken, view, alone_for, answer}
use Rattle.spec.specs.Tables.{Tables}
use Rattle.spec.proofs.Bools.{clash}
use Rattle.spec.proofs.Flags.{flag-rule, built-in-ok}
use Rattle.spec.proofs.FlagsTexts.{these, read_back, written_back}

-- a test that holds is passed over
passed : (a b : Bool) (q : Ask) (x : Reply) → b ≡ true
    → let e : ℕ = not a ⇒ 38 else not b ⇒ 39 else 0 in (e isnt 0 ⇒ refuse e q else x) ≡ (not a ⇒ refuse 38 q else x)
passed true true q x h = refl
passed true false q x h = clash false h refl
passed false b q x h = refl

built-in-answers : (s : State) (c : Call) → s.setup.flags ≡ built_in → answer s c ≡ (
    not (sized s.store && lengths_fit c.ask) ⇒ refuse 1 c.ask else
    not (setup_ok s.setup) ⇒ refuse 38 c.ask else
    not (sound s) ⇒ refuse 2 c.ask else
    judge (view s c.number) (free s.store.book) (alone_for s c) (taken s) c)
unfolding setup_error answer
built-in-answers s c e =
    ap (λ (r : Reply). not (sized s.store && lengths_fit c.ask) ⇒ refuse 1 c.ask else r) (passed (setup_ok s.setup) (flags_ok s.setup.flags) c.ask _ (ap flags_ok e ∙ built-in-ok))

pub tables-hold : Tables
tables-hold = record {
  these = these;
  eighteen = refl;
  each-once = refl;
  with_built_in = refl;
  read_back = read_back;
  written_back = written_back;
  rule = λ p. flag-rule (p.flags % 8) (omega arith);
  answers = built-in-answers;
}
