-- A replace's answer, case by case.
use Prim.Native.Nat.{ℕ}
use mathlib.Core.Path.{◌≡◌, refl, sym, ap, subst, ◌∙◌}
use mathlib.Core.Bool.{Bool, true, false}
use mathlib.Core.List.{List}
use Rattle.spec.specs.Tests.{◌is◌, ◌isnt◌, ◌⇒◌else◌}
use Rattle.spec.specs.Book.{free, alone}
use Rattle.spec.specs.Program.{Program}
use Rattle.spec.specs.Image.{program_of}
use Rattle.spec.specs.Exec.{image_error, registers, Argv, read, args_read, copy_argv}
use Rattle.spec.specs.Machine.{Ask, replace, outcome, plainly, weigh_read, call}
use Rattle.spec.specs.Refusals.{refusal_number}
use Rattle.spec.specs.World.{State, view, answer, forget, load, leave, Does}
use Rattle.spec.specs.declared.Answer.{Answer}
use Rattle.spec.specs.declared.Answer.TheVariants.{Regs, Refused, Ended, EndedAt}
use Rattle.spec.specs.declared.Form.{Form}
use Rattle.spec.specs.declared.Refusal.{Refusal}
use Rattle.spec.proofs.Bools.{split}
use Rattle.call_front.specs.Numbers.{plain_error}
use Rattle.call_front.proofs.Answers.{or_refuse, in_order, answer-plain, refused-first, goes_on}
use Rattle.call_replace.specs.Becoming.{replace_number, Became, ends, stays, enters}
use Rattle.call_replace.specs.Entering.{short, entered, entering}

module _ (s : State) (n : ℕ) (form : Form) (image name : List ℕ) (argv : ℕ) where
  abbrev asked : Ask
  asked = replace form image name argv

  abbrev program : Program
  program = program_of s.setup form image

  abbrev its : Argv
  its = copy_argv s.setup (view s n).mem argv

  -- what is answered once its arguments were read
  abbrev answered : Argv → Answer
  answered a = weigh_read s.setup (free s.store.book) (alone s.store.book n) program a

  image-first : (e : ℕ) (r : Answer) → plainly (e isnt 0 ⇒ Refused e else r) ≡ or_refuse e asked (plainly r)
  image-first e r = split (e is 0) (λ q. rw q refl) (λ q. rw q refl)

  answer-number : answer s (call n asked) ≡ or_refuse (replace_number s n form image) asked (plainly (answered its))
  answer-number =
      answer-plain s n asked refl
      ∙ ap (or_refuse (plain_error s n true) asked) (image-first (image_error s.setup form image) (answered its))
      ∙ in_order (plain_error s n true) (image_error s.setup form image) asked (plainly (answered its))

  pub replace-refused : (r : Refusal) → refusal_number r ≡ replace_number s n form image → Does s (call n asked) s (plainly (Refused (refusal_number r)))
  replace-refused = refused-first s n asked _ _ answer-number

  -- past the point of no return
  enter-leaves : (args : List (List ℕ)) → its ≡ read args → entered s n program name args ≡ leave s (call n asked) (outcome (plainly (entering s n program args)))
  enter-leaves args are = go (short s n program)
    where
      go : (b : Bool) → (b ⇒ forget s n else load (forget s n) n program name args) ≡ leave s (call n asked) (outcome (plainly (b ⇒ Ended 33 else Regs (registers program.entry s.setup.ustktop args))))
      go true = refl
      go false = ap (λ (x : Argv). load (forget s n) n program name (args_read x)) (sym are)

  -- all of it, from what became of the process
  module _ (first : 0 ≡ replace_number s n form image) where
    does : (x : Answer) → answered its ≡ x → (t : State) → t ≡ leave s (call n asked) (outcome (plainly x)) → Does s (call n asked) t (plainly x)
    does x w t l = goes_on s n asked _ _ answer-number first t (plainly x) (ap plainly w) l

    given : (x y : Answer) → y ≡ x → (t : State) → answered its ≡ x → t ≡ leave s (call n asked) (outcome (plainly x)) → Does s (call n asked) t (plainly y)
    given x y e t w l = subst (λ (z : Answer). Does s (call n asked) t (plainly z)) (sym e) (does x w t l)

    pub replace-goes : (t : State) (y : Answer) → Became s n program name its t y → Does s (call n asked) t (plainly y)
    replace-goes t y (ends a e l says) = given (EndedAt a) y says t (ap answered e) l
    replace-goes t y (stays e l says) = given (Refused 33) y says t (ap answered e) l
    replace-goes t y (enters args e l says) = given (entering s n program args) y says t (ap answered e) (l ∙ enter-leaves args e)
