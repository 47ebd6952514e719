-- The lines as they are put are the specification's.
-- Assumes nothing.
use mathlib.Core.Path.{◌≡◌, refl, sym, ap, ◌∙◌}
use mathlib.Core.Bool.{Bool, true, false}
use mathlib.Core.List.{List, ◌++◌, append_assoc}
use Prim.Native.Nat.{ℕ}
use borrow.Author.Tests.{ne_eqb}
use Rattle.spec.specs.Tests.{ascii, ◌isnt◌, ◌⇒◌else◌}
use Rattle.spec.specs.Numbers.{limit, arg_limit}
use Rattle.spec.specs.SetupText.{number_line, setup_text, read_file, numbers_text}
use Rattle.spec.specs.declared.Setup.{Setup}
use Rattle.text.specs.Text.{number_text, field_text}
use Rattle.setup.specs.Text.{limits_text}

-- the lines as they are put
abbrev lines_text : Setup → List ℕ
lines_text s =
    field_text (ascii "UTZERO=") s.utzero ++ field_text (ascii "USTKTOP=") s.ustktop
    ++ field_text (ascii "USTKSIZE=") s.ustksize ++ field_text (ascii "UADDRTOP=") s.uaddrtop

pub lines_are : (s : Setup) → lines_text s ≡ setup_text s
unfolding setup_text number_text
lines_are s = refl

limits-are : (s : Setup) → limits_text s ≡ number_line (ascii "LIMIT") (limit s) ++ number_line (ascii "ARGLIMIT") (arg_limit s)
unfolding number_text
limits-are s = refl

otherwise : (t : Bool) (x y : List ℕ) → t ≡ false → (t ⇒ x else y) ≡ y
otherwise true x y e = let z : ◌≡◌ {A = Bool} true false = e in cc
otherwise false x y e = refl

module _ (bytes : List ℕ) where
  pub refused-text : (n : ℕ) → n ≡ (read_file bytes).error → (n ≡ 0 → ⊥) → field_text (ascii "refused=") n ≡ numbers_text bytes
  unfolding numbers_text number_text
  refused-text n e z = rw (← e, ne_eqb n 0 z)

  shown : 0 ≡ (read_file bytes).error → numbers_text bytes
      ≡ setup_text (read_file bytes).setup ++ number_line (ascii "LIMIT") (limit (read_file bytes).setup) ++ number_line (ascii "ARGLIMIT") (arg_limit (read_file bytes).setup)
  unfolding numbers_text
  shown z = otherwise ((read_file bytes).error isnt 0) _ _ (ap (λ (n : ℕ). n isnt 0) (sym z))

  pub shown-text : (s : Setup) → 0 ≡ (read_file bytes).error → s ≡ (read_file bytes).setup → setup_text s ++ limits_text s ≡ numbers_text bytes
  shown-text s z e = ap (λ (x : Setup). setup_text x ++ limits_text x) e ∙ both (read_file bytes).setup ∙ sym (shown z)
    where
      both : (x : Setup) → setup_text x ++ limits_text x ≡ setup_text x ++ number_line (ascii "LIMIT") (limit x) ++ number_line (ascii "ARGLIMIT") (arg_limit x)
      both x = ap (λ (l : List ℕ). setup_text x ++ l) (limits-are x) ∙ sym (append_assoc (setup_text x) (number_line (ascii "LIMIT") (limit x)) (number_line (ascii "ARGLIMIT") (arg_limit x)))
