-- What is left in a call's lookup after the numbers that come behind the check of the book.
use Prim.Native.Nat.{ℕ}
use mathlib.Core.Path.{◌≡◌, refl, ap, ◌∙◌}
use mathlib.Core.Bool.{Bool, true, false}
use mathlib.Core.List.{List}
use Rattle.spec.specs.Tests.{◌⇒◌else◌}
use Rattle.spec.specs.declared.Procs.{Procs}
use Rattle.sound.specs.declared.Lookup.{Lookup}
use Rattle.sound.specs.Table.{Leaves, found}
use Rattle.sound.proofs.LookedUp.{left-filled, filled_of}

found-one : (t : Bool) (k e : ℕ) → found k ≡ true → found e ≡ true → found (t ⇒ k else e) ≡ true
found-one true k e f g = f
found-one false k e f g = g

module _ {book : List ℕ} {procs : Procs} {number : ℕ} {l : Lookup} (r : ℕ) where
  -- the book was found sound, and k is the number that comes next, if it comes
  pub left_next : (k : ℕ) (t : Bool) → found k ≡ true → r ≡ (t ⇒ k else 0) → Leaves 0 book procs number l → Leaves r book procs number l
  left_next k t f e l = left-filled r (ap found e ∙ found-one t k 0 f refl) (filled_of l refl)

  -- or the three that come next in a fork
  pub left_fork : (a b c : Bool) → r ≡ (a ⇒ 3 else b ⇒ 4 else c ⇒ 5 else 0) → Leaves 0 book procs number l → Leaves r book procs number l
  left_fork a b c e l = left-filled r (ap found e ∙ found-one a 3 _ refl (found-one b 4 _ refl (found-one c 5 0 refl refl))) (filled_of l refl)
