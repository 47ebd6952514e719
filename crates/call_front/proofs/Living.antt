-- What a call that passes the numbers that come first knows of its process, and of its pages.
use Prim.Native.Nat.{ℕ, ◌≤◌}
use mathlib.Core.Path.{◌≡◌, refl}
use mathlib.Core.Bool.{Bool, true}
use mathlib.Core.List.{List}
use Rattle.spec.specs.Book.{valid, lives, proc_at}
use Rattle.spec.specs.Sound.{Shape, Sound}
use Rattle.spec.specs.World.{State, taken}
use Rattle.spec.specs.declared.UserSegment.{UserSegment}
use Rattle.spec.proofs.Setups.{setup-means}
use Rattle.spec.proofs.Bools.{both}
use Rattle.spec_laws.proofs.Record.{Whole}
use Rattle.spec_laws.proofs.Facts.{sound-facts}
use Rattle.spec.specs.Numbers.{SetupOk}
use Rattle.spec_laws.proofs.Owned.{valid-means}
use Rattle.sound.specs.declared.Lookup.{Lookup}
use Rattle.sound.specs.Table.{Ready, Leaves}
use Rattle.sound.proofs.LookedUp.{ready_of}
use Rattle.call_front.proofs.FirstNumbers.{Passed}

module _ (s : State) (n : ℕ) (fits : Bool) (whole : Whole s.procs) (passed : Passed s n fits) where
  pub passed-sound : Sound s.setup s.store.book s.procs
  passed-sound = sound-facts s.setup (setup-means s.setup passed.setup) s.store.book s.procs whole passed.book

  pub living-shape : taken s n ≡ true → (image : List UserSegment) × Shape s.setup (proc_at s.procs n) image
  living-shape t = passed-sound.shape n passed.number (both (valid n) (lives (proc_at s.procs n)) t).1

-- and its pages can be looked up
pub looked-up : (s : State) (n : ℕ) (fits : Bool) (l : Lookup) → Passed s n fits → Leaves 0 s.store.book s.procs n l → SetupOk s.setup × ∥ Ready s.store.book n l ∥₁ × ((1 ≤ n) × (n ≤ 16))
looked-up s n fits l passed left = (setup-means s.setup passed.setup, ∣ ready_of left refl ∣₁, valid-means n passed.number)
