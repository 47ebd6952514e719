-- A process that ends: it sees nothing, and its frames are free.
use Prim.Native.Nat.{ℕ, ◌+◌}
use mathlib.Core.Path.{◌≡◌, sym, ap, ◌∙◌}
use mathlib.Core.Bool.{true, false, not}
use lib.ListN.{length}
use Rattle.spec.proofs.Bools.{clash}
use Rattle.spec.specs.Tests.{◌is◌}
use Rattle.spec.specs.Book.{valid, free, alone, zero_proc}
use Rattle.spec.specs.Frames.{release}
use Rattle.spec.specs.Machine.{Machine, off}
use Rattle.spec.specs.World.{State, taken, view, forget}
use Rattle.spec_laws.proofs.Record.{zero-whole, zero-dead}
use Rattle.spec_laws.proofs.Release.{free-release-own}
use Rattle.spec_laws.proofs.OwnPieces.{zero-pieces}
use Rattle.spec_history.proofs.Passed.{Good}
use Rattle.spec_history.proofs.OneState.{known, numbers}
use Rattle.spec_history.proofs.Stored.{stored-release}
use Rattle.spec_history.proofs.Change.{Change, change-here, change-good, stored-self, change-set}

pub forget-change : (s : State) → Good s → (n : ℕ) → valid n ≡ true → Change s (forget s n) n (off s.setup)
forget-change s g n v =
    change-set s g n v (release s.store n (λ page. true)) zero_proc (off s.setup).mem
    (stored-release s.setup s.store s.store n (view s n).mem (stored-self s g n) v (λ page. true))
    zero-whole (λ l. clash _ l zero-dead) (λ a. sym (zero-pieces a))

-- as many frames come free as it held alone
pub forget-free : (s : State) → Good s → (n : ℕ) → valid n ≡ true → free (forget s n).store.book ≡ free s.store.book + alone s.store.book n
forget-free s g n v = free-release-own s.store n v (known s g).facts.mappings

-- and its number is free
pub forget-dead : (s : State) → Good s → (n : ℕ) → valid n ≡ true → taken (forget s n) n ≡ false
forget-dead s g n v =
    let c = forget-change s g n v in
    numbers (forget s n) (change-good s (forget s n) g n (off s.setup) c) n v ∙ ap (λ (m : Machine). not (length m.segments is 0)) (change-here s (forget s n) n (off s.setup) c)
