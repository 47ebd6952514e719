-- Pages of one process copied for another: the frames stay apart, and what the first process sees stays.
use Prim.Native.Nat.{ℕ, ◌+◌, ◌*◌, ◌≤◌}
use native.Mathlib.Omega.{arith}
use mathlib.Core.Path.{◌≡◌, ap, ◌∙◌}
use mathlib.Core.Logic.{◌⊎◌, inl, inr}
use Rattle.std.specs.Prelude.{Option, None, Some}
use mathlib.Core.List.{List}
use lib.ListN.{take, drop}
use Rattle.spec.specs.Book.{holders}
use Rattle.spec.specs.Frames.{put, frame_bytes}
use Rattle.spec_laws.proofs.Lists.{by_order}

-- a used frame and a free frame lie apart
pub apart : (book : List ℕ) (j k : ℕ) → (holders book j ≡ 0 → ⊥) → holders book k ≡ 0 → (4096 * j + 4096 ≤ 4096 * k) ⊎ (4096 * k + 4096 ≤ 4096 * j)
apart book j k used z = by_order j k (λ l. inl (omega arith)) (λ l. inr (higher (λ e. used (ap (holders book) e ∙ z)) l))
  where
    higher : (j ≡ k → ⊥) → k ≤ j → 4096 * k + 4096 ≤ 4096 * j
    higher ne l = omega arith

-- a page that is there is found
pub not-missing : {P : Type 0} (o : Option ℕ) (j : ℕ) → o ≡ Some j → o ≡ None → P
not-missing o j e f = absurd (let z : ◌≡◌ {A = ℕ} 0 1 = cc in omega arith)

-- what a copied frame holds
pub copied : (f f' : List ℕ) (at from j : ℕ) → from ≡ 4096 * j → f' ≡ put f at (take 4096 (drop from f)) → f' ≡ put f at (frame_bytes f (Some j))
copied f f' at from j ef h = h ∙ rw ef
