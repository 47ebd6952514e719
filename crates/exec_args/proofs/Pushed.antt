-- What a push writes of arguments that are laid in a buffer: their strings, then their pointers, as `push_in` says.
use Prim.Native.Nat.{ℕ, ◌+◌, ◌*◌, ◌-◌}
use native.Mathlib.Omega.{arith}
use mathlib.Core.Path.{◌≡◌, sym, ap, ap₂, ◌∙◌}
use mathlib.Core.List.{List}
use lib.ListN.{length, take, drop}
use Rattle.spec.specs.Frames.{Store, pokes}
use Rattle.spec.specs.Exec.{strings, strings_at, pointers}
use Rattle.spec.specs.World.{push_in}
use Rattle.exec_args.specs.Sizes.{argv_by}
use Rattle.exec_args.proofs.Places.{strings-at, argv-at}
use Rattle.exec_args.specs.Laid.{Laid}

module _ (top size count : ℕ) (buf : List ℕ) (args : List (List ℕ)) (laid : Laid top args size buf) (counted : length args ≡ count) where
  -- the part that is lent for the pointers
  abbrev pub behind : List ℕ
  behind = take (size + 8 * (count + 1) - size) (drop size buf)

  pub behind-are : behind ≡ pointers (strings_at top args) args
  behind-are =
      let n : size + 8 * (count + 1) - size ≡ 8 * (length args + 1) = omega arith in
      ap (λ (k : ℕ). take k (drop size buf)) n ∙ laid.pointers-are

  pub written : (m m₁ m₂ : Store) (n : ℕ) → m₁ ≡ pokes m n (top - size) (take size buf) → m₂ ≡ pokes m₁ n (argv_by top size count) behind → m₂ ≡ push_in m n top args
  written m m₁ m₂ n e₁ e₂ =
      e₂ ∙ ap (λ (x : Store). pokes x n (argv_by top size count) behind) (e₁ ∙ ap₂ (pokes m n) (sym (strings-at args size count (sym laid.sized) counted top)) laid.strings-are)
      ∙ ap₂ (pokes (pokes m n (strings_at top args) (strings args)) n) (sym (argv-at args size count (sym laid.sized) counted top)) behind-are
