-- Arguments that pass are pushed inside the stack.
use Prim.Native.Nat.{ℕ, ◌+◌, ◌*◌, ◌-◌, ◌/◌, ◌≤◌}
use native.Mathlib.Omega.{arith}
use mathlib.Core.Path.{◌≡◌, sym, ◌∙◌}
use mathlib.Core.Bool.{false}
use mathlib.Core.List.{List}
use lib.ListN.{length}
use Rattle.spec.specs.Numbers.{SetupOk, page_down}
use Rattle.spec.specs.Exec.{strings}
use Rattle.pagealloc.specs.Lent.{Mapped}
use Rattle.exec_args.specs.Sizes.{argv_by, below_zero_by}
use Rattle.exec_args.proofs.Places.{low-room, passed-stack, argv-at, below-zero-at}
use Rattle.spec.specs.declared.Setup.{Setup}
use Rattle.exec_load.specs.Installing.{Fitting}

-- a range inside the stack is mapped where the stack is
pub inside : (setup : Setup) → SetupOk setup → (book : List ℕ) (n addr len : ℕ) → Mapped book n (setup.ustktop - setup.ustksize) setup.ustktop → setup.ustktop - setup.ustksize ≤ addr → addr + len ≤ setup.ustktop → Mapped book n (page_down addr) (addr + len)
inside setup ok book n addr len h l u page z lo hi = h page z (omega arith) (omega arith)

module _ {setup : Setup} (ok : SetupOk setup) (args : List (List ℕ)) (buf : List ℕ) (size count : ℕ) (fit : Fitting setup args buf size count) where
  sized : length (strings args) ≡ size
  sized = sym fit.laid.sized

  pub push-above : below_zero_by setup.ustktop size count ≡ false
  push-above = sym (below-zero-at args size count sized fit.counted setup.ustktop) ∙ (passed-stack setup ok args fit.passed).0.above_zero

  -- where they lie: strings up to the top, pointers below them, all inside the stack
  pub argv-low : setup.ustktop - setup.ustksize ≤ argv_by setup.ustktop size count
  argv-low = rw (← argv-at args size count sized fit.counted setup.ustktop) (passed-stack setup ok args fit.passed).1

  pub argv-high : 8 * (count + 1) ≤ (setup.ustktop - size) / 8 * 8
  argv-high = low-room setup.ustktop size count push-above
