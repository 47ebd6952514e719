-- Where a push goes: its room, its two ranges and its registers, by the sizes of arguments.
use Prim.Native.Nat.{ℕ, ◌+◌, ◌*◌, ◌-◌, ◌/◌, ◌≤◌}
use native.Mathlib.Omega.{arith}
use mathlib.Core.Path.{◌≡◌, ap, ap₂, ◌∙◌}
use mathlib.Core.Bool.{false}
use mathlib.Core.List.{List}
use lib.ListN.{length, take}
use lib.Seq.{take-append_seam}
use borrow.Author.Tests.{ltb-false, le-ltb}
use Rattle.spec.specs.Numbers.{arg_limit, SetupOk}
use Rattle.spec.specs.Frames.{put}
use Rattle.spec.specs.Exec.{strings, args_error, strings_at, argv_at, registers, below_zero}
use Rattle.spec.proofs.Args.{args-means}
use Rattle.spec.specs.declared.Setup.{Setup}
use Rattle.exec_args.specs.Sizes.{below_zero_by, argv_by, registers_by}

-- ---- the test of a push below address 0

-- strings and pointers lie between address 0 and top
pub low-room : (top size count : ℕ) → below_zero_by top size count ≡ false → 8 * (count + 1) ≤ (top - size) / 8 * 8
low-room top size count e = ltb-false ((top - size) / 8 * 8) (8 * (count + 1)) e

-- ---- the specification's places, by the size of the strings and the count of arguments

module _ (args : List (List ℕ)) (size count : ℕ) (sized : length (strings args) ≡ size) (counted : length args ≡ count) where
  pub strings-at : (top : ℕ) → strings_at top args ≡ top - size
  strings-at top = ap (λ (n : ℕ). top - n) sized

  pub argv-at : (top : ℕ) → argv_at top args ≡ argv_by top size count
  argv-at top = ap₂ (argv_by top) sized counted

  pub below-zero-at : (top : ℕ) → below_zero top args ≡ below_zero_by top size count
  below-zero-at top = ap₂ (below_zero_by top) sized counted

  pub registers-at : (pc top : ℕ) → registers pc top args ≡ registers_by pc top size count
  registers-at pc top = ap₂ (registers_by pc top) sized counted

-- ---- arguments that pass

module _ (setup : Setup) where
  -- a push of them below a top of the limit's height or more stays below it: pointers first, then strings up to top
  pub record Pushed (top : ℕ) (args : List (List ℕ)) : Type 0 where
    pub above_zero : below_zero top args ≡ false
    pub low : top - arg_limit setup ≤ argv_at top args
    pub apart : argv_at top args + 8 * (length args + 1) ≤ strings_at top args
    pub high : strings_at top args + length (strings args) ≡ top

  passed-places : (top : ℕ) (args : List (List ℕ)) → args_error setup args ≡ 0 → arg_limit setup ≤ top → Pushed top args
  passed-places top args e h =
      let room = (args-means setup args e).1 in
      record {
        above_zero = le-ltb (strings_at top args / 8 * 8) (8 * (length args + 1)) (omega arith);
        low = omega arith;
        apart = omega arith;
        high = omega arith;
      }

-- at the stack's top it stays inside the stack
pub passed-stack : (setup : Setup) (ok : SetupOk setup) (args : List (List ℕ)) → args_error setup args ≡ 0 → Pushed setup setup.ustktop args × (setup.ustktop - setup.ustksize ≤ argv_at setup.ustktop args)
passed-stack setup ok args e = let p = passed-places setup setup.ustktop args e (omega arith) in (p, omega (arith, p.low))

-- ---- what a buffer begins with, once bytes are put at its start
pub put-begins : (d s b : List ℕ) (n : ℕ) → b ≡ put d 0 s → n ≡ length s → take n b ≡ s
put-begins d s b n e f = ap₂ take f e ∙ take-append_seam s _
