-- The turns that read replace's arguments are never used up: more of them change nothing.
use Prim.Native.Nat.{ℕ, zero, suc, ◌+◌, ◌*◌, ◌-◌, ◌≤◌, ◌<◌}
use native.Mathlib.Omega.{arith}
use mathlib.Core.Path.{◌≡◌, refl, sym, ap, ◌∙◌}
use mathlib.Core.Bool.{Bool, true, false}
use mathlib.Core.List.{List, [], ◌∷◌, ◌++◌}
use lib.ListN.{length, take, length-append}
use borrow.Author.Tests.{ltb-false}
use Rattle.spec.specs.Tests.{◌is◌, ◌above◌}
use Rattle.spec.specs.Numbers.{arg_limit, le, SetupOk}
use Rattle.spec.specs.Frames.{Mem}
use Rattle.spec.specs.Access.{access, bytes_at, Str, copy_str, Checked}
use Rattle.spec.specs.Exec.{strings, stack_size, Argv, arg_buffer, argv_from, copy_argv}
use Rattle.spec.specs.declared.Setup.{Setup}
use Rattle.spec_laws.proofs.Argv.{turn}

-- a turn whose next turns agree wherever they are taken
turn-same : (t : Checked) (z : Bool) (w : Checked) (f g : Bool) (before : List (List ℕ)) (r s : Argv) → (g ≡ false → r ≡ s) → turn t z w f g before r ≡ turn t z w f g before s
turn-same t z w f true before r s h = refl
turn-same t z w f false before r s h = ap (turn t z w f false before) (h refl)

-- each argument takes 8 bytes of the limit or more, besides 16
turns-past : (setup : Setup) (mem : Mem) (argv extra turns : ℕ) (before : List (List ℕ)) → 1 ≤ turns → arg_limit setup < 8 * (length before + turns + 2)
    → argv_from setup mem argv before (turns + extra) ≡ argv_from setup mem argv before turns
turns-past setup mem argv extra zero before l h = absurd (omega arith)
turns-past setup mem argv extra (suc turns) before l h =
    let at : ℕ = argv + 8 * length before in
    let s : ℕ = le 8 (bytes_at mem at 8) 0 in
    let str : Str = copy_str setup mem (arg_buffer setup) s in
    let args : List (List ℕ) = before ++ take str.size str.buffer ∷ [] in
    let more : suc turns + extra ≡ suc (turns + extra) = omega arith in
    ap (argv_from setup mem argv before) more
    ∙ turn-same (access setup mem false at 8) (s is 0) str.access (str.size is arg_limit setup) (stack_size (length (strings args)) (length args) above arg_limit setup)
    before
    (argv_from setup mem argv args (turns + extra)) (argv_from setup mem argv args turns)
    (λ q.
    let fits : stack_size (length (strings args)) (length args) ≤ arg_limit setup = ltb-false (arg_limit setup) (stack_size (length (strings args)) (length args)) q in
    let count = length-append before (take str.size str.buffer ∷ []) in
    turns-past setup mem argv extra turns args (omega arith) (omega arith))

turns-enough : (setup : Setup) (ok : SetupOk setup) (mem : Mem) (argv extra : ℕ) → argv_from setup mem argv [] (arg_limit setup + extra) ≡ argv_from setup mem argv [] (arg_limit setup)
turns-enough setup ok mem argv extra = turns-past setup mem argv extra (arg_limit setup) [] (omega arith) (omega arith)

-- so the arguments read don't depend on how many turns there are
pub turns-any : (setup : Setup) (ok : SetupOk setup) (mem : Mem) (argv turns : ℕ) → arg_limit setup ≤ turns → argv_from setup mem argv [] turns ≡ copy_argv setup mem argv
unfolding copy_argv
turns-any setup ok mem argv turns h =
    let e : arg_limit setup + (turns - arg_limit setup) ≡ turns = omega arith in
    ap (argv_from setup mem argv []) (sym e) ∙ turns-enough setup ok mem argv (turns - arg_limit setup)
