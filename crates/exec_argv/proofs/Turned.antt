-- The arguments of replace, turn by turn.
use Prim.Native.Nat.{ℕ, suc, ◌+◌, ◌*◌}
use mathlib.Core.Path.{◌≡◌, refl, sym, ap, ap₂, ◌∙◌}
use mathlib.Core.Bool.{Bool, true, false}
use mathlib.Core.List.{List, [], ◌∷◌, ◌++◌}
use Rattle.std.specs.Prelude.{None, Some, Result, Ok, Err}
use lib.ListN.{length, take, length-append}
use Rattle.spec.specs.Tests.{◌is◌, ◌above◌, ◌⇒◌else◌}
use Rattle.spec.specs.Numbers.{arg_limit, le}
use Rattle.spec.specs.Frames.{Mem}
use Rattle.spec.specs.Access.{◌names◌else◌, access, bytes_at, Str, copy_str}
use Rattle.spec.specs.Exec.{strings, stack_size, Argv, bad, over, read, arg_buffer, argv_from}
use Rattle.spec.proofs.Args.{strings-more}
use Rattle.spec.specs.declared.Setup.{Setup}
use Rattle.spec_laws.proofs.Argv.{turn}
use Rattle.spec.specs.Access.{Checked}
use Rattle.exec_argv.specs.declared.ArgvError.{ArgvError}
use Rattle.exec_argv.specs.declared.ArgvError.TheVariants.{Bad, Over}
use Rattle.exec_argv.specs.Places.{pointer_at}
use Rattle.exec_argv.proofs.Pointing.{was-bad, was-null, was-string}
use Rattle.exec_argv.specs.Strings.{more_of}
use Rattle.exec_argv.proofs.Buffered.{str-length}

-- ---- a turn, by its tests

-- what the string of a turn comes to
abbrev comes : Checked → Bool → Bool → ℕ → Result ℕ ArgvError
comes w f g n = w names (λ a. Err (Bad a)) else f ⇒ Err Over else g ⇒ Err Over else Ok n

turn-bad-string : (w : Checked) (f g : Bool) (n a : ℕ) (before : List (List ℕ)) (more : Argv) → Err (Bad a) ≡ comes w f g n → turn (Ok tt) false w f g before more ≡ bad a
turn-bad-string (Ok _) true g n a before more h = cc
turn-bad-string (Ok _) false true n a before more h = cc
turn-bad-string (Ok _) false false n a before more h = cc
turn-bad-string (Err b) f g n a before more h = let z : b ≡ a = cc in ap bad z

turn-over : (w : Checked) (f g : Bool) (n : ℕ) (before : List (List ℕ)) (more : Argv) → Err Over ≡ comes w f g n → turn (Ok tt) false w f g before more ≡ over
turn-over (Ok _) true g n before more h = refl
turn-over (Ok _) false true n before more h = refl
turn-over (Ok _) false false n before more h = cc
turn-over (Err b) f g n before more h = cc

turn-goes : (w : Checked) (f g : Bool) (n m : ℕ) (before : List (List ℕ)) (more : Argv) → Ok m ≡ comes w f g n → turn (Ok tt) false w f g before more ≡ more
turn-goes (Ok _) true g n m before more h = cc
turn-goes (Ok _) false true n m before more h = cc
turn-goes (Ok _) false false n m before more h = refl
turn-goes (Err b) f g n m before more h = cc

module _ (setup : Setup) (mem : Mem) (argv turns : ℕ) (before : List (List ℕ)) where
  abbrev str : ℕ → Str
  str s = copy_str setup mem (arg_buffer setup) s

  abbrev next : ℕ → List (List ℕ)
  next s = before ++ take (str s).size (str s).buffer ∷ []

  abbrev past : ℕ → Bool
  past s = stack_size (length (strings (next s))) (length (next s)) above arg_limit setup

  abbrev at : ℕ
  at = argv + 8 * length before

  pub turn-bad : (a : ℕ) → pointer_at setup mem at ≡ Err a → argv_from setup mem argv before (suc turns) ≡ bad a
  turn-bad a e = rw (was-bad (access setup mem false at 8) (le 8 (bytes_at mem at 8) 0 is 0) (le 8 (bytes_at mem at 8) 0) a e)

  pub turn-null : pointer_at setup mem at ≡ Ok None → argv_from setup mem argv before (suc turns) ≡ read before
  turn-null e = let w = was-null (access setup mem false at 8) (le 8 (bytes_at mem at 8) 0 is 0) (le 8 (bytes_at mem at 8) 0) e in rw (w.0, w.1)

  -- the arguments with one more
  module _ (s : ℕ) (points : pointer_at setup mem at ≡ Ok (Some s)) where
    -- its pointer was read
    pub pointer_read : ◌≡◌ {A = Checked} (access setup mem false at 8) (Ok tt)
    pointer_read = (was-string (access setup mem false at 8) (le 8 (bytes_at mem at 8) 0 is 0) (le 8 (bytes_at mem at 8) 0) s points).0

    sizes : stack_size (length (strings (next s))) (length (next s)) ≡ stack_size (length (strings before) + (str s).size + 1) (length before + 1)
    sizes =
        let text : List ℕ = take (str s).size (str s).buffer in
        ap₂ stack_size (strings-more before text ∙ ap (λ (n : ℕ). length (strings before) + n + 1) (str-length setup mem (arg_buffer setup) s)) (length-append before (text ∷ []))

    chain : argv_from setup mem argv before (suc turns) ≡ turn (Ok tt) false (str s).access ((str s).size is arg_limit setup) (past s) before (argv_from setup mem argv (next s) turns)
    chain =
        let w = was-string (access setup mem false at 8) (le 8 (bytes_at mem at 8) 0 is 0) (le 8 (bytes_at mem at 8) 0) s points in
        λ i. let x : ℕ = w.2 i in turn (w.0 i) (w.1 i) (str x).access ((str x).size is arg_limit setup) (past x) before (argv_from setup mem argv (next x) turns)

    tests : more_of setup (str s) (length (strings before)) (length before) ≡ comes (str s).access ((str s).size is arg_limit setup) (past s) (str s).size
    tests = ap (λ (n : ℕ). comes (str s).access ((str s).size is arg_limit setup) (n above arg_limit setup) (str s).size) (sym sizes)

    pub turn-string-bad : (a : ℕ) → Err (Bad a) ≡ more_of setup (str s) (length (strings before)) (length before) → argv_from setup mem argv before (suc turns) ≡ bad a
    turn-string-bad a h = chain ∙ turn-bad-string (str s).access ((str s).size is arg_limit setup) (past s) (str s).size a before (argv_from setup mem argv (next s) turns) (h ∙ tests)

    pub turn-string-over : Err Over ≡ more_of setup (str s) (length (strings before)) (length before) → argv_from setup mem argv before (suc turns) ≡ over
    turn-string-over h = chain ∙ turn-over (str s).access ((str s).size is arg_limit setup) (past s) (str s).size before (argv_from setup mem argv (next s) turns) (h ∙ tests)

    pub turn-next : (n : ℕ) → Ok n ≡ more_of setup (str s) (length (strings before)) (length before) → argv_from setup mem argv before (suc turns) ≡ argv_from setup mem argv (next s) turns
    turn-next n h = chain ∙ turn-goes (str s).access ((str s).size is arg_limit setup) (past s) (str s).size n before (argv_from setup mem argv (next s) turns) (h ∙ tests)
