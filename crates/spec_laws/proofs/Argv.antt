-- The arguments of replace: one turn of reading them, by its tests; and those that were read have no NUL and are within the limit.
use Rattle.std.specs.Prelude.{Ok, Err}
use Prim.Native.Nat.{ℕ, zero, suc, ◌+◌, ◌*◌}
use native.Mathlib.Numerals.{add-one}
use native.Mathlib.Omega.{arith}
use mathlib.Core.Path.{◌≡◌, refl, sym, subst, ◌∙◌}
use mathlib.Core.Bool.{Bool, true, false}
use mathlib.Core.List.{List, [], ◌∷◌, ◌++◌}
use lib.ListN.{length, take}
use Rattle.spec.specs.Tests.{◌is◌, ◌above◌, ◌⇒◌else◌, any, has}
use Rattle.spec.specs.Numbers.{arg_limit, le, SetupOk}
use Rattle.spec.specs.Frames.{Mem}
use Rattle.spec.specs.Access.{◌names◌else◌, access, byte_of, bytes_at, Str, copy_str, Checked}
use Rattle.spec.specs.Exec.{strings, stack_size, args_error, Argv, bad, over, read, arg_buffer, argv_from, copy_argv}
use Rattle.spec.proofs.Lists.{any_append}
use Rattle.spec.proofs.Args.{args-means}
use Rattle.spec.proofs.Bools.{split, not-above}
use Rattle.spec.proofs.Ranges.{either}
use Rattle.spec.specs.declared.Setup.{Setup}

-- ---- one turn, by its tests

abbrev pub turn : Checked → Bool → Checked → Bool → Bool → List (List ℕ) → Argv → Argv
turn t z w f g before more =
    t names bad else
    z ⇒ read before else
    w names bad else
    f ⇒ over else
    g ⇒ over else
    more

module _ (setup : Setup) where
  -- arguments that were read can be pushed
  abbrev pub Fits : Argv → Type 0
  Fits (bad address) = Unit {0}
  Fits over = Unit {0}
  Fits (read args) = args_error setup args ≡ 0

  fits-turn : (t : Checked) (z : Bool) (w : Checked) (f g : Bool) (before : List (List ℕ)) (more : Argv) → args_error setup before ≡ 0 → (g ≡ false → Fits more) → Fits (turn t z w f g before more)
  fits-turn (Err a) z w f g before more e h = tt
  fits-turn (Ok _) true w f g before more e h = e
  fits-turn (Ok _) false (Err a) f g before more e h = tt
  fits-turn (Ok _) false (Ok _) true g before more e h = tt
  fits-turn (Ok _) false (Ok _) false true before more e h = tt
  fits-turn (Ok _) false (Ok _) false false before more e h = h refl

  -- ---- one argument more

  -- no byte of a string that was read is a NUL
  pub str-no-nul : (mem : Mem) (d : List ℕ) (a : ℕ) → has 0 (take (copy_str setup mem d a).size (copy_str setup mem d a).buffer) ≡ false
  str-no-nul mem [] a = refl
  str-no-nul mem (x ∷ d) a =
      either (access setup mem false a 1)
      (λ q. split (byte_of (mem a) is 0) (λ z. rw (q, z)) (λ z. rw (q, z, add-one (copy_str setup mem d (a + 1)).size) (rw z (str-no-nul mem d (a + 1)))))
      (λ b q. rw q)

  error-more : (args : List (List ℕ)) (a : List ℕ) → args_error setup args ≡ 0 → has 0 a ≡ false → (stack_size (length (strings (args ++ a ∷ []))) (length (args ++ a ∷ [])) above arg_limit setup) ≡ false → args_error setup (args ++ a ∷ []) ≡ 0
  error-more args a e n l =
      let none : any (has 0) (args ++ a ∷ []) ≡ false = any_append (has 0) args (a ∷ []) ∙ rw ((args-means setup args e).0, n) in
      rw (none, l)

  -- ---- all of them

  fits-from : (mem : Mem) (argv turns : ℕ) (before : List (List ℕ)) → args_error setup before ≡ 0 → Fits (argv_from setup mem argv before turns)
  fits-from mem argv zero before e = tt
  fits-from mem argv (suc turns) before e =
      let at : ℕ = argv + 8 * length before in
      let s : ℕ = le 8 (bytes_at mem at 8) 0 in
      let str : Str = copy_str setup mem (arg_buffer setup) s in
      let text : List ℕ = take str.size str.buffer in
      let args : List (List ℕ) = before ++ text ∷ [] in
      fits-turn (access setup mem false at 8) (s is 0) str.access (str.size is arg_limit setup) (stack_size (length (strings args)) (length args) above arg_limit setup) before (argv_from setup mem argv args turns) e
      (λ q. fits-from mem argv turns args (error-more before text e (str-no-nul mem (arg_buffer setup) s) q))

  pub argv-fits : SetupOk setup → (mem : Mem) (argv : ℕ) (r : Argv) → r ≡ copy_argv setup mem argv → Fits r
  unfolding copy_argv
  argv-fits ok mem argv r h = subst Fits (sym h) (fits-from mem argv (arg_limit setup) [] (rw (not-above 16 (arg_limit setup) (omega (arith, ok)))))
