-- The loop of copy_argv: what has been read so far, and how it goes on.
use Prim.Native.Nat.{ℕ, suc, ◌+◌, ◌*◌, ◌-◌, ◌^◌, ◌≤◌, ◌<◌}
use native.Mathlib.Omega.{arith}
use mathlib.Core.Path.{◌≡◌, refl, sym, ap, ap₂, ◌∙◌}
use mathlib.Core.Bool.{false}
use mathlib.Core.List.{List, [], ◌∷◌, ◌++◌}
use Rattle.std.specs.Prelude.{Option, None, Some, Result, Ok, Err}
use lib.ListN.{length, take, drop, replicate, length-append}
use lib.Seq.{take_at}
use borrow.Author.Tests.{ltb-false}
use Rattle.spec.specs.Numbers.{arg_limit, SetupOk}
use Rattle.spec.specs.declared.Setup.{Setup}
use Rattle.spec.specs.Frames.{Mem, put}
use Rattle.spec.specs.Access.{Str, copy_str}
use Rattle.spec.specs.Exec.{strings, stack_size, Argv, bad, over, read, arg_buffer, argv_from, copy_argv}
use Rattle.spec.proofs.Args.{strings-append}
use Rattle.spec_laws.proofs.Lists.{put-append, length-put}
use Rattle.spec.proofs.Ranges.{access-passed}
use Rattle.exec_args.specs.Sizes.{saturated}
use Rattle.exec_args.proofs.Saturated.{saturated-fits}
use Rattle.exec_argv.specs.Places.{pointer_at}
use Rattle.exec_argv.specs.Strings.{more_of, added_to, Added}
use Rattle.exec_argv.proofs.Buffered.{str-length}
use Rattle.exec_argv.proofs.Adding.{more-size}
use Rattle.exec_argv.specs.declared.Strings.{Strings}
use Rattle.exec_argv.specs.declared.ArgvError.{ArgvError}
use Rattle.exec_argv.specs.declared.ArgvError.TheVariants.{Bad, Over}
use Rattle.exec_argv.specs.Reading.{held_of, left_in, Reads}
use Rattle.exec_argv.proofs.Turned.{turn-bad, turn-null, pointer_read, turn-string-bad, turn-string-over, turn-next}

-- what a copy that was not refused leaves begins with the strings
pub read-strings : (args : List (List ℕ)) (before after : List ℕ) (used : ℕ) → used ≡ length (strings args) → after ≡ left_in before (read args) → take used after ≡ strings args
read-strings args before after used e h = ap₂ take e h ∙ take_at (strings args) (drop (0 + length (strings args)) before) _ refl

-- what it tells, turned round
pub was-bad : (a : Argv) (x : ℕ) → held_of a ≡ Err (Bad x) → a ≡ bad x
was-bad (bad y) x e = let z : y ≡ x = cc in ap bad z
was-bad over x e = cc
was-bad (read args) x e = cc

pub was-over : (a : Argv) → held_of a ≡ Err Over → a ≡ over
was-over (bad y) e = cc
was-over over e = refl
was-over (read args) e = cc

pub was_read : (a : Argv) (x : Strings) → held_of a ≡ Ok x → (args : List (List ℕ)) × (a ≡ read args) × (x ≡ record { used = length (strings args); count = length args })
was_read (bad y) x e = cc
was_read over x e = cc
was_read (read args) x e = (args, refl, (cc))

-- the strings of `count` arguments are read, `used` bytes, over the first bytes of a buffer, they are within the limit, and the definition
-- goes on from them
pub record SoFar (setup : Setup) (mem : Mem) (argv : ℕ) (buf₀ buf : List ℕ) (used count : ℕ) : Type 0 where
  pub accepted : SetupOk setup
  pub room : arg_limit setup ≤ length buf
  pub same : length buf ≡ length buf₀
  pub limit : stack_size used count ≤ arg_limit setup
  pub before : List (List ℕ)
  pub sized : used ≡ length (strings before)
  pub counted : count ≡ length before
  pub bytes : buf ≡ put buf₀ 0 (strings before)
  pub place : argv + 8 * count < 2 ^ 64
  pub rest : copy_argv setup mem argv ≡ argv_from setup mem argv before (arg_limit setup - count)

pub none_yet : (setup : Setup) → SetupOk setup → (mem : Mem) (argv : ℕ) (buf : List ℕ) → arg_limit setup ≤ length buf → argv < 2 ^ 64 → SoFar setup mem argv buf buf 0 0
unfolding copy_argv
none_yet setup ok mem argv buf r u =
    let all : arg_limit setup ≡ arg_limit setup - 0 = omega arith in
    record { accepted = ok; room = r; same = refl; limit = omega arith; before = []; sized = refl; counted = refl; bytes = refl; place = omega arith; rest = ap (argv_from setup mem argv []) all }

module _ {setup : Setup} (mem : Mem) (argv : ℕ) (buf₀ buf : List ℕ) (used count : ℕ) (so : SoFar setup mem argv buf₀ buf used count) where
  abbrev turns : ℕ
  turns = arg_limit setup - (count + 1)

  again : copy_argv setup mem argv ≡ argv_from setup mem argv so.before (suc turns)
  again = so.rest ∙ (let e : arg_limit setup - count ≡ suc turns = omega (arith, so.limit) in ap (argv_from setup mem argv so.before) e)

  -- a refusal
  refused : (e : Argv) (r : Result Strings ArgvError) → argv_from setup mem argv so.before (suc turns) ≡ e → r ≡ held_of e → (left : List ℕ) → left ≡ left_in buf₀ e → Reads (copy_argv setup mem argv) buf₀ r left
  refused e r h s left zeros = let all = sym (again ∙ h) in record { said = s ∙ ap held_of all; bytes = zeros ∙ ap (left_in buf₀) all }

  zeros : (left : List ℕ) → left ≡ replicate (length buf) 0 → left ≡ replicate (length buf₀) 0
  zeros left e = e ∙ ap (λ (n : ℕ). replicate n 0) so.same

  -- the pointer that was read
  module _ (p : Result (Option ℕ) ℕ) (told : p ≡ pointer_at setup mem (saturated (argv + 8 * count))) where
    here : pointer_at setup mem (argv + 8 * length so.before) ≡ p
    here =
        ap (λ (n : ℕ). pointer_at setup mem (argv + 8 * n)) (sym so.counted)
        ∙ sym (told ∙ ap (pointer_at setup mem) (saturated-fits (argv + 8 * count) so.place))

    pub so-bad : (a : ℕ) → p ≡ Err a → (left : List ℕ) → left ≡ replicate (length buf) 0 → Reads (copy_argv setup mem argv) buf₀ (Err (Bad a)) left
    so-bad a e left z = refused (bad a) (Err (Bad a)) (turn-bad setup mem argv turns so.before a (here ∙ e)) refl left (zeros left z)

    pub so-null : p ≡ Ok None → Reads (copy_argv setup mem argv) buf₀ (Ok (record { used = used; count = count })) buf
    so-null e =
        let all = sym (again ∙ turn-null setup mem argv turns so.before (here ∙ e)) in
        record {
          said = (λ i. Ok (record { used = so.sized i; count = so.counted i })) ∙ ap held_of all;
          bytes = so.bytes ∙ ap (left_in buf₀) all;
        }

    -- and the string that it points to
    module _ (s : ℕ) (points : p ≡ Ok (Some s)) (r : Result ℕ ArgvError) (after : List ℕ) (added : Added setup (copy_str setup mem (arg_buffer setup) s) used count buf r after) where
      abbrev str : Str
      str = copy_str setup mem (arg_buffer setup) s

      said : r ≡ more_of setup str (length (strings so.before)) (length so.before)
      said = added.said ∙ ap₂ (more_of setup str) so.sized so.counted

      pub so-string-refused : (e : ArgvError) → r ≡ Err e → (x : Result Strings ArgvError) → x ≡ Err e → Reads (copy_argv setup mem argv) buf₀ x after
      so-string-refused (Bad a) e x h =
          refused (bad a) x (turn-string-bad setup mem argv turns so.before s (here ∙ points) a (sym e ∙ said)) h after
          (zeros after (added.bytes ∙ ap (added_to buf used str) e))
      so-string-refused Over e x h =
          refused over x (turn-string-over setup mem argv turns so.before s (here ∙ points) (sym e ∙ said)) h after
          (zeros after (added.bytes ∙ ap (added_to buf used str) e))

      pub so-next : (size : ℕ) → r ≡ Ok size → SoFar setup mem argv buf₀ after (used + (size + 1)) (count + 1)
      so-next size e =
          let m = more-size setup str used count size (sym added.said ∙ e) in
          let l : stack_size (used + str.size + 1) (count + 1) ≤ arg_limit setup = ltb-false (arg_limit setup) _ m.2 in
          let bytes : after ≡ put buf used (take str.size str.buffer ++ 0 ∷ []) = added.bytes ∙ ap (added_to buf used str) e in
          let text : List ℕ = take str.size str.buffer in
          let n : length (text ++ 0 ∷ []) ≡ size + 1 = length-append text (0 ∷ []) ∙ ap (λ (k : ℕ). k + 1) (str-length setup mem (arg_buffer setup) s ∙ sym m.3) in
          let all : strings (so.before ++ text ∷ []) ≡ strings so.before ++ (text ++ 0 ∷ []) = strings-append so.before (text ∷ []) in
          let at : used ≡ 0 + length (strings so.before) = omega (arith, so.sized) in
          let kept : length after ≡ length buf = ap length bytes ∙ length-put buf (text ++ 0 ∷ []) used (omega (arith, l, n, so.room, m.3)) in
          let read = ((access-passed setup mem false (argv + 8 * length so.before) 8 (pointer_read setup mem argv turns so.before s (here ∙ points))).each (argv + 8 * length so.before + 7) (omega arith) (omega arith)).0 in
          record {
            accepted = so.accepted;
            room = rw kept so.room;
            same = kept ∙ so.same;
            limit = omega (arith, l, m.3);
            before = so.before ++ text ∷ [];
            sized = sym (ap length all ∙ length-append (strings so.before) (text ++ 0 ∷ []) ∙ ap₂ ◌+◌ (sym so.sized) n);
            counted = ap (λ (k : ℕ). k + 1) so.counted ∙ sym (length-append so.before (text ∷ []));
            bytes = bytes ∙ ap₂ (λ (b : List ℕ) (k : ℕ). put b k (text ++ 0 ∷ [])) so.bytes at ∙ sym (put-append buf₀ (strings so.before) (text ++ 0 ∷ []) 0 (omega arith)) ∙ ap (put buf₀ 0) (sym all);
            place = omega (arith, read, so.counted, so.accepted);
            rest = again ∙ turn-next setup mem argv turns so.before s (here ∙ points) size (sym e ∙ said);
          }
