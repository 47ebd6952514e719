-- What args_size comes to, by cases, and what it tells a caller.
use Prim.Native.Nat.{ℕ, ◌+◌, ◌≤◌, ◌<◌}
use native.Mathlib.Omega.{arith}
use mathlib.Core.Path.{◌≡◌, sym, ◌∙◌}
use mathlib.Core.Bool.{true, false}
use mathlib.Core.List.{List}
use lib.ListN.{length}
use borrow.Author.Tests.{eqb-true, eq-eqb, lt-ltb, le-ltb}
use Rattle.std.specs.Prelude.{Result, Ok, IfOk}
use Rattle.spec.specs.Refusals.{number_of}
use Rattle.spec.specs.declared.Refusal.{Refusal}
use Rattle.spec.specs.Tests.{◌is◌, ◌above◌, ◌⇒◌else◌, has, sum}
use Rattle.spec.specs.Numbers.{arg_limit}
use Rattle.spec.specs.Exec.{args_of, strings, stack_size, args_error}
use Rattle.spec.proofs.Bools.{split}
use Rattle.exec_args.specs.Sizes.{size_error}
use Rattle.exec_args.proofs.Cut.{cut-count, cut-size, cut_has}
use Rattle.spec.proofs.Args.{args-means}
use Rattle.spec.specs.declared.Setup.{Setup}

module _ (setup : Setup) where
  -- the arguments' refusal, in numbers
  abbrev error_by : List ℕ → List ℕ → ℕ
  error_by bytes lengths = has 0 bytes ⇒ 32 else stack_size (length bytes + length lengths) (length lengths) above arg_limit setup ⇒ 33 else 0

  error-by : (bytes lengths : List ℕ) → sum lengths ≡ length bytes → args_error setup (args_of bytes lengths) ≡ error_by bytes lengths
  error-by bytes lengths e = rw (cut_has 0 bytes lengths e, cut-size bytes lengths e, cut-count bytes lengths)

  module _ (bytes lengths : List ℕ) where
    pub size-unfit : (sum lengths is length bytes) ≡ false → size_error setup bytes lengths ≡ 1
    unfolding size_error
    size-unfit u = rw u

    -- of lengths that sum to their bytes: the number is the arguments' refusal
    pub size_number : sum lengths ≡ length bytes → size_error setup bytes lengths ≡ args_error setup (args_of bytes lengths)
    unfolding size_error
    size_number fit = rw (eq-eqb (sum lengths) (length bytes) fit)

    module _ (f : (sum lengths is length bytes) ≡ true) where
      fit : sum lengths ≡ length bytes
      fit = eqb-true (sum lengths) (length bytes) f

      by-tests : size_error setup bytes lengths ≡ error_by bytes lengths
      by-tests = size_number fit ∙ error-by bytes lengths fit

      -- the two other refusals, and none, from the tests that are made
      pub size-nul : has 0 bytes ≡ true → size_error setup bytes lengths ≡ 32
      size-nul n = by-tests ∙ rw n

      module _ (n : has 0 bytes ≡ false) where
        pub size-over : arg_limit setup < stack_size (length bytes + length lengths) (length lengths) → size_error setup bytes lengths ≡ 33
        size-over h = by-tests ∙ rw (n, lt-ltb (arg_limit setup) (stack_size (length bytes + length lengths) (length lengths)) h)

        pub size-within : stack_size (length bytes + length lengths) (length lengths) ≤ arg_limit setup → size_error setup bytes lengths ≡ 0
        size-within h = by-tests ∙ rw (n, le-ltb (arg_limit setup) (stack_size (length bytes + length lengths) (length lengths)) h)

      pub size-sum : length bytes + length lengths ≡ length (strings (args_of bytes lengths))
      size-sum = sym (cut-size bytes lengths fit)

  -- what a caller learns of arguments that pass: the lengths sum to the bytes, the strings are of the size told, and that and the
  -- pointers' size are within the limit
  pub record Passed (bytes lengths : List ℕ) (size : ℕ) : Type 0 where
    pub sums : sum lengths ≡ length bytes
    pub passed : args_error setup (args_of bytes lengths) ≡ 0
    pub strings-size : size ≡ length (strings (args_of bytes lengths))
    pub bytes-size : size ≡ length bytes + length lengths
    pub limit : stack_size size (length lengths) ≤ arg_limit setup

  passed-by : (bytes lengths : List ℕ) (size : ℕ) → 0 ≡ size_error setup bytes lengths → size ≡ length (strings (args_of bytes lengths)) → Passed bytes lengths size
  passed-by bytes lengths size e z =
      split (sum lengths is length bytes)
      (λ q.
      let fit : sum lengths ≡ length bytes = eqb-true (sum lengths) (length bytes) q in
      let passes : args_error setup (args_of bytes lengths) ≡ 0 = sym (e ∙ size_number bytes lengths fit) in
      record {
        sums = fit;
        passed = passes;
        strings-size = z;
        bytes-size = z ∙ cut-size bytes lengths fit;
        limit = rw (z, ← cut-count bytes lengths) (args-means setup (args_of bytes lengths) passes).1;
      })
      (λ q. absurd (omega (arith, e, size-unfit bytes lengths q)))

  pub size-passed : (bytes lengths : List ℕ) (r : Result ℕ Refusal) (size : ℕ) → r ≡ Ok size → number_of r ≡ size_error setup bytes lengths → IfOk r (λ n. n ≡ length (strings (args_of bytes lengths))) → Passed bytes lengths size
  size-passed bytes lengths r size k e z = passed-by bytes lengths size (rw k at e) (rw k at z)
