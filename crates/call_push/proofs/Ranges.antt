-- The places and the two ranges of a push, by the size of the strings and the count of arguments.
use Prim.Native.Nat.{ℕ, zero, suc, ◌+◌, ◌*◌, ◌-◌, ◌/◌, ◌%◌, ◌≤◌}
use native.Mathlib.Omega.{arith}
use mathlib.Core.Path.{◌≡◌, refl, sym, ap, ap₂, ◌∙◌}
use mathlib.Core.Bool.{true, false}
use mathlib.Core.List.{List, [], ◌∷◌}
use lib.ListN.{length}
use borrow.Author.Tests.{le-ltb}
use Rattle.spec.specs.Tests.{sum}
use Rattle.spec.specs.Frames.{Mem}
use Rattle.spec.specs.Access.{Checked, ◌names◌else◌, access, user_range_ok}
use Rattle.spec.specs.Exec.{args_of, strings, strings_at, argv_at, first_bad, push_access}
use Rattle.spec.proofs.Ranges.{fine-all, access-passed, either}
use Rattle.spec.proofs.Pushes.{Pushable, push-fine, push-means}
use Rattle.spec.specs.declared.Setup.{Setup}
use Rattle.std.specs.Prelude.{Ok, Err}
use Rattle.uaccess.proofs.InRange.{fine-ok}
use Rattle.exec_args.specs.Sizes.{below_zero_by, argv_by, copies_by}
use Rattle.exec_args.proofs.Cut.{cut-count, cut-size, cut-copies}
use Rattle.exec_args.proofs.Places.{strings-at, argv-at, below-zero-at, low-room}

-- ---- the check

module _ (setup : Setup) (mem : Mem) where
  -- copy by copy
  pub first-bad : (at len a : ℕ) (more : List (ℕ × ℕ)) → access setup mem true at len ≡ Err a → first_bad setup mem ((at, len) ∷ more) ≡ Err a
  first-bad at len a more e = rw e

  pub first_next : (at len : ℕ) (more : List (ℕ × ℕ)) → access setup mem true at len ≡ Ok tt → first_bad setup mem ((at, len) ∷ more) ≡ first_bad setup mem more
  first_next at len more e = rw e

  pub first-last : (at len : ℕ) → first_bad setup mem ((at, len) ∷ []) ≡ access setup mem true at len
  first-last at len = either (access setup mem true at len) (λ e. rw e) (λ a e. rw e)

  -- the copies of one argument, then those of the others
  pub copies-one : (s n p : ℕ) (ns : List ℕ) (r : Checked) → r ≡ first_bad setup mem ((s, n) ∷ (s + n, 1) ∷ (p, 8) ∷ [])
      → first_bad setup mem (copies_by s p (n ∷ ns)) ≡ (r names Err else first_bad setup mem (copies_by (s + n + 1) (p + 8) ns))
  copies-one s n p ns r e = sym (ap (λ (t : Checked). t names Err else rest) e ∙ go (access setup mem true s n) (access setup mem true (s + n) 1) (access setup mem true p 8))
    where
      rest : Checked
      rest = first_bad setup mem (copies_by (s + n + 1) (p + 8) ns)

      go : (x y z : Checked) → ((x names Err else y names Err else z names Err else Ok tt) names Err else rest) ≡ (x names Err else y names Err else z names Err else rest)
      go (Err a) y z = refl
      go (Ok _) (Err a) z = refl
      go (Ok _) (Ok _) (Err a) = refl
      go (Ok _) (Ok _) (Ok _) = refl

  -- by the lengths of arguments
  module _ (top size : ℕ) (bytes lengths : List ℕ) (sums : sum lengths ≡ length bytes) (sized : size ≡ sum lengths + length lengths) where
    abbrev args : List (List ℕ)
    args = args_of bytes lengths

    abbrev count : ℕ
    count = length lengths

    size_is : length (strings args) ≡ size
    size_is = omega (arith, cut-size bytes lengths sums)

    counted : length args ≡ count
    counted = cut-count bytes lengths

    pub ok-low : below_zero_by top size count ≡ true → Err 0 ≡ push_access setup mem top args
    ok-low low = rw (below-zero-at args size count size_is counted top ∙ low)

    pub ok-copies : below_zero_by top size count ≡ false → first_bad setup mem (copies_by (top - size) (argv_by top size count) lengths) ≡ push_access setup mem top args
    ok-copies low =
        rw (below-zero-at args size count size_is counted top ∙ low)
        (sym (ap (first_bad setup mem) (cut-copies (strings_at top args) (argv_at top args) bytes lengths sums) ∙ ap₂ (λ (s p : ℕ). first_bad setup mem (copies_by s p lengths)) (strings-at args size count size_is counted top) (argv-at args size count size_is counted top)))

    -- where each range passes as a whole
    pub ok-ranges : below_zero_by top size count ≡ false → access setup mem true (top - size) size ≡ Ok tt → access setup mem true (argv_by top size count) (8 * (count + 1)) ≡ Ok tt → Ok tt ≡ push_access setup mem top args
    ok-ranges low x y =
        let sa = strings-at args size count size_is counted top in
        let pa = argv-at args size count size_is counted top in
        sym (push-fine setup mem top args (record {
          low = omega (arith, low-room top size count low, size_is, counted);
          strings-at = λ a l u. (access-passed setup mem true (top - size) size x).each a (omega (arith, sa)) (omega (arith, sa, size_is));
          pointers-at = λ a l u. (access-passed setup mem true (argv_by top size count) (8 * (count + 1)) y).each a (omega (arith, pa)) (omega (arith, pa, counted));
        }))

  -- ---- what a check that passed says

  pub record Allowed (top size count : ℕ) : Type 0 where
    pub above_zero : below_zero_by top size count ≡ false
    pub strings-range : user_range_ok setup mem true (top - size) size ≡ true
    pub pointers-range : user_range_ok setup mem true (argv_by top size count) (8 * (count + 1)) ≡ true

  -- of a push from a multiple of 16 on, so that it ends at the top of its pointers if it has no strings
  pub allowed : (top size count : ℕ) (args : List (List ℕ)) → length (strings args) ≡ size → length args ≡ count → top % 16 ≡ 0 → push_access setup mem top args ≡ Ok tt → Allowed top size count
  allowed top size count args s n aligned fine =
      let sa = strings-at args size count s n top in
      let pa = argv-at args size count s n top in
      let low : 8 * (count + 1) ≤ (top - size) / 8 * 8 = omega (arith, may.low, sa, n) in
      record {
        above_zero = le-ltb ((top - size) / 8 * 8) (8 * (count + 1)) low;
        strings-range = fine-ok setup mem true (top - size) size (fine-all setup mem true (top - size) size (ends size s) (λ b l u. (may.strings-at b (omega (arith, sa)) (omega (arith, sa, s))).1));
        pointers-range = fine-ok setup mem true (argv_by top size count) (8 * (count + 1))
            (fine-all setup mem true (argv_by top size count) (8 * (count + 1)) (omega (arith, last, pa, n)) (λ b l u. (may.pointers-at b (omega (arith, pa)) (omega (arith, pa, n))).1));
      }
    where
      may : Pushable setup mem top args
      may = push-means setup mem top args fine

      last : argv_at top args + 8 * (length args + 1) ≤ setup.uaddrtop
      last = omega (arith, (may.pointers-at (argv_at top args + 8 * (length args + 1) - 1) (omega arith) (omega arith)).0)

      ends : (k : ℕ) → length (strings args) ≡ k → top - k + k ≤ setup.uaddrtop
      ends zero e = omega (arith, may.low, last)
      ends (suc k) e = omega (arith, may.low, (may.strings-at (strings_at top args + k) (omega arith) (omega arith)).0)
