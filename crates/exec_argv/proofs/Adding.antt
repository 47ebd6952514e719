-- One string more that is within the limit, and what it leaves.
use Prim.Native.Nat.{ℕ, ◌+◌, ◌-◌, ◌≤◌, ◌<◌}
use native.Mathlib.Omega.{arith}
use mathlib.Core.Path.{◌≡◌, refl, sym, ap, ◌∙◌}
use mathlib.Core.Bool.{Bool, true, false}
use mathlib.Core.List.{List, [], ◌∷◌}
use Rattle.std.specs.Prelude.{Result, Ok, Err}
use lib.ListN.{length, take, set}
use borrow.Author.Tests.{ne_eqb, le-ltb}
use Rattle.spec.specs.Tests.{◌is◌, ◌above◌, ◌⇒◌else◌}
use Rattle.spec.specs.Numbers.{arg_limit}
use Rattle.spec.specs.Frames.{put}
use Rattle.spec.specs.Access.{◌names◌else◌, Str}
use Rattle.spec.specs.Exec.{stack_size}
use Rattle.spec.specs.declared.Setup.{Setup}
use Rattle.spec_laws.proofs.Lists.{put-append, put_one, length-put}
use Rattle.spec.specs.Access.{Checked}
use Rattle.uaccess.specs.declared.strings.Unread.{Unread}
use Rattle.uaccess.specs.Copied.{copied}
use Rattle.exec_argv.specs.declared.ArgvError.TheVariants.{Bad, Over}
use Rattle.exec_argv.specs.Strings.{Told, more_of, Added}

module _ (setup : Setup) (t : Str) (used count : ℕ) where
  abbrev over : ℕ → Bool
  over n = stack_size (used + n + 1) (count + 1) above arg_limit setup

  -- with its length told, it is within the limit
  pub more-size : (n : ℕ) → more_of setup t used count ≡ Ok n → (t.access ≡ Ok tt) × ((t.size is arg_limit setup) ≡ false) × (over t.size ≡ false) × (n ≡ t.size)
  more-size n e = go t.access (t.size is arg_limit setup) (over t.size) e
    where
      go : (w : Checked) (f g : Bool) → (w names (λ a. Err (Bad a)) else f ⇒ Err Over else g ⇒ Err Over else Ok t.size) ≡ Ok n → (◌≡◌ {A = Checked} w (Ok tt)) × (f ≡ false) × (g ≡ false) × (n ≡ t.size)
      go (Ok _) false false e = (refl, refl, refl, (cc))
      go (Ok _) false true e = cc
      go (Ok _) true g e = cc
      go (Err a) f g e = cc

  -- from what was read
  module _ (before after : List ℕ) (r : Result ℕ Unread) (told : Told (arg_limit setup) t used before r after) where
    module _ (n : ℕ) (h : r ≡ Ok n) where
      whole : ◌≡◌ {A = Checked} t.access (Ok tt)
      whole = sym (ap (λ (x : Str). x.access) told.said) ∙ ap (λ (q : Result ℕ Unread). (copied q t.buffer).access) h

      pub read-size : n ≡ t.size
      read-size = sym (ap (λ (q : Result ℕ Unread). (copied q t.buffer).size) h) ∙ ap (λ (x : Str). x.size) told.said

      pub added-fine : (n ≡ arg_limit setup → ⊥) → stack_size (used + n + 1) (count + 1) ≤ arg_limit setup → arg_limit setup ≤ length before → length (take t.size t.buffer) ≡ t.size → Added setup t used count before (Ok n) (set after (used + n) 0)
      added-fine short within room l =
          let text : List ℕ = take t.size t.buffer in
          let low : stack_size (used + t.size + 1) (count + 1) ≤ arg_limit setup = rw read-size at within in
          let m : used + n ≡ used + length text = omega (arith, read-size, l) in
          let g : t.size < arg_limit setup - used = omega arith in
          record {
            said = rw (whole, ne_eqb t.size (arg_limit setup) (λ e. short (read-size ∙ e)), le-ltb (arg_limit setup) _ low) (ap Ok read-size);
            bytes =
                rw (m, told.text g)
                (sym (put-append before text (0 ∷ []) used (omega arith) ∙ put_one (put before used text) (used + length text) 0 (rw (length-put before text used (omega arith)) (omega arith))));
          }
