-- The premise of demand 3 is met, for every accepted setup: a book of zeros, with no process, is where calls may begin.
use Prim.Native.Nat.{ℕ, ◌+◌, ◌*◌, ◌-◌, ◌≤◌}
use native.Mathlib.Omega.{arith}
use mathlib.Core.Path.{◌≡◌, refl, sym, ap, ◌∙◌}
use mathlib.Core.Bool.{◌&&◌, and-false}
use mathlib.Core.List.{List}
use lib.ListN.{length, replicate, length-replicate}
use borrow.Author.Tests.{eq-eqb}
use Rattle.spec.proofs.Bools.{clash, and-test, within-test}
use Rattle.spec.proofs.Search.{highest-none}
use Rattle.spec.proofs.Setups.{setup-means}
use Rattle.spec.proofs.Counts.{count_none}
use Rattle.spec.specs.Tests.{◌is◌, ◌isnt◌, within}
use Rattle.spec.specs.Numbers.{max_frames, setup_error, SetupOk}
use Rattle.spec.specs.Book.{valid, frame_count, mapping, owns, perm_in, zero_proc, lives, perm_at, proc_at, pieces_of}
use Rattle.spec.specs.Sound.{Sound}
use Rattle.spec.specs.World.{State}
use Rattle.spec.specs.History.{Begin}
use Rattle.spec.specs.declared.Proc.{Proc}
use Rattle.spec.specs.declared.Procs.{Procs}
use Rattle.spec.specs.declared.Setup.{Setup}
use Rattle.spec_laws.proofs.Lists.{get_or-same}
use Rattle.spec_laws.proofs.Record.{typed-whole}
use Rattle.spec_laws.proofs.OwnPieces.{zero-pieces}
use Rattle.spec_laws.proofs.Facts.{facts-sound}

-- n free frames with any bytes, and no process
abbrev no_procs : Procs
no_procs = record { all = replicate 16 zero_proc }

abbrev pub blank : Setup → ℕ → List ℕ → State
blank setup n frames = record { setup = setup; store = record { frames = frames; book = replicate (17 * n) 0 }; procs = no_procs }

zero-book : (setup : Setup) → SetupOk setup → (n : ℕ) → Sound setup (replicate n 0) no_procs
zero-book setup ok n = record {
  accepted = ok;
  mappings = record {
    words = λ k p l v nz. absurd (nz (get_or-same n (17 * k + (p - 1)) 0));
    once = λ p j k v a b x. absurd (x (get_or-same n (17 * j + (p - 1)) 0));
    beside = λ k p q l v w ne x. absurd (x (get_or-same n (17 * k + (p - 1)) 0));
    counts = λ k l. get_or-same n (17 * k + 16) 0 ∙ sym (count_none (λ i. mapping (replicate n 0) k (i + 1) isnt 0) 16 (λ i h. ap (λ (x : ℕ). x isnt 0) (get_or-same n (17 * k + (i + 1 - 1)) 0)));
  };
  shape = λ p v l. clash (lives (proc_at no_procs p)) l (ap lives (get_or-same 16 (p - 1) zero_proc));
  exact = λ p page v z.
      ap (perm_in (replicate n 0) p) (highest-none (λ k. owns p page (mapping (replicate n 0) k p)) (frame_count (replicate n 0)) (λ k l. ap (owns p page) (get_or-same n (17 * k + (p - 1)) 0)))
      ∙ sym (ap (λ (x : Proc). perm_at (pieces_of x) page) (get_or-same 16 (p - 1) zero_proc) ∙ zero-pieces page);
}

pub blank-begins : (setup : Setup) (n : ℕ) (frames : List ℕ) → setup_error setup ≡ 0 → 1 ≤ n → n ≤ max_frames → length frames ≡ 4096 * n → Begin (blank setup n frames)
blank-begins setup n frames ok l h e = record {
  types = refl;
  setup = ok;
  sizes =
      let k = length-replicate {A = ℕ} (17 * n) 0 in
      let c : frame_count (replicate (17 * n) 0) ≡ n = omega arith in
      and-test (length frames is 4096 * frame_count (replicate (17 * n) 0) && length (replicate (17 * n) 0) is 17 * frame_count (replicate (17 * n) 0)) (within 1 (max_frames + 1) (frame_count (replicate (17 * n) 0)))
      (and-test (length frames is 4096 * frame_count (replicate (17 * n) 0)) (length (replicate (17 * n) 0) is 17 * frame_count (replicate (17 * n) 0))
      (eq-eqb (length frames) (4096 * frame_count (replicate (17 * n) 0)) (omega arith)) (eq-eqb (length (replicate (17 * n) 0)) (17 * frame_count (replicate (17 * n) 0)) (omega arith)))
      (within-test 1 (max_frames + 1) (frame_count (replicate (17 * n) 0)) (omega arith) (omega arith));
  book = facts-sound setup (replicate (17 * n) 0) no_procs (typed-whole (blank setup n frames) refl) (zero-book setup (setup-means setup ok) (17 * n));
  nobody = λ p. ap (λ (x : Proc). valid p && lives x) (get_or-same 16 (p - 1) zero_proc) ∙ and-false (valid p);
}
