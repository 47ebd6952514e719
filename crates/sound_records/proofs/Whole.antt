-- Array lengths, which owning the records tells.
use Prim.Native.Nat.{ℕ, zero, suc, ◌+◌, ◌-◌, ◌<◌}
use native.Mathlib.Omega.{arith}
use native.Mathlib.Nat.{not-suc-le-zero, le_of_suc-le-suc}
use mathlib.Core.Path.{◌≡◌, refl, ap, ◌∙◌}
use mathlib.Core.List.{List, [], ◌∷◌}
use lib.ListN.{length, get_or, get_or-eq_default}
use lib.Dec.{ltb}
use borrow.Author.Tests.{ltb-true, ltb-false}
use mir.Val.{Val}
use denote.Array.{each}
use denote.Shadow.{shadow}
use Rattle.spec.specs.Book.{range, zero_proc, proc_at}
use Rattle.spec.specs.declared.Proc.{Proc}
use Rattle.spec.specs.declared.Procs.{Procs}
use Rattle.spec.proofs.Bools.{split}
use Rattle.spec.specs.contracts.Proc as P
use Rattle.spec_laws.proofs.Record.{WholeProc, Whole, zero-whole}

-- what stands past the end of an array of records, as the logic has it
abbrev pub no_proc : Proc
no_proc = record { segments = []; text = []; bss = range 0 0 }

-- within an array it doesn't matter what stands past its end
pub within-array : {A : Type 0} (l : List A) (i : ℕ) (d e : A) → i < length l → get_or l i d ≡ get_or l i e
within-array [] i d e h = absurd (not-suc-le-zero h)
within-array (x ∷ l) zero d e h = refl
within-array (x ∷ l) (suc i) d e h = within-array l i d e (le_of_suc-le-suc h)

-- so the code's record n is the specification's process n + 1
pub proc-is : (ps : Procs) (n : ℕ) → n < length ps.all → get_or ps.all n no_proc ≡ proc_at ps (n + 1)
proc-is ps n h = let e : n ≡ n + 1 - 1 = omega arith in within-array ps.all n no_proc zero_proc h ∙ ap (λ (k : ℕ). get_or ps.all k zero_proc) e

each-whole : (l : List Proc) (us : List Val) → shadow (each (P.the_row).Denot (P.the_row).own_val l us)
    → (i : ℕ) → i < length l → WholeProc (get_or l i zero_proc)
each-whole [] us s i h = absurd (not-suc-le-zero h)
each-whole (p ∷ l) [] s i h = absurd s
each-whole (p ∷ l) (u ∷ us) s zero h = record {
  segments = s.0.1.1.0.1.0.1;
  text = s.0.1.1.1.0.1.0.1;
}
each-whole (p ∷ l) (u ∷ us) s (suc i) h = each-whole l us s.1 i (le_of_suc-le-suc h)

pub whole-procs : (ps : Procs) (us : List Val) → shadow (each (P.the_row).Denot (P.the_row).own_val ps.all us)
    → length ps.all ≡ 16 → Whole ps
whole-procs ps us s l = record {
  records = l;
  each = λ i. split (ltb i (length ps.all))
      (λ q. each-whole ps.all us s i (ltb-true _ _ q))
      (λ q. rw (get_or-eq_default ps.all zero_proc (ltb-false _ _ q)) zero-whole);
}

-- as `lengths` tells it
pub whole-told : (ps : Procs) → length ps.all ≡ 16 → ((i : ℕ) → (length (get_or ps.all i zero_proc).segments ≡ 16) × (length (get_or ps.all i zero_proc).text ≡ 28)) → Whole ps
whole-told ps long each = record { records = long; each = λ i. record { segments = (each i).0; text = (each i).1 } }
