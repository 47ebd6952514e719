-- `others` meets its contract.
use Prim.Native.Nat.{ℕ, zero, suc, ◌<◌}
use mathlib.Core.Path.{◌≡◌, refl, ◌∙◌}
use native.Mathlib.Nat.{not-suc-le-zero, le_of_suc-le-suc}
use lib.ListN.{get_or, replicate, length-set, length-replicate}
use lib.Seq.{get_or-set_other}
use Rattle.sound_table.proofs.rows.others.Goals as goal

full : (k x : ℕ) → x < k → ◌≡◌ {A = ℕ} (get_or (replicate k 18446744073709551615) x 0) 18446744073709551615
full zero x l = absurd (not-suc-le-zero l)
full (suc k) zero l = refl
full (suc k) (suc x) l = full k x (le_of_suc-le-suc l)

pub returns : goal.returns
returns c = (simp length-set (length-replicate {A = ℕ} 31 18446744073709551615), λ i l ne. get_or-set_other (replicate 31 18446744073709551615) 15 i 0 0 ne ∙ full 31 i l)
