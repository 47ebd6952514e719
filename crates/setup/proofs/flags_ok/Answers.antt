-- `flags_ok` meets its contract: each row is judged, and the order of the rows doesn't matter.
-- Assumes nothing.
use Rattle.std.proofs.Common.{rules, ◌≡◌, ℕ, Bool, true, false, ◌&&◌, refl, ◌∙◌, get_or}
use Rattle.std.proofs.Math.Bool.{and-false}
use Rattle.std.specs.List.{list_all, range_with_len}
use Rattle.std.proofs.lemmas.Iterator.{YieldsList-from_range}
use Rattle.std.proofs.lemmas.Iterator.Search.{all_from_yields_List}
use Rattle.spec.specs.Flags.{row_ok, flags_ok}
use Rattle.setup.proofs.flags_ok.Goals as goal

turned : (a b c d e f g h : Bool) → (a && (b && (c && (d && (e && (f && (g && (h && true)))))))) ≡ (h && (g && (f && (e && (d && (c && (b && (a && true))))))))
turned false b c d e f g h = simp and-false
turned true false c d e f g h = simp and-false
turned true true false d e f g h = simp and-false
turned true true true false e f g h = simp and-false
turned true true true true false f g h = simp and-false
turned true true true true true false g h = simp and-false
turned true true true true true true false h = simp and-false
turned true true true true true true true h = refl

pub returns : goal.returns
unfolding flags_ok
returns c =
    let t = λ (row : ℕ). row_ok row (get_or c.args.flags row 0) in
    let h : c.all.result ≡ list_all t (range_with_len 0 8) = all_from_yields_List t _ _ _ c.all.ensures.ran (YieldsList-from_range 0 8 8 refl refl) (λ x b q k. search rules) in
    h ∙ turned (t 0) (t 1) (t 2) (t 3) (t 4) (t 5) (t 6) (t 7)
