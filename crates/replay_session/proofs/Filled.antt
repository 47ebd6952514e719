-- The list that numbers give, filled a segment at a time.
-- Assumes nothing.
use mathlib.Core.Path.{◌≡◌, refl, sym, ap, ◌∙◌}
use mathlib.Core.List.{List, [], ◌∷◌, ◌++◌, append_assoc, append-nil}
use Prim.Native.Nat.{ℕ, ◌+◌, ◌*◌, ◌<◌}
use native.Mathlib.Omega.{arith}
use lib.ListN.{length, get_or, set, take, drop, length-drop}
use Rattle.spec.specs.declared.UserSegment.{UserSegment}
use Rattle.spec.proofs.Lists.{drop-next, take-set}
use Rattle.replay_session.specs.Triples.{list_of, segment_at}

-- fewer than three numbers are no segment
none : (ns : List ℕ) → length ns < 3 → list_of ns ≡ []
none [] h = refl
none (a ∷ []) h = refl
none (a ∷ b ∷ []) h = refl
none (a ∷ b ∷ p ∷ ns) h = absurd (omega arith)

module _ (ns : List ℕ) (i : ℕ) where
  -- the list from place i on, if it has a segment there
  more : 3 * i + 2 < length ns → list_of (drop (3 * i) ns) ≡ segment_at ns i ∷ list_of (drop (3 * (i + 1)) ns)
  more h =
      let t : 3 * i + 1 + 1 ≡ 3 * i + 2 = omega arith in
      let e : 3 * (i + 1) ≡ 3 * i + 2 + 1 = omega arith in
      ap list_of (drop-next ns (3 * i) 0 (omega arith) ∙ ap (λ (l : List ℕ). get_or ns (3 * i) 0 ∷ l) (drop-next ns (3 * i + 1) 0 (omega arith)
      ∙ ap (λ (l : List ℕ). get_or ns (3 * i + 1) 0 ∷ l) (ap (λ (k : ℕ). drop k ns) t ∙ drop-next ns (3 * i + 2) 0 h ∙ ap (λ (k : ℕ). get_or ns (3 * i + 2) 0 ∷ drop k ns) (sym e))))

  -- segment i is set behind those before it
  pub filled : (l : List UserSegment) (g : UserSegment) → 3 * i + 2 < length ns → i < length l → g ≡ segment_at ns i → take i l ++ list_of (drop (3 * i) ns) ≡ list_of ns
      → take (i + 1) (set l i g) ++ list_of (drop (3 * (i + 1)) ns) ≡ list_of ns
  filled l g h k e q =
      ap (λ (t : List UserSegment). t ++ list_of (drop (3 * (i + 1)) ns)) (take-set l i g k) ∙ append_assoc (take i l) (g ∷ []) (list_of (drop (3 * (i + 1)) ns))
      ∙ ap (λ (t : List UserSegment). take i l ++ t) (ap (λ (x : UserSegment). x ∷ list_of (drop (3 * (i + 1)) ns)) e ∙ sym (more h)) ∙ q

  -- with no segment behind them they are the list
  pub whole : (gs : List UserSegment) → length ns < 3 * i + 3 → gs ++ list_of (drop (3 * i) ns) ≡ list_of ns → gs ≡ list_of ns
  whole gs h q = sym (append-nil gs) ∙ ap (λ (t : List UserSegment). gs ++ t) (sym (none (drop (3 * i) ns) (omega (arith, length-drop (3 * i) ns)))) ∙ q
