-- The places of a record before the first unused one.
use Rattle.std.proofs.Common.{◌≡◌, ℕ, ◌<◌, List, [], ◌∷◌, length, take, Option, true, false, refl, sym, ap, arith}
use Rattle.std.specs.Option.{MatchOption, unwrap_or}
use Rattle.std.specs.List.{AllWithin, HoldsAt}
use Rattle.std.proofs.lemmas.Iterator.{index_from_first}
use Rattle.spec.specs.Book.{unused, used}
use Rattle.spec.specs.declared.UserSegment.{UserSegment}
use Rattle.spec.proofs.Bools.{split}

used-take : (gs : List UserSegment) → used gs ≡ take (length (used gs)) gs
used-take [] = refl
used-take (g ∷ gs) = split (unused g) (λ q. rw q refl) (λ q. rw q (ap (λ (x : List UserSegment). g ∷ x) (used-take gs)))

-- what stands before the first unused place is what a record holds
pub before-first : (gs : List UserSegment) (r : Option ℕ) (n : ℕ)
    → MatchOption r (AllWithin (λ g. unused g ≡ false) gs 0 (length gs)) (λ i. (i < length gs) × HoldsAt (λ g. unused g ≡ true) gs i × AllWithin (λ g. unused g ≡ false) gs 0 i)
    → n ≡ unwrap_or r (length gs) → take n gs ≡ used gs
before-first gs r n h z =
    let e = index_from_first (λ (hs : List UserSegment). length (used hs)) (λ g. unused g ≡ true) (λ g. unused g ≡ false) refl (λ g hs q. rw q refl) (λ g hs q. rw q (omega arith)) gs r h in
    rw z (sym (rw e at (used-take gs)))
