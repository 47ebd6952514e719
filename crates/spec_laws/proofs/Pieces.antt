-- Pieces of memory: whole pages, no two of them with an address in common; the permission that they give an address.
use Prim.Native.Nat.{ℕ, ◌%◌, ◌≤◌, ◌<◌}
use native.Mathlib.Omega.{arith}
use mathlib.Core.Path.{◌≡◌, refl, sym, ap, ap₂, ◌∙◌}
use mathlib.Core.Bool.{Bool, true, false}
use Rattle.std.specs.Prelude.{Option, None, Some}
use mathlib.Core.List.{List, [], ◌∷◌, ◌++◌}
use Rattle.spec.specs.Tests.{within, ◌⇒◌else◌}
use Rattle.spec.specs.Numbers.{page_down}
use Rattle.spec.specs.Book.{in_segment, perm_at}
use Rattle.spec.specs.declared.UserSegment.{UserSegment}
use Rattle.spec.proofs.Bools.{split, clash, within-means, within-test, within-not}
use Rattle.spec_laws.proofs.Lists.{Each}

-- a piece is page-aligned, and the pieces behind it have none of its addresses
pub record Piece (g : UserSegment) (gs : List UserSegment) : Type 0 where
  pub start : g.range.start % 4096 ≡ 0
  pub end : g.range.end % 4096 ≡ 0
  pub apart : (a : ℕ) → in_segment a g ≡ true → perm_at gs a ≡ None

abbrev pub Pieces : List UserSegment → Type 0
Pieces [] = Unit {0}
Pieces (g ∷ gs) = Piece g gs × Pieces gs

-- ---- an address in a segment

pub outside_low : (g : UserSegment) (a : ℕ) → a < g.range.start → in_segment a g ≡ false
outside_low g a l = within-not g.range.start g.range.end a (λ x y. omega arith)

pub outside_high : (g : UserSegment) (a : ℕ) → g.range.end ≤ a → in_segment a g ≡ false
outside_high g a l = within-not g.range.start g.range.end a (λ x y. omega arith)

-- ---- the permission at an address

-- the first piece that holds an address gives its permission
pub perm-here : (g : UserSegment) (gs : List UserSegment) (a : ℕ) → in_segment a g ≡ true → perm_at (g ∷ gs) a ≡ Some g.perm
perm-here g gs a i = rw i

pub perm-there : (g : UserSegment) (gs : List UserSegment) (a : ℕ) → in_segment a g ≡ false → perm_at (g ∷ gs) a ≡ perm_at gs a
perm-there g gs a i = rw i

-- what follows an address that no piece before gives
pub perm-past : (gs hs : List UserSegment) (a : ℕ) → perm_at gs a ≡ None → perm_at (gs ++ hs) a ≡ perm_at hs a
perm-past [] hs a e = refl
perm-past (g ∷ gs) hs a e =
    split (in_segment a g)
    (λ i. let w : Some g.perm ≡ None = rw i at e in absurd (let z : ◌≡◌ {A = ℕ} 0 1 = cc in omega arith))
    (λ i. rw i (perm-past gs hs a (rw i at e)))

-- another tail that gives an address the same
pub tail-same : (gs hs ks : List UserSegment) (a : ℕ) → perm_at hs a ≡ perm_at ks a → perm_at (gs ++ hs) a ≡ perm_at (gs ++ ks) a
tail-same [] hs ks a e = e
tail-same (g ∷ gs) hs ks a e = ap (λ (r : Option ℕ). in_segment a g ⇒ Some g.perm else r) (tail-same gs hs ks a e)

-- one permission, or else another
abbrev pub or_perm : Option ℕ → Option ℕ → Option ℕ
or_perm None q = q
or_perm (Some p) q = Some p

-- aligned pieces give an address what they give its page
pub within-page : (low high a : ℕ) → low % 4096 ≡ 0 → high % 4096 ≡ 0 → within low high (page_down a) ≡ within low high a
within-page low high a l h =
    split (within low high a)
    (λ q. let r = within-means low high a q in within-test low high (page_down a) (omega arith) (omega arith) ∙ sym q)
    (λ q. within-not low high (page_down a) (λ x y. clash (within low high a) (within-test low high a (omega arith) (omega arith)) q) ∙ sym q)

pub perm-page : (gs : List UserSegment) (a : ℕ) → Pieces gs → perm_at gs (page_down a) ≡ perm_at gs a
perm-page [] a p = refl
perm-page (g ∷ gs) a p = ap₂ (λ (b : Bool) (o : Option ℕ). b ⇒ Some g.perm else o) (within-page g.range.start g.range.end a p.0.start p.0.end) (perm-page gs a p.1)

-- an address of a later piece is of no earlier one
pub perm-tail : (g : UserSegment) (gs : List UserSegment) (a q : ℕ) → Piece g gs → perm_at gs a ≡ Some q → perm_at (g ∷ gs) a ≡ Some q
perm-tail g gs a q p e = split (in_segment a g) (λ s. let n = p.apart a s in absurd (let z : ◌≡◌ {A = ℕ} 0 1 = cc in omega arith)) (λ s. rw s e)

-- ---- what holds of all pieces holds of what they give an address

pub perm-between : (low high : ℕ) (gs : List UserSegment) → Each (λ g. (low ≤ g.range.start) × (g.range.end ≤ high)) gs → (a q : ℕ) → perm_at gs a ≡ Some q → (low ≤ a) × (a < high)
perm-between low high [] h a q e = absurd (let z : ◌≡◌ {A = ℕ} 0 1 = cc in omega arith)
perm-between low high (g ∷ gs) h a q e =
    split (in_segment a g)
    (λ i. let w = within-means g.range.start g.range.end a i in (omega (arith, h.0.0, w.0), omega (arith, h.0.1, w.1)))
    (λ i. perm-between low high gs h.1 a q (rw i at e))

pub perm-each : (P : ℕ → Type 0) (gs : List UserSegment) → Each (λ g. P g.perm) gs → (a q : ℕ) → perm_at gs a ≡ Some q → P q
perm-each P [] h a q e = absurd (let z : ◌≡◌ {A = ℕ} 0 1 = cc in omega arith)
perm-each P (g ∷ gs) h a q e =
    split (in_segment a g)
    (λ i. let w : Some g.perm ≡ Some q = rw i at e in let same : g.perm ≡ q = cc in rw (← same) h.0)
    (λ i. perm-each P gs h.1 a q (rw i at e))
