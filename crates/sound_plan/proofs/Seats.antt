-- An owner's segments ascend, unused places at the top, so that a search by halves finds the one that a word is of.
use Prim.Native.Nat.{ℕ, zero, suc, ◌+◌, ◌%◌, ◌<◌, ◌≤◌}
use native.Mathlib.Omega.{arith}
use native.Mathlib.Nat.{not-suc-le-zero, le_of_suc-le-suc}
use mathlib.Core.Path.{◌≡◌, refl, ap, ◌∙◌}
use mathlib.Core.Bool.{true, false, not}
use mathlib.Core.List.{List, [], ◌∷◌}
use lib.Dec.{leb}
use lib.ListN.{length, get_or}
use borrow.Author.Tests.{leb-true, leb-false, ne_eqb}
use Rattle.spec.specs.Tests.{all}
use Rattle.spec.specs.Numbers.{max_top, SetupOk}
use Rattle.spec.specs.Book.{same_segment, zero_segment, unused, lives, stack}
use Rattle.spec.specs.Sound.{bss_ok}
use Rattle.spec.specs.declared.VirtRange.{VirtRange}
use Rattle.spec.specs.declared.UserSegment.{UserSegment}
use Rattle.spec.specs.declared.Proc.{Proc}
use Rattle.spec.proofs.Bools.{split, clash, both, not-true, or-fact}
use Rattle.spec.specs.declared.Setup.{Setup}
use Rattle.spec_laws.proofs.Lists.{by_order}
use Rattle.spec_laws.proofs.Record.{WholeProc, same-is, dead-zero}
use Rattle.spec_laws.proofs.Shape.{bss-means, image-first}
use Rattle.sound_records.specs.Records.{image_test, shaped, passes}
use Rattle.sound_plan.specs.Plan.{seat, hits, later, Ascending, Span, Plan}
use Rattle.sound_plan.proofs.Within.{hit-fact}
use Rattle.sound_plan.proofs.Passing.{perm-means, shaped-means}

-- ---- segments that ascend

pub record Seat (low : ℕ) (g : UserSegment) : Type 0 where
  pub above : low ≤ g.range.start
  pub ordered : g.range.start ≤ g.range.end
  pub some-page : 1 ≤ g.perm → g.range.start < g.range.end

-- seated, each from the end of the one before
abbrev pub Seats : ℕ → List UserSegment → Type 0
Seats low [] = Unit {0}
Seats low (g ∷ gs) = Seat low (seat g) × Seats (seat g).range.end gs

seats-low : (low : ℕ) (gs : List UserSegment) → Seats low gs → (j : ℕ) → j < length gs → low ≤ (seat (get_or gs j zero_segment)).range.start
seats-low low [] s j h = absurd (not-suc-le-zero h)
seats-low low (g ∷ gs) s zero h = s.0.above
seats-low low (g ∷ gs) s (suc j) h = omega (arith, s.0.above, s.0.ordered, seats-low (seat g).range.end gs s.1 j (le_of_suc-le-suc h))

pub seats-at : (low : ℕ) (gs : List UserSegment) → Seats low gs → (i j : ℕ) → i < j → j < length gs
    → ((seat (get_or gs i zero_segment)).range.end ≤ (seat (get_or gs j zero_segment)).range.start) × (1 ≤ (seat (get_or gs i zero_segment)).perm → (seat (get_or gs i zero_segment)).range.start < (seat (get_or gs i zero_segment)).range.end)
seats-at low [] s i j h l = absurd (not-suc-le-zero l)
seats-at low (g ∷ gs) s i zero h l = absurd (not-suc-le-zero h)
seats-at low (g ∷ gs) s zero (suc j) h l = (seats-low (seat g).range.end gs s.1 j (le_of_suc-le-suc l), s.0.some-page)
seats-at low (g ∷ gs) s (suc i) (suc j) h l = seats-at (seat g).range.end gs s.1 i j (le_of_suc-le-suc h) (le_of_suc-le-suc l)

-- unused places
unused-seats : (low : ℕ) (gs : List UserSegment) → low ≤ max_top → all unused gs ≡ true → Seats low gs
unused-seats low [] h e = tt
unused-seats low (g ∷ gs) h e =
    let p = both (unused g) (all unused gs) e in
    rw (same-is g zero_segment p.0) (record { above = h; ordered = omega arith; some-page = λ q. absurd (omega arith) }, unused-seats max_top gs (omega arith) p.1)

-- image segments, the stack and unused places
shaped-seats : (setup : Setup) (ok : SetupOk setup) (low : ℕ) (bss : VirtRange) (gs : List UserSegment) → setup.utzero ≤ low → shaped setup low bss gs ≡ true → Seats low gs
shaped-seats setup ok low bss [] u e = clash false e refl
shaped-seats setup ok low bss (g ∷ gs) u e =
    split (same_segment g (stack setup))
    (λ q.
    let t = both (all unused gs) (bss_ok setup low bss) (rw q at e) in
    let b = bss-means setup low bss t.1 in
    rw (same-is g (stack setup) q) (record { above = omega arith; ordered = omega arith; some-page = λ x. omega arith }, unused-seats setup.ustktop gs (omega arith) t.0))
    (λ q.
    let t = both (image_test setup low g) (shaped setup g.range.end bss gs) (rw q at e) in
    let f = image-first setup low bss g gs u q (shaped-means setup low bss (g ∷ gs) e).0 in
    let p = (perm-means setup low g t.0).1.low f.0.some-page in
    let r = shaped-seats setup ok g.range.end bss gs (omega (arith, f.0.some-page, f.1)) t.1 in
    rw (ne_eqb g.perm 0 (λ z. omega arith)) (record { above = f.1; ordered = omega (arith, f.0.some-page); some-page = λ x. f.0.some-page }, r))

pub pass-seats : (setup : Setup) (ok : SetupOk setup) (p : Proc) → WholeProc p → passes setup p ≡ true → Seats setup.utzero p.segments
pass-seats setup ok p w e =
    split (shaped setup setup.utzero p.bss p.segments)
    (λ q. shaped-seats setup ok setup.utzero p.bss p.segments (omega arith) q)
    (λ q. unused-seats setup.utzero p.segments (omega arith) (rw (dead-zero p w (not-true (lives p) (or-fact (shaped setup setup.utzero p.bss p.segments) (not (lives p)) e q))) refl))

-- ---- the search by halves

pub span-all : (tags : List ℕ) (first w : ℕ) → Span tags first w first 16
span-all tags first w = record { low = omega arith; high = omega arith; at = λ h. absurd (omega arith); past = λ l h m. absurd (omega arith) }

pub span-half : (tags : List ℕ) (first w k s : ℕ) → Ascending tags first → 0 < s → Span tags first w k (s + s) → Span tags first w (later tags k s w) s
span-half tags first w k s up h p =
    split (leb (get_or tags (k + s) 0) w)
    (λ q. rw q (record {
      low = omega (arith, p.low);
      high = omega (arith, p.high);
      at = λ l. leb-true (get_or tags (k + s) 0) w q;
      past = λ l m n. p.past l (omega arith) n;
    }))
    (λ q. rw q (record {
      low = p.low;
      high = omega (arith, p.high);
      at = p.at;
      past = λ l m n. omega (arith, leb-false (get_or tags (k + s) 0) w q, up (k + s) l (omega (arith, p.low)) m n);
    }))

module _ (tags bases : List ℕ) (plan : Plan tags bases) (first : ℕ) (whole : first % 17 ≡ 0) (there : first + 16 ≤ 272) where
  pub ascending : Ascending tags first
  ascending i j h l n = by_order i j (λ m. (plan.ascends i j (omega arith) m (omega arith) (omega arith)).tag_up) (λ m. let e : i ≡ j = omega arith in rw e (omega arith))

  -- what the search finds has the word, if any of them has
  pub span-only : (w k : ℕ) → Span tags first w k 1 → hits tags bases w k ≡ false → (j : ℕ) → first ≤ j → j < first + 16 → hits tags bases w j ≡ false
  span-only w k p out j h l =
      split (hits tags bases w j)
      (λ q.
      let f = hit-fact tags bases w j q in
      by_order j k
      (λ m. let b = plan.ascends j k (omega (arith, p.low, p.high)) m (omega (arith, p.high)) (omega (arith, p.low, p.high)) in
      absurd (omega (arith, f.from, f.whole, f.few, b.end-up, p.at (omega arith))))
      (λ m. by_order k j
      (λ n. absurd (omega (arith, f.from, p.past j (omega arith) l)))
      (λ n. let e : j ≡ k = omega arith in clash (hits tags bases w j) q (ap (hits tags bases w) e ∙ out))))
      (λ q. q)
