-- A walk over a list from place to place, for tests that go by recursion on the list.
use Prim.Native.Nat.{ℕ, ◌+◌, ◌<◌, ◌≤◌}
use native.Mathlib.Numerals.{add-one}
use mathlib.Core.Path.{◌≡◌, refl, ap, sym, ◌∙◌}
use mathlib.Core.Bool.{Bool, true, false, not, ◌&&◌}
use mathlib.Core.List.{List, [], ◌∷◌, map}
use Rattle.std.specs.List.{list_all}
use lib.Dec.{leb, ltb}
use lib.ListN.{length, get_or, drop, drop_of_length-le, length-map}
use lib.Seq.{drop-cons}
use borrow.Author.Tests.{leb-true, leb-false, le-ltb, lt-ltb}
use Rattle.spec.specs.Tests.{all}
use Rattle.spec.specs.Book.{same_segment, zero_segment, unused, stack}
use Rattle.spec.specs.Sound.{bss_ok}
use Rattle.spec.specs.declared.VirtRange.{VirtRange}
use Rattle.spec.specs.declared.UserSegment.{UserSegment}
use Rattle.spec.proofs.Bools.{split}
use Rattle.spec.specs.declared.Setup.{Setup}
use Rattle.sound_records.specs.Records.{image_test, shaped}

-- the code's `a <= b` is the specification's `not (b below a)`
pub at_most : (a b : ℕ) → leb a b ≡ not (ltb b a)
at_most a b = split (leb a b)
    (λ q. rw (q, le-ltb b a (leb-true a b q)) refl)
    (λ q. rw (q, lt-ltb b a (leb-false a b q)) refl)

-- the specification's test of each element is that of a chain of iterators
pub all-list : {A : Type 0} (t : A → Bool) (l : List A) → all t l ≡ list_all t l
all-list t [] = refl
all-list t (x ∷ l) = ap (λ (b : Bool). t x && b) (all-list t l)

module _ (setup : Setup) where
  module _ (low : ℕ) (bss : VirtRange) (l : List UserSegment) (i : ℕ) (h : i < length l) where
    pub shaped-stack : same_segment (get_or l i zero_segment) (stack setup) ≡ true → shaped setup low bss (drop i l) ≡ (all unused (drop (i + 1) l) && bss_ok setup low bss)
    shaped-stack e = rw (add-one, drop-cons l i zero_segment h, e)

    pub shaped-stop : same_segment (get_or l i zero_segment) (stack setup) ≡ false → image_test setup low (get_or l i zero_segment) ≡ false → shaped setup low bss (drop i l) ≡ false
    shaped-stop e f = rw (drop-cons l i zero_segment h, e, f)

    pub shaped-go : same_segment (get_or l i zero_segment) (stack setup) ≡ false → image_test setup low (get_or l i zero_segment) ≡ true
        → shaped setup low bss (drop i l) ≡ shaped setup (get_or l i zero_segment).range.end bss (drop (i + 1) l)
    shaped-go e f = rw (add-one, drop-cons l i zero_segment h, e, f)

  pub shaped-end : (low : ℕ) (bss : VirtRange) (l : List UserSegment) (i : ℕ) → length l ≤ i → shaped setup low bss (drop i l) ≡ false
  shaped-end low bss l i h = rw (drop_of_length-le l h)

-- the length of an array of structs, from what owning it tells
pub length-mapped : (X Y : Type 0) (f : X → Y) (l : List X) (n : ℕ) → length (map f l) ≡ n → length l ≡ n
length-mapped X Y f l n p = sym (length-map l f) ∙ p
