-- An a.out that passes its checks, and the segments that it describes.
use Prim.Native.Nat.{ℕ, ◌+◌, ◌%◌, ◌≤◌}
use native.Mathlib.Omega.{arith}
use mathlib.Core.Path.{◌≡◌, refl, ap}
use mathlib.Core.Bool.{Bool, not, ◌||◌}
use mathlib.Core.List.{List, [], ◌∷◌}
use lib.ListN.{length, drop, length-take, length-drop}
use borrow.Author.Tests.{eqb-false, ltb-false}
use Rattle.spec.proofs.Bools.{split, neither}
use Rattle.spec.specs.Tests.{◌is◌, ◌isnt◌, ◌below◌, ◌above◌, within}
use Rattle.spec.specs.Aout.{magic, data_size, bss_size, entry, text_end, aout_error, text_segment, data_segment, aout_program}
use Rattle.spec.specs.declared.Setup.{Setup}
use Rattle.spec_laws.proofs.Checks.{passes, failed}
use Rattle.spec_laws.proofs.Loads.{AllLoad, not-zero}

-- the checks 42, 43, 19 and 27, as a list
abbrev tests : Setup → ℕ → List ℕ → List (Bool × ℕ)
tests setup expected image =
    (length image below 32 || magic image isnt expected, 42)
    ∷ (text_end image + data_size image above length image, 43)
    ∷ (entry image % 4 isnt 0, 19)
    ∷ (not (within (setup.utzero + 32) (setup.utzero + text_end image) (entry image)), 27)
    ∷ []

-- what they say of an image that passes
pub record Complete (image : List ℕ) : Type 0 where
  pub head : 32 ≤ length image
  pub inside : text_end image + data_size image ≤ length image

pub aout-means : (setup : Setup) (expected : ℕ) (image : List ℕ) → aout_error setup expected image ≡ 0 → Complete image
unfolding aout_error
aout-means setup expected image e =
    let no = failed (tests setup expected image) (passes (tests setup expected image) 0 refl e).0 in
    let head = neither (length image below 32) (magic image isnt expected) (no 0 (omega arith)) in
    record { head = ltb-false _ _ head.0; inside = ltb-false _ _ (no 1 (omega arith)) }

-- header and text, and data, have all the file bytes that the header names
pub text-length : (setup : Setup) (image : List ℕ) → Complete image → length (text_segment setup image).file ≡ text_end image
text-length setup image h = omega (arith, length-take (text_end image) image, h.inside)

pub data-length : (setup : Setup) (image : List ℕ) → Complete image → length (data_segment setup image).file ≡ data_size image
data-length setup image h = omega (arith, length-take (data_size image) (drop (text_end image) image), length-drop (text_end image) image, h.inside)

-- its segments load in order
pub aout-loads : (setup : Setup) (image : List ℕ) → Complete image → AllLoad 0 (aout_program setup image).segments
aout-loads setup image h = (
  record { file = omega (arith, text-length setup image h); some_byte = omega arith; perm = (omega arith, omega arith); ordered = omega arith },
  split (data_size image + bss_size image is 0)
      (λ q. rw q tt)
      (λ q. rw q (record { file = omega (arith, data-length setup image h); some_byte = not-zero (data_size image + bss_size image) (eqb-false _ _ q); perm = (omega arith, omega arith); ordered = omega arith }, tt)),
)

-- and there is one
pub aout-some : (setup : Setup) (image : List ℕ) → (aout_program setup image).segments ≡ [] → ⊥
aout-some setup image n = let l = ap length n in omega (arith, l)
