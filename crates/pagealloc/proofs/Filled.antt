-- Frames filled: what lent parts leave.
use Prim.Native.Nat.{ℕ, ◌+◌, ◌-◌, ◌≤◌}
use native.Mathlib.Omega.{arith}
use mathlib.Core.Path.{◌≡◌, ap, ◌∙◌}
use mathlib.Core.List.{List}
use lib.ListN.{length, take, drop, replicate, length-replicate, length-drop}
use lib.Seq.{length-take-le}
use borrow.Rule.Slice.PartMut.{put_mid, mid_of, mid_len}
use Rattle.spec.specs.Frames.{put}
use Rattle.spec_laws.proofs.Lists.{put-part, length-put}
use Rattle.pagealloc.specs.declared.pages.Part.{Part}
use Rattle.pagealloc.specs.Contents.{cleared}

-- ---- zeros

-- a lent part that becomes zeros
zeros-part : (d x : List ℕ) (a e n : ℕ) → e ≤ length d → e - a ≡ n → x ≡ replicate (length (mid_of a (e - a) d)) 0 → x ≡ replicate n 0
zeros-part d x a e n h k z = z ∙ ap (λ (i : ℕ). replicate i 0) (mid_len a e d h ∙ k)

pub put-zeros : (d x : List ℕ) (a e n : ℕ) → e ≤ length d → e - a ≡ n → x ≡ replicate (length (mid_of a (e - a) d)) 0 → put_mid a (e - a) d x ≡ put d a (replicate n 0)
put-zeros d x a e n h k z =
    let q = zeros-part d x a e n h k z in
    rw (q, k) (put-part d (replicate n 0) a n (length-replicate n 0))

-- what lies before and after a part
pub put-cleared : (d x y : List ℕ) (base : ℕ) (part : Part) → base + 4096 ≤ length d → part.from ≤ part.to → part.to ≤ 4096
    → x ≡ replicate (length (mid_of base (base + part.from - base) d)) 0
    → y ≡ replicate (length (mid_of (base + part.to) (base + 4096 - (base + part.to)) (put_mid base (base + part.from - base) d x))) 0
    → put_mid (base + part.to) (base + 4096 - (base + part.to)) (put_mid base (base + part.from - base) d x) y ≡ cleared d base part
put-cleared d x y base part hd lo hi ex ey =
    let z : List ℕ = replicate part.from 0 in
    let first : put_mid base (base + part.from - base) d x ≡ put d base z = put-zeros d x base (base + part.from) part.from (omega arith) (omega arith) ex in
    let l : length (put d base z) ≡ length d = length-put d z base (omega (arith, length-replicate {A = ℕ} part.from 0)) in
    let room : base + 4096 ≤ length (put_mid base (base + part.from - base) d x) = rw (first, l) hd in
    put-zeros (put_mid base (base + part.from - base) d x) y (base + part.to) (base + 4096) (4096 - part.to) room (omega arith) ey
    ∙ ap (λ (f : List ℕ). put f (base + part.to) (replicate (4096 - part.to) 0)) first

-- ---- one frame copied into another

-- by way of a page that becomes the one, and that the other becomes
pub put-copied : (d page x : List ℕ) (from to : ℕ) → page ≡ mid_of from (from + 4096 - from) d → x ≡ page → from + 4096 ≤ length d → to + 4096 ≤ length d → put_mid to (to + 4096 - to) d x ≡ put d to (take 4096 (drop from d))
put-copied d page x from to ep ex hf ht =
    let kf : from + 4096 - from ≡ 4096 = omega arith in
    let kt : to + 4096 - to ≡ 4096 = omega arith in
    let whole : x ≡ take 4096 (drop from d) = ex ∙ ep ∙ ap (λ (n : ℕ). take n (drop from d)) kf in
    rw (whole, kt) (put-part d (take 4096 (drop from d)) to 4096 (length-take-le 4096 (drop from d) (omega (arith, length-drop from d))))
