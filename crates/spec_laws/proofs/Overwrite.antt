-- Loops that overwrite a list from the front: it has become s so far, and is d beyond.
use Prim.Native.Nat.{ℕ, ◌+◌, ◌-◌, ◌≤◌}
use native.Mathlib.Omega.{arith}
use mathlib.Core.Path.{◌≡◌, refl, sym}
use mathlib.Core.List.{List, ◌++◌, append_assoc, append-nil}
use lib.ListN.{length, take, drop, drop_of_length-le}
use lib.Seq.{length-take-le, take_all, take_at, drop_at, drop-drop, take-add}
use borrow.Rule.Slice.PartMut.{put_mid}

unfoldable pub mix : List ℕ → List ℕ → ℕ → List ℕ
mix s d i = take i s ++ drop i d

-- nothing yet
pub mix-none : (s d : List ℕ) → d ≡ mix s d 0
unfolding mix
mix-none s d = refl

-- all of it
pub mix_all : (s d : List ℕ) (i : ℕ) → length s ≤ i → length d ≤ i → mix s d i ≡ s
unfolding mix
mix_all s d i hs hd = rw (take_all, drop_of_length-le d hd) (append-nil s)

-- ---- a lent part that becomes the next elements of s

pub mix-part : (s d x : List ℕ) (i n : ℕ) → length s ≡ length d → i + n ≤ length d → x ≡ take n (drop i s) → put_mid i (i + n - i) (mix s d i) x ≡ mix s d (i + n)
unfolding mix
mix-part s d x i n l h e =
    let ls : length (take i s) ≡ i = length-take-le i s (omega arith) in
    let k : i + n - i ≡ n = omega arith in
    rw (e, k, take_at (take i s) (drop i d) i ls, drop_at (take i s) (drop i d) i ls, drop-drop n i d, take-add i n s) (sym (append_assoc (take i s) (take n (drop i s)) (drop (i + n) d)))
