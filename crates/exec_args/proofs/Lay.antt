-- Strings and pointers laid one behind the other into a buffer.
use Prim.Native.Nat.{ℕ, ◌+◌, ◌*◌, ◌-◌, ◌≤◌, ◌<◌}
use native.Mathlib.Omega.{arith}
use mathlib.Core.Path.{◌≡◌, sym, ap, ◌∙◌}
use mathlib.Core.List.{List, [], ◌∷◌, ◌++◌}
use lib.ListN.{length, get_or, set, take, drop, length-append, drop_of_length-le}
use lib.Seq.{append_snoc, length-take-le}
use borrow.Rule.Slice.PartMut.{put_mid}
use Rattle.spec.specs.Numbers.{le_bytes}
use Rattle.spec.specs.Frames.{put}
use Rattle.spec.specs.Exec.{args_of, strings}
use Rattle.spec_laws.proofs.Lists.{put-nil, put_one, put-append, put-part, length-put}
use Rattle.exec_args.specs.Sizes.{pointers_by}
use Rattle.spec.proofs.Lists.{drop-next}

-- ---- strings

-- a string in a lent part, then its NUL
pub put-string : (d s x : List ℕ) (at : ℕ) → at + length s < length d → x ≡ s → set (put_mid at (at + length s - at) d x) (at + length s) 0 ≡ put d at (s ++ 0 ∷ [])
put-string d s x at h e =
    let k : length x ≡ at + length s - at = ap length e ∙ (let z : length s ≡ at + length s - at = omega arith in z) in
    ap (λ (y : List ℕ). set y (at + length s) 0) (put-part d x at (at + length s - at) k ∙ ap (put d at) e)
    ∙ sym (put-append d s (0 ∷ []) at (omega arith) ∙ put_one (put d at s) (at + length s) 0 (rw (length-put d s at (omega arith)) h))

-- the next string, and the rest behind it
pub strings-turn : (rest lengths d : List ℕ) (at i : ℕ) → i < length lengths → get_or lengths i 0 ≤ length rest → at ≤ length d
    → put d at (strings (args_of rest (drop i lengths)))
    ≡ put (put d at (take (get_or lengths i 0) rest ++ 0 ∷ [])) (at + (get_or lengths i 0 + 1)) (strings (args_of (drop (get_or lengths i 0) rest) (drop (i + 1) lengths)))
strings-turn rest lengths d at i h l m =
    let n : ℕ = get_or lengths i 0 in
    let s : List ℕ = take n rest in
    let ls : length s ≡ n = length-take-le n rest l in
    let la = length-append s (0 ∷ []) in
    let e : at + length (s ++ 0 ∷ []) ≡ at + (n + 1) = omega arith in
    rw (← e, drop-next lengths i 0 h, ← append_snoc s 0 (strings (args_of (drop n rest) (drop (i + 1) lengths))))
    (put-append d (s ++ 0 ∷ []) (strings (args_of (drop n rest) (drop (i + 1) lengths))) at m)

pub strings-end : (bytes lengths d : List ℕ) (at i : ℕ) → length lengths ≤ i → put d at (strings (args_of bytes (drop i lengths))) ≡ d
strings-end bytes lengths d at i h = rw (drop_of_length-le lengths h) (put-nil d at)

-- ---- pointers

-- the next pointer, and the rest behind it
pub pointers-turn : (lengths d : List ℕ) (s i : ℕ) → i < length lengths → 8 * i ≤ length d
    → put d (8 * i) (pointers_by s (drop i lengths)) ≡ put (put d (8 * i) (le_bytes 8 s)) (8 * (i + 1)) (pointers_by (s + (get_or lengths i 0 + 1)) (drop (i + 1) lengths))
pointers-turn lengths d s i h m =
    let e : 8 * (i + 1) ≡ 8 * i + 8 = omega arith in
    let k : s + (get_or lengths i 0 + 1) ≡ s + get_or lengths i 0 + 1 = omega arith in
    rw (e, k, drop-next lengths i 0 h) (put-append d (le_bytes 8 s) (pointers_by (s + get_or lengths i 0 + 1) (drop (i + 1) lengths)) (8 * i) m)

pub pointers-end : (lengths d : List ℕ) (s at i : ℕ) → length lengths ≤ i → put d at (pointers_by s (drop i lengths)) ≡ put d at (le_bytes 8 0)
pointers-end lengths d s at i h = rw (drop_of_length-le lengths h)
