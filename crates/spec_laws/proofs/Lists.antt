-- Lists: what holds of each element, and bytes put over a list.
use Prim.Native.Nat.{ℕ, zero, suc, ◌+◌, ◌-◌, ◌≤◌, ◌<◌}
use native.Mathlib.Omega.{arith}
use native.Mathlib.Nat.{add-zero, add_assoc, not-suc-le-zero, le_of_suc-le-suc}
use native.Mathlib.Numerals.{add-one}
use mathlib.Core.Path.{◌≡◌, refl, sym, ap, ◌∙◌}
use mathlib.Core.List.{List, [], ◌∷◌, ◌++◌, append_assoc, append-nil}
use lib.Dec.{ltb}
use lib.ListN.{length, get_or, set, take, drop, length-append, length-take, length-drop, take-append-drop, get_or-append, replicate}
use lib.Seq.{sets, sets-eq, length-take-le, take_at, drop_at, drop-drop, get_or-append-add, get_or-take, get_or-drop, set_split}
use borrow.Author.Tests.{ltb-true, ltb-false}
use borrow.Rule.Slice.PartMut.{put_mid}
use Rattle.spec.specs.Frames.{put}
use Rattle.spec.proofs.Bools.{split}

-- a < b or b ≤ a
pub by_order : {P : Type 0} (a b : ℕ) → (a < b → P) → (b ≤ a → P) → P
by_order a b f g = split (ltb a b) (λ e. f (ltb-true a b e)) (λ e. g (ltb-false a b e))

-- each element of a list
abbrev pub Each : {A : Type 0} → (A → Type 0) → List A → Type 0
Each P [] = Unit {0}
Each P (x ∷ xs) = P x × Each P xs

pub each_map : {A : Type 0} (P Q : A → Type 0) → ((x : A) → P x → Q x) → (xs : List A) → Each P xs → Each Q xs
each_map P Q f [] h = tt
each_map P Q f (x ∷ xs) h = (f x h.0, each_map P Q f xs h.1)

pub each_append : {A : Type 0} (P : A → Type 0) (xs ys : List A) → Each P xs → Each P ys → Each P (xs ++ ys)
each_append P [] ys h k = k
each_append P (x ∷ xs) ys h k = (h.0, each_append P xs ys h.1 k)

pub each_at : {A : Type 0} (P : A → Type 0) (d : A) (xs : List A) → Each P xs → (i : ℕ) → i < length xs → P (get_or xs i d)
each_at P d [] e i h = absurd (not-suc-le-zero h)
each_at P d (x ∷ xs) e zero h = e.0
each_at P d (x ∷ xs) e (suc i) h = each_at P d xs e.1 i (le_of_suc-le-suc h)

pub each_same : {A : Type 0} (P : A → Type 0) (x : A) → P x → (k : ℕ) → Each P (replicate k x)
each_same P x e zero = tt
each_same P x e (suc k) = (e, each_same P x e k)

-- a list of one element has it at each place, and is read as it past its end
pub get_or-same : {A : Type 0} (n k : ℕ) (d : A) → get_or (replicate n d) k d ≡ d
get_or-same zero k d = refl
get_or-same (suc n) zero d = refl
get_or-same (suc n) (suc k) d = get_or-same n k d

-- ---- what put is

pub put-sets : (d s : List ℕ) (at : ℕ) → at + length s ≤ length d → put d at s ≡ sets d at s
put-sets d s at h = sym (sets-eq s d at h)

pub put-nil : (d : List ℕ) (at : ℕ) → put d at [] ≡ d
put-nil d at = rw (add-zero at, append-nil (take at d)) (take-append-drop at d)

pub put_one : (d : List ℕ) (at b : ℕ) → at < length d → put d at (b ∷ []) ≡ set d at b
put_one d at b h = rw (add-one at, append_assoc (take at d) (b ∷ [])) (sym (set_split d at b h))

head-length : (d s : List ℕ) (at : ℕ) → at ≤ length d → length (take at d ++ s) ≡ at + length s
head-length d s at h = length-append (take at d) s ∙ ap (λ (k : ℕ). k + length s) (length-take-le at d h)

-- bytes put right behind bytes are one put
pub put-append : (d s t : List ℕ) (at : ℕ) → at ≤ length d → put d at (s ++ t) ≡ put (put d at s) (at + length s) t
put-append d s t at h =
    let x : List ℕ = take at d ++ s in
    let y : List ℕ = drop (at + length s) d in
    let e : length x ≡ at + length s = head-length d s at h in
    sym (rw (
      take_at x y (at + length s) e,
      ← drop-drop (length t) (at + length s) (x ++ y),
      drop_at x y (at + length s) e,
      drop-drop (length t) (at + length s) d,
      length-append s t,
      ← add_assoc at (length s) (length t),
      append_assoc (take at d) s t,
    ) refl)

-- what was put is found again
pub put_back : (d s : List ℕ) (at : ℕ) → at ≤ length d → take (length s) (drop at (put d at s)) ≡ s
put_back d s at h =
    let y : List ℕ = drop (at + length s) d in
    rw (append_assoc (take at d) s y, drop_at (take at d) (s ++ y) at (length-take-le at d h)) (take_at s y (length s) refl)

-- the form that a lent part of a slice leaves
pub put-part : (d s : List ℕ) (at k : ℕ) → length s ≡ k → put_mid at k d s ≡ put d at s
put-part d s at k e = rw (drop-drop, e) (sym (append_assoc (take at d) s (drop (at + k) d)))

-- ---- its length and its elements

pub length-put : (d s : List ℕ) (at : ℕ) → at + length s ≤ length d → length (put d at s) ≡ length d
length-put d s at h = simp (length-append, length-take, length-drop) (omega arith)

get_d_beyond : (xs ys : List ℕ) (k : ℕ) → length xs ≤ k → get_or (xs ++ ys) k 0 ≡ get_or ys (k - length xs) 0
get_d_beyond xs ys k h = let e : k ≡ length xs + (k - length xs) = omega arith in ap (λ (n : ℕ). get_or (xs ++ ys) n 0) e ∙ get_or-append-add xs ys (k - length xs) 0

put-before : (d s : List ℕ) (at k : ℕ) → at ≤ length d → k < at → get_or (put d at s) k 0 ≡ get_or d k 0
put-before d s at k h l =
    let e : length (take at d) ≡ at = length-take-le at d h in
    let f : length (take at d ++ s) ≡ at + length s = head-length d s at h in
    get_or-append (take at d ++ s) (drop (at + length s) d) 0 k (omega arith)
    ∙ get_or-append (take at d) s 0 k (omega arith) ∙ get_or-take at d k 0 l

pub put_in : (d s : List ℕ) (at k : ℕ) → at ≤ length d → at ≤ k → k < at + length s → get_or (put d at s) k 0 ≡ get_or s (k - at) 0
put_in d s at k h l u =
    let e : length (take at d) ≡ at = length-take-le at d h in
    let f : length (take at d ++ s) ≡ at + length s = head-length d s at h in
    get_or-append (take at d ++ s) (drop (at + length s) d) 0 k (omega arith)
    ∙ get_d_beyond (take at d) s k (omega arith) ∙ ap (λ (i : ℕ). get_or s (k - i) 0) e

put-after : (d s : List ℕ) (at k : ℕ) → at ≤ length d → at + length s ≤ k → get_or (put d at s) k 0 ≡ get_or d k 0
put-after d s at k h l =
    let f : length (take at d ++ s) ≡ at + length s = head-length d s at h in
    let e : at + length s + (k - length (take at d ++ s)) ≡ k = omega arith in
    get_d_beyond (take at d ++ s) (drop (at + length s) d) k (omega arith)
    ∙ get_or-drop (at + length s) d (k - length (take at d ++ s)) 0 ∙ ap (λ (i : ℕ). get_or d i 0) e

pub put-outside : (d s : List ℕ) (at k : ℕ) → at ≤ length d → (at ≤ k → k < at + length s → ⊥) → get_or (put d at s) k 0 ≡ get_or d k 0
put-outside d s at k h out = by_order k at (λ l. put-before d s at k h l) (λ l. by_order k (at + length s) (λ u. absurd (out l u)) (λ u. put-after d s at k h u))
