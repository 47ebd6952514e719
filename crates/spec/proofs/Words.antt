-- Book words: what a word is taken apart into is what it was packed from.
use Prim.Native.Nat.{ℕ, ◌%◌, ◌≤◌, ◌<◌}
use native.Mathlib.Omega.{arith}
use mathlib.Core.Path.{◌≡◌}
use Rattle.spec.specs.Book.{word_of, page_of, owner_of, perm_of}

-- the one lemma for unpacking
pub unpack : (page owner perm : ℕ) → page % 4096 ≡ 0 → owner < 256 → perm < 16
    → (page_of (word_of page owner perm) ≡ page) × (owner_of (word_of page owner perm) ≡ owner) × (perm_of (word_of page owner perm) ≡ perm)
unpack page owner perm a o p = omega arith

-- and a word is packed from what it is taken apart into
pub repack : (w : ℕ) → w ≡ word_of (page_of w) (owner_of w) (perm_of w)
repack w = omega arith

-- a word of an owner is not 0
pub used-word : (page owner perm : ℕ) → 1 ≤ owner → word_of page owner perm ≡ 0 → ⊥
used-word page owner perm o e = omega arith
