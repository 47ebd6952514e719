-- A loop that shares pages, frame after frame.
use Prim.Native.Nat.{ℕ, ◌+◌, ◌≤◌, ◌<◌}
use native.Mathlib.Omega.{arith}
use mathlib.Core.Path.{◌≡◌, ap, ◌∙◌}
use mathlib.Core.List.{List}
use Rattle.spec.specs.Tests.{◌isnt◌}
use Rattle.spec.specs.Book.{perm_of, frame_count, holders}
use Rattle.spec.specs.Frames.{sweep, join, share, store}
use Rattle.spec_laws.proofs.Share.{word_for}
use Rattle.spec_laws.proofs.Sweep.{later-count}

-- the frames before i are those after the sharing
abbrev pub shared : ℕ → ℕ → List ℕ → ℕ → List ℕ
shared n child book i = sweep (join n child) book i

pub share-all : (n child : ℕ) (book now : List ℕ) (i : ℕ) → now ≡ shared n child book i → i ≡ frame_count book → (frames : List ℕ) → store frames now ≡ share (store frames book) n child
unfolding share
share-all n child book now i e h frames = ap (store frames) (e ∙ ap (shared n child book) h)

-- a frame that is not reached yet has its holders
pub share-later : (n child : ℕ) → 1 ≤ n → n ≤ 16 → 1 ≤ child → child ≤ 16 → (book now : List ℕ) (i : ℕ) → now ≡ shared n child book i → i < frame_count book → holders now i ≡ holders book i
share-later n child a b c d book now i e l =
    ap (λ (x : List ℕ). holders x i) e ∙ later-count n child (λ w. perm_of w isnt 3) (word_for child) (λ k. k + 1) a b c d book i i (omega arith) l
