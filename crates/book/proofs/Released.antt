-- A loop that releases pages, frame after frame.
use Prim.Native.Nat.{ℕ}
use mathlib.Core.Path.{◌≡◌, ap, ◌∙◌}
use mathlib.Core.Bool.{Bool}
use mathlib.Core.List.{List}
use Rattle.spec.specs.Book.{frame_count}
use Rattle.spec.specs.Frames.{sweep, let_go, release, store}

-- the frames before i are those after the release
abbrev pub released : ℕ → (ℕ → Bool) → List ℕ → ℕ → List ℕ
released n t book i = sweep (let_go n t) book i

pub release-all : (n : ℕ) (t : ℕ → Bool) (book now : List ℕ) (i : ℕ) → now ≡ released n t book i → i ≡ frame_count book → (frames : List ℕ) → store frames now ≡ release (store frames book) n t
unfolding release
release-all n t book now i e h frames = ap (store frames) (e ∙ ap (released n t book) h)
