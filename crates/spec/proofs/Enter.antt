-- A frame entered in the book: its place and its count are what was entered, and all else stays.
use Prim.Native.Nat.{ℕ, ◌+◌, ◌*◌, ◌-◌, ◌/◌, ◌≤◌, ◌<◌}
use native.Mathlib.Omega.{arith}
use mathlib.Core.Path.{◌≡◌, ap, ◌∙◌}
use mathlib.Core.List.{List}
use lib.ListN.{length, get_or, set, length-set}
use lib.Seq.{get_or-set_same, get_or-set_other}
use Rattle.spec.specs.Book.{frame_count, mapping, holders}
use Rattle.spec.specs.Frames.{enter}

pub enter-length : (book : List ℕ) (k n w c : ℕ) → length (enter book k n w c) ≡ length book
enter-length book k n w c = length-set (set book (17 * k + (n - 1)) w) (17 * k + 16) c ∙ length-set book (17 * k + (n - 1)) w

pub enter-count : (book : List ℕ) (k n w c : ℕ) → frame_count (enter book k n w c) ≡ frame_count book
enter-count book k n w c = ap (λ (l : ℕ). l / 17) (enter-length book k n w c)

-- words of other frames
pub enter-else : (book : List ℕ) (k n w c i : ℕ) → n ≤ 16 → (i / 17 ≡ k → ⊥) → get_or (enter book k n w c) i 0 ≡ get_or book i 0
enter-else book k n w c i hi out =
    get_or-set_other (set book (17 * k + (n - 1)) w) (17 * k + 16) i c 0 (λ z. out (omega arith))
    ∙ get_or-set_other book (17 * k + (n - 1)) i w 0 (λ z. out (omega arith))

module _ (book : List ℕ) (k n w c : ℕ) (low : k < frame_count book) (hi : n ≤ 16) where
  pub holders-here : holders (enter book k n w c) k ≡ c
  holders-here = get_or-set_same (set book (17 * k + (n - 1)) w) (17 * k + 16) c 0 (omega (arith, length-set book (17 * k + (n - 1)) w))

  pub holders-else : (j : ℕ) → (j ≡ k → ⊥) → holders (enter book k n w c) j ≡ holders book j
  holders-else j ne = enter-else book k n w c (17 * j + 16) hi (λ z. ne (omega arith))

  pub mapping-here : mapping (enter book k n w c) k n ≡ w
  mapping-here =
      get_or-set_other (set book (17 * k + (n - 1)) w) (17 * k + 16) (17 * k + (n - 1)) c 0 (λ z. omega arith)
      ∙ get_or-set_same book (17 * k + (n - 1)) w 0 (omega arith)

  pub mapping-else : (j q : ℕ) → 1 ≤ n → 1 ≤ q → q ≤ 16 → (j ≡ k → q ≡ n → ⊥) → mapping (enter book k n w c) j q ≡ mapping book j q
  mapping-else j q lo a b out =
      get_or-set_other (set book (17 * k + (n - 1)) w) (17 * k + 16) (17 * j + (q - 1)) c 0 (λ z. omega arith)
      ∙ get_or-set_other book (17 * k + (n - 1)) (17 * j + (q - 1)) w 0 (λ z. out (omega arith) (omega arith))
