-- The bytes of pages: by a rule, of zeros, and as they stand in a frame.
use Prim.Native.Nat.{ℕ, zero, suc, ◌+◌, ◌*◌, ◌-◌, ◌%◌, ◌<◌}
use native.Mathlib.Omega.{arith}
use native.Mathlib.Nat.{add-zero, not-suc-le-zero}
use mathlib.Core.Path.{◌≡◌, refl, sym, ap, ◌∙◌}
use Rattle.std.specs.Prelude.{Option, None, Some}
use lib.ListN.{length, get_or, drop, length-drop, length-replicate}
use lib.Seq.{length-take-le, get_or-take, get_or-drop}
use Rattle.spec.specs.Numbers.{page_down, bytes_from, page_bytes, zero_page}
use Rattle.spec.specs.Book.{frame_of, book_perm}
use Rattle.spec.specs.Frames.{Store, cell_in, mem_of, frame_bytes}
use Rattle.spec.specs.Access.{byte_of}
use Rattle.spec_laws.proofs.Lists.{get_or-same}
use Rattle.spec_laws.proofs.Frame.{Fits, frame_found, frame-perm}

-- ---- by a rule, and zeros

pub length-bytes : (f : ℕ → ℕ) (a k : ℕ) → length (bytes_from f a k) ≡ k
length-bytes f a zero = refl
length-bytes f a (suc k) = ap suc (length-bytes f (a + 1) k)

pub get-bytes : (f : ℕ → ℕ) (a k i : ℕ) → i < k → get_or (bytes_from f a k) i 0 ≡ f (a + i)
get-bytes f a zero i h = absurd (not-suc-le-zero h)
get-bytes f a (suc k) zero h = ap f (sym (add-zero a))
get-bytes f a (suc k) (suc i) h = get-bytes f (a + 1) k i (omega arith) ∙ ap f (omega arith)

pub length-page : (f : ℕ → ℕ) (a : ℕ) → length (page_bytes f a) ≡ 4096
unfolding page_bytes
length-page f a = length-bytes f a 4096

-- the byte of an address in its page
pub page-byte : (f : ℕ → ℕ) (a : ℕ) → get_or (page_bytes f (page_down a)) (a % 4096) 0 ≡ f a
unfolding page_bytes
page-byte f a = get-bytes f (page_down a) 4096 (a % 4096) (omega arith) ∙ ap f (omega arith)

pub length-zero : (a : ℕ) → length (zero_page a) ≡ 4096
unfolding zero_page
length-zero a = length-replicate {A = ℕ} 4096 0

pub zero-byte : (a i : ℕ) → get_or (zero_page a) i 0 ≡ 0
unfolding zero_page
zero-byte a i = get_or-same 4096 i 0

-- ---- in a frame

-- the byte of an address in its page's frame is the one that the process sees
pub frame_byte : (m : Store) (n a : ℕ) → get_or (frame_bytes m.frames (frame_of m.book n (page_down a))) (a % 4096) 0 ≡ byte_of (mem_of m n a)
frame_byte m n a = go (frame_of m.book n (page_down a))
  where
    go : (o : Option ℕ) → get_or (frame_bytes m.frames o) (a % 4096) 0 ≡ byte_of (cell_in m n a o)
    go None = refl
    go (Some k) = get_or-take 4096 (drop (4096 * k) m.frames) (a % 4096) 0 (omega arith) ∙ get_or-drop (4096 * k) m.frames (a % 4096) 0

pub length-frame : (m : Store) (n page q : ℕ) → Fits m → book_perm m.book n page ≡ Some q → length (frame_bytes m.frames (frame_of m.book n page)) ≡ 4096
length-frame m n page q fits e =
    let r = frame-perm m.book n page q e in
    let l : length (drop (4096 * r.0) m.frames) ≡ length m.frames - 4096 * r.0 = length-drop (4096 * r.0) m.frames in
    ap (λ (o : Option ℕ). length (frame_bytes m.frames o)) r.1
    ∙ length-take-le 4096 (drop (4096 * r.0) m.frames) (omega (arith, (frame_found m.book n page r.0 r.1).0, fits.bytes))
