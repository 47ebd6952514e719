-- Bytes of a process written page by page.
use Prim.Native.Nat.{ℕ, ◌+◌, ◌-◌, ◌*◌, ◌%◌, ◌≤◌, ◌<◌}
use native.Mathlib.Omega.{arith}
use mathlib.Core.Path.{◌≡◌, refl, sym, ap, subst, ◌∙◌}
use Rattle.std.specs.Prelude.{None, Some}
use mathlib.Core.List.{List}
use lib.ListN.{length, take, drop, length-drop}
use lib.Seq.{length-take-le, take-add, take-length}
use Rattle.spec.specs.Numbers.{page_down}
use Rattle.spec.specs.Book.{frame_count, frame_of}
use Rattle.spec.specs.Frames.{Store, put, pokes, store}
use Rattle.spec_laws.proofs.Pokes.{pokes-append, pokes-page}
use Rattle.pagealloc.specs.Lent.{Mapped}
use Rattle.book.proofs.Searches.{Framed, page-found}
use Rattle.pagealloc.proofs.Copying.{not-missing}

-- the frame of an address's page
pub frame_at : (book : List ℕ) (n a page k : ℕ) → page ≡ page_down a → frame_of book n page ≡ Some k → Framed book n (page_down a) k
frame_at book n a page k e h = subst (λ (p : ℕ). Framed book n p k) e (page-found book n page k h)

-- in a range that a process has, it is found
pub not-missed : {P : Type 0} (book : List ℕ) (n addr size i page : ℕ) → Mapped book n (page_down addr) (addr + size) → i < size → page ≡ page_down (addr + i) → frame_of book n page ≡ None → P
not-missed book n addr size i page mapped h e miss =
    let there = mapped page (omega arith) (omega arith) (omega arith) in
    not-missing (frame_of book n page) there.0 there.1 miss

-- ---- written

pub write-none : (m : Store) (n addr : ℕ) (bytes : List ℕ) → m ≡ pokes m n addr (take 0 bytes)
unfolding pokes
write-none m n addr bytes = refl

-- the next bytes, within one page
pub write-turn : (m : Store) (f g book bytes : List ℕ) (n addr i e k at : ℕ) → length f ≡ 4096 * frame_count book → store f book ≡ pokes m n addr (take i bytes) → i ≤ e → e ≤ length bytes
    → frame_of book n (page_down (addr + i)) ≡ Some k → (addr + i) % 4096 + (e - i) ≤ 4096 → at ≡ 4096 * k + (addr + i) % 4096 → g ≡ put f at (take (e - i) (drop i bytes))
    → store g book ≡ pokes m n addr (take e bytes)
write-turn m f g book bytes n addr i e k at fits so l h found room ea eg =
    let s : List ℕ = take (e - i) (drop i bytes) in
    let ld = length-drop i bytes in
    let ls : length s ≡ e - i = length-take-le (e - i) (drop i bytes) (omega arith) in
    let li : length (take i bytes) ≡ i = length-take-le i bytes (omega arith) in
    let d : e ≡ i + (e - i) = omega arith in
    sym (ap (λ (j : ℕ). pokes m n addr (take j bytes)) d
    ∙ ap (pokes m n addr) (take-add i (e - i) bytes)
    ∙ pokes-append m n addr (take i bytes) s
    ∙ ap (λ (j : ℕ). pokes (pokes m n addr (take i bytes)) n (addr + j) s) li
    ∙ ap (λ (x : Store). pokes x n (addr + i) s) (sym so)
    ∙ pokes-page (store f book) n (addr + i) s k fits found (omega arith)
    ∙ ap (λ (x : List ℕ). store x book) (sym (eg ∙ ap (λ (j : ℕ). put f j s) ea)))

pub write-all : (m : Store) (n addr i : ℕ) (bytes : List ℕ) → i ≡ length bytes → pokes m n addr (take i bytes) ≡ pokes m n addr bytes
write-all m n addr i bytes e = ap (λ (j : ℕ). pokes m n addr (take j bytes)) e ∙ ap (pokes m n addr) (take-length bytes)
