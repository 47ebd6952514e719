-- The pages that a start places are those of the program's segments, each with its own file bytes, then zero pages for bss and stack.
use Prim.Native.Nat.{ℕ, zero, suc, ◌+◌, ◌*◌, ◌-◌, ◌/◌, ◌≤◌, ◌<◌}
use native.Mathlib.Omega.{arith}
use mathlib.Core.Path.{◌≡◌, refl, sym, ap, ap₂, ◌∙◌}
use mathlib.Core.Bool.{true, false}
use mathlib.Core.List.{List, [], ◌∷◌, ◌++◌}
use lib.ListN.{replicate}
use borrow.Author.Tests.{ltb-false}
use Rattle.spec.specs.Tests.{◌is◌, ◌⇒◌else◌}
use Rattle.spec.specs.Numbers.{page_up, page_down, bytes_from, page_bytes, zero_page, SetupOk}
use Rattle.spec.specs.Book.{stack, bss_segment}
use Rattle.spec.specs.Frames.{Page, pages_from, pages_of}
use Rattle.spec.specs.Program.{Segment, Program}
use Rattle.spec.specs.Exec.{layout_ok, user_segment, program_segments, program_bss, start_pieces, file_byte, kept}
use Rattle.spec.specs.declared.VirtRange.{VirtRange}
use Rattle.spec.specs.declared.UserSegment.{UserSegment}
use Rattle.spec.proofs.Bools.{split}
use Rattle.spec.specs.declared.Setup.{Setup}
use Rattle.spec_laws.proofs.Lists.{Each}
use Rattle.spec_laws.proofs.Pages.{pages-append}
use Rattle.spec_laws.proofs.Accepted.{Accepted, non_empty, program-recorded, layout-first, no-data}
use Rattle.spec_laws.proofs.Loads.{AllLoad}
use Rattle.pagealloc.specs.Contents.{file_at}
use Rattle.exec_load.specs.Pages.{one_pages, segment_pages}
use Rattle.exec_load.proofs.FileBytes.{file-head, file-tail, file-high}

-- ---- pages that agree

bytes_same : (f h : ℕ → ℕ) (a k : ℕ) → ((x : ℕ) → a ≤ x → x < a + k → f x ≡ h x) → bytes_from f a k ≡ bytes_from h a k
bytes_same f h a zero e = refl
bytes_same f h a (suc k) e = ap₂ ◌∷◌ (e a (omega arith) (omega arith)) (bytes_same f h (a + 1) k (λ x l u. e x (omega arith) (omega arith)))

page-same : (f h : ℕ → ℕ) (a : ℕ) → ((x : ℕ) → a ≤ x → x < a + 4096 → f x ≡ h x) → page_bytes f a ≡ page_bytes h a
unfolding page_bytes
page-same f h a e = bytes_same f h a 4096 e

bytes-zero : (a k : ℕ) → bytes_from (λ x. 0) a k ≡ replicate k 0
bytes-zero a zero = refl
bytes-zero a (suc k) = ap (λ (l : List ℕ). 0 ∷ l) (bytes-zero (a + 1) k)

page-zero : (a : ℕ) → page_bytes (λ x. 0) a ≡ zero_page a
unfolding page_bytes zero_page
page-zero a = bytes-zero a 4096

from-same : (f h : ℕ → List ℕ) (perm a k : ℕ) → ((i : ℕ) → i < k → f (a + 4096 * i) ≡ h (a + 4096 * i)) → pages_from f perm a k ≡ pages_from h perm a k
from-same f h perm a zero e = refl
from-same f h perm a (suc k) e =
    let z : a + 4096 * 0 ≡ a = omega arith in
    let e₀ : f a ≡ h a = rw z at (e 0 (omega arith)) in
    ap₂ (λ (b : List ℕ) (r : List Page). record { page = a; perm = perm; bytes = b } ∷ r) e₀
    (from-same f h perm (a + 4096) k (λ i l. let q : a + 4096 + 4096 * i ≡ a + 4096 * suc i = omega arith in rw q (e (suc i) (omega arith))))

-- pages of pieces that all start at or above a bound
pages-above : (f h : ℕ → List ℕ) (bound : ℕ) (us : List UserSegment) → Each (λ u. bound ≤ u.range.start) us → ((a : ℕ) → bound ≤ a → f a ≡ h a) → pages_of f us ≡ pages_of h us
pages-above f h bound [] b e = refl
pages-above f h bound (u ∷ us) b e =
    let l = b.0 in
    ap₂ ◌++◌ (from-same f h u.perm u.range.start ((u.range.end - u.range.start) / 4096) (λ i k. e (u.range.start + 4096 * i) (omega arith)))
    (pages-above f h bound us b.1 e)

-- an empty piece has no page
no-pages : (f : ℕ → List ℕ) (u : UserSegment) → non_empty u ≡ false → pages_of f (u ∷ []) ≡ []
no-pages f u q =
    let l = ltb-false u.range.start u.range.end q in
    let z : (u.range.end - u.range.start) / 4096 ≡ 0 = omega arith in
    ap (λ (k : ℕ). pages_from f u.perm u.range.start k ++ []) z

pages-kept : (f : ℕ → List ℕ) (u : UserSegment) (us : List UserSegment) → pages_of f (non_empty u ⇒ u ∷ us else us) ≡ pages_of f (u ∷ []) ++ pages_of f us
pages-kept f u us =
    split (non_empty u)
    (λ q. rw q (pages-append f (u ∷ []) us))
    (λ q. rw q (sym (ap (λ (l : List Page). l ++ pages_of f us) (no-pages f u q))))

-- ---- a program's segments

kept_above : (bss : VirtRange) (e : ℕ) (gs : List Segment) → AllLoad e gs → Each (λ u. e ≤ u.range.start) (kept bss gs)
kept_above bss e [] l = tt
kept_above bss e (g ∷ gs) l =
    let o = l.0.ordered in
    split (non_empty (user_segment bss g))
    (λ q. rw q (o, weaken (kept bss gs) (kept_above bss (page_up (g.vaddr + g.memsz)) gs l.1)))
    (λ q. rw q (weaken (kept bss gs) (kept_above bss (page_up (g.vaddr + g.memsz)) gs l.1)))
  where
    weaken : (us : List UserSegment) → Each (λ u. page_up (g.vaddr + g.memsz) ≤ u.range.start) us → Each (λ u. e ≤ u.range.start) us
    weaken [] b = tt
    weaken (u ∷ us) b = let o = l.0.ordered in let x = b.0 in (omega arith, weaken us b.1)

program-pages : (setup : Setup) (bss : VirtRange) (e : ℕ) (gs : List Segment) → AllLoad e gs → layout_ok setup gs ≡ true → pages_of (page_bytes (file_byte gs)) (kept bss gs) ≡ segment_pages bss gs
unfolding segment_pages
program-pages setup bss e [] l y = refl
program-pages setup bss e (g ∷ []) l y =
    pages-kept (page_bytes (file_byte (g ∷ []))) (user_segment bss g) []
program-pages setup bss e (g ∷ k ∷ gs) l y =
    let f : ℕ → List ℕ = page_bytes (file_byte (g ∷ k ∷ gs)) in
    let top : ℕ = page_up (g.vaddr + g.memsz) in
    pages-kept f (user_segment bss g) (kept bss (k ∷ gs))
    ∙ ap₂ ◌++◌ (own (no-data setup g k gs y))
    (pages-above f (page_bytes (file_byte (k ∷ gs))) top (kept bss (k ∷ gs)) (kept_above bss top (k ∷ gs) l.1)
    (λ a h. page-same (file_byte (g ∷ k ∷ gs)) (file_byte (k ∷ gs)) a (λ x u v. file-tail e g (k ∷ gs) l.0 x (omega arith)))
    ∙ program-pages setup bss top (k ∷ gs) l.1 (layout-first setup g (k ∷ gs) y).2)
  where
    own : (g.perm is 3) ≡ false → pages_of (page_bytes (file_byte (g ∷ k ∷ gs))) (user_segment bss g ∷ []) ≡ one_pages bss g
    own q =
        let start : ℕ = page_down g.vaddr in
        let end : ℕ = page_up (g.vaddr + g.memsz) in
        rw q (ap (λ (r : List Page). r ++ [])
        (from-same (page_bytes (file_byte (g ∷ k ∷ gs))) (page_bytes (file_at g.vaddr g.file)) g.perm start ((end - start) / 4096)
        (λ i h. page-same (file_byte (g ∷ k ∷ gs)) (file_at g.vaddr g.file) (start + 4096 * i) (λ x u v. file-head e g (k ∷ gs) l x (omega arith)))))

-- ---- the whole of a start

pub start-pages : (setup : Setup) (ok : SetupOk setup) (p : Program) → Accepted setup p
    → pages_of (page_bytes (file_byte p.segments)) (start_pieces setup p)
    ≡ segment_pages (program_bss p) p.segments ++ (pages_of zero_page (bss_segment (program_bss p) ∷ []) ++ pages_of zero_page (stack setup ∷ []))
start-pages setup ok p a =
    let l = a.read.loads in
    let f : ℕ → List ℕ = page_bytes (file_byte p.segments) in
    let bound : ℕ = page_up (program_bss p).start in
    let b = (program-recorded setup ok p a).bss-ok in
    pages-append f (program_segments p) (bss_segment (program_bss p) ∷ stack setup ∷ [])
    ∙ ap₂ ◌++◌ (program-pages setup (program_bss p) 0 p.segments l a.layout)
    (pages-above f zero_page bound (bss_segment (program_bss p) ∷ stack setup ∷ []) (omega arith, (omega (arith, b.order, b.aligned, b.low), tt))
    (λ page h. page-same (file_byte p.segments) (λ x. 0) page (λ x u v. file-high 0 p.segments l x (omega arith)) ∙ page-zero page)
    ∙ pages-append zero_page (bss_segment (program_bss p) ∷ []) (stack setup ∷ []))
