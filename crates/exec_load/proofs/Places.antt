-- What a place of an image gives a loader.
use Prim.Native.Nat.{ℕ, ◌+◌, ◌%◌, ◌^◌, ◌≤◌, ◌<◌}
use native.Mathlib.Omega.{arith}
use mathlib.Core.Path.{◌≡◌, refl, sym, ap, ap₂, subst, ◌∙◌}
use mathlib.Core.Bool.{true}
use mathlib.Core.List.{List, [], ◌∷◌, ◌++◌}
use lib.ListN.{take, drop}
use Rattle.spec.specs.Tests.{◌is◌}
use Rattle.spec.specs.Numbers.{max_top, page_bytes, SetupOk}
use Rattle.spec.specs.Frames.{Store, pages_of, place}
use Rattle.spec.specs.Program.{Segment}
use Rattle.spec.specs.Exec.{layout_ok}
use Rattle.spec.specs.declared.VirtRange.{VirtRange}
use Rattle.spec.specs.declared.UserSegment.{UserSegment}
use Rattle.spec.proofs.Bools.{split}
use Rattle.spec.specs.declared.Setup.{Setup}
use Rattle.std.specs.Prelude.{Option, None, Some}
use Rattle.elf.specs.declared.Segment.{Segment as Held}
use Rattle.elf.proofs.Walk.{segment_in, front}
use Rattle.spec_laws.proofs.Accepted.{layout-first}
use Rattle.exec.specs.Pages.{pages_in}
use Rattle.pagealloc.specs.Contents.{file_at}
use Rattle.exec_load.specs.Pages.{segment_pages, load_pages, LaidLoad}

pub laid_of : (l : Option Held) (g : Held) → l ≡ Some g → LaidLoad l → g.vaddr + g.memsz ≤ max_top
laid_of l g e h = subst LaidLoad e h

-- a segment's recorded pages are whole, and lie below 2^63
pub record Whole (bss : VirtRange) (g : Held) : Type 0 where
  pub start : (pages_in bss g).range.start % 4096 ≡ 0
  pub end : (pages_in bss g).range.end % 4096 ≡ 0
  pub low : (pages_in bss g).range.end < 2 ^ 63

pub whole : (bss : VirtRange) (g : Held) → bss.start ≤ max_top → g.vaddr + g.memsz ≤ max_top → Whole bss g
whole bss g b l =
    split (g.perm is 3)
    (λ q. record { start = omega arith; end = rw q (omega arith); low = rw q (omega arith) })
    (λ q. record { start = omega arith; end = rw q (omega arith); low = rw q (omega arith) })

-- its pages stand before those of the places that are left
pub front-pages : (image : List ℕ) (bss : VirtRange) (l : Option Held) (gs : List Segment) → segment_pages bss (front image l gs) ≡ load_pages image bss l ++ segment_pages bss gs
unfolding segment_pages
front-pages image bss None gs = refl
front-pages image bss (Some g) gs = refl

-- it keeps to the layout, and so do the others
pub front-laid : (setup : Setup) (ok : SetupOk setup) (image : List ℕ) (l : Option Held) (gs : List Segment) → layout_ok setup (front image l gs) ≡ true → LaidLoad l × (layout_ok setup gs ≡ true)
front-laid setup ok image None gs e = (tt, e)
front-laid setup ok image (Some g) gs e = let p = layout-first setup (segment_in image g) gs e in (omega (arith, p.0.end), p.2)

-- a place without a segment places nothing
pub place-skip : (m : Store) (n : ℕ) (image : List ℕ) (bss : VirtRange) (l : Option Held) → l ≡ None → m ≡ place m n (load_pages image bss l)
unfolding place
place-skip m n image bss l e = sym (ap (λ (x : Option Held). place m n (load_pages image bss x)) e)

-- any other its segment's pages, by what was read and the part of the image that was lent
pub load-taken : (m : Store) (n : ℕ) (image : List ℕ) (bss : VirtRange) (l : Option Held) (g : Held) (u : UserSegment) (k : ℕ) → l ≡ Some g → u ≡ pages_in bss g → k ≡ g.filesz
    → place m n (pages_of (page_bytes (file_at g.vaddr (take k (drop g.offset image)))) (u ∷ [])) ≡ place m n (load_pages image bss l)
load-taken m n image bss l g u k e w z =
    ap₂ (λ (j : ℕ) (v : UserSegment). place m n (pages_of (page_bytes (file_at g.vaddr (take j (drop g.offset image)))) (v ∷ []))) z w
    ∙ sym (ap (λ (x : Option Held). place m n (load_pages image bss x)) e)

-- with no segment left nothing more is placed
pub place-done : (m : Store) (n : ℕ) (bss : VirtRange) (gs : List Segment) → gs ≡ [] → place m n (segment_pages bss gs) ≡ m
unfolding place segment_pages
place-done m n bss gs e = ap (λ (x : List Segment). place m n (segment_pages bss x)) e
