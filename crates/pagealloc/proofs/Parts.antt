-- The file's part of a page: the places where a byte of the file stands.
use Prim.Native.Nat.{ℕ, ◌+◌, ◌-◌, ◌≤◌, ◌<◌, min, max}
use native.Mathlib.Omega.{arith}
use mathlib.Core.Path.{◌≡◌, ap, ◌∙◌}
use mathlib.Core.List.{List}
use lib.ListN.{length, take, drop, get_or, length-drop}
use lib.Seq.{length-take-le, get_or-take, get_or-drop}
use borrow.Author.Tests.{ltb-true, ltb-false}
use Rattle.spec.specs.Tests.{◌below◌}
use Rattle.spec.proofs.Bools.{split, within-test, within-not}
use Rattle.pagealloc.specs.declared.pages.Part.{Part}
use Rattle.pagealloc.specs.Contents.{file_at, file_part}

-- a part lies in its page and in the file, its places go with the file's addresses, and no other place of the page does
pub record PartOf (page vaddr size : ℕ) (part : Part) : Type 0 where
  pub order : part.from ≤ part.to
  pub in-page : part.to ≤ 4096
  pub in-file : part.skip + (part.to - part.from) ≤ size
  pub same : part.from < part.to → page + part.from ≡ vaddr + part.skip
  pub only : (i : ℕ) → i < 4096 → vaddr ≤ page + i → page + i < vaddr + size → (part.from ≤ i) × (i < part.to)

pub part_of : (page vaddr size : ℕ) → PartOf page vaddr size (file_part page vaddr size)
part_of page vaddr size = split (max page vaddr below min (page + 4096) (vaddr + size)) (λ q. rw q (some-part (ltb-true _ _ q))) (λ q. rw q (no_part (ltb-false _ _ q)))
  where
    some-part : max page vaddr < min (page + 4096) (vaddr + size)
        → PartOf page vaddr size (record { from = max page vaddr - page; to = min (page + 4096) (vaddr + size) - page; skip = max page vaddr - vaddr })
    some-part h = record { order = omega arith; in-page = omega arith; in-file = omega arith; same = λ l. omega arith; only = λ i l u v. (omega arith, omega arith) }

    no_part : min (page + 4096) (vaddr + size) ≤ max page vaddr → PartOf page vaddr size (record { from = 0; to = 0; skip = 0 })
    no_part h = record { order = omega arith; in-page = omega arith; in-file = omega arith; same = λ l. omega arith; only = λ i l u v. (omega arith, omega arith) }

pub part_at : (page vaddr size : ℕ) (part : Part) → part ≡ file_part page vaddr size → PartOf page vaddr size part
part_at page vaddr size part e = rw e (part_of page vaddr size)

-- inside and outside of the file bytes
file-in : (vaddr : ℕ) (file : List ℕ) (a : ℕ) → vaddr ≤ a → a < vaddr + length file → file_at vaddr file a ≡ get_or file (a - vaddr) 0
file-in vaddr file a l h = rw (within-test vaddr (vaddr + length file) a l h)

file-out : (vaddr : ℕ) (file : List ℕ) (a : ℕ) → (vaddr ≤ a → a < vaddr + length file → ⊥) → file_at vaddr file a ≡ 0
file-out vaddr file a out = rw (within-not vaddr (vaddr + length file) a out)

-- the bytes of a part
module _ (page vaddr : ℕ) (file : List ℕ) (part : Part) (p : PartOf page vaddr (length file) part) where
  pub part_length : length (take (part.to - part.from) (drop part.skip file)) ≡ part.to - part.from
  part_length = length-take-le (part.to - part.from) (drop part.skip file) (omega (arith, length-drop part.skip file, p.in-file))

  -- those of the file at the places' addresses
  pub part-byte : (i : ℕ) → part.from ≤ i → i < part.to → get_or (take (part.to - part.from) (drop part.skip file)) (i - part.from) 0 ≡ file_at vaddr file (page + i)
  part-byte i l h =
      let e : part.skip + (i - part.from) ≡ page + i - vaddr = omega (arith, p.same (omega arith)) in
      let f : file_at vaddr file (page + i) ≡ get_or file (page + i - vaddr) 0 = file-in vaddr file (page + i) (omega (arith, p.same (omega arith))) (omega (arith, p.same (omega arith), p.in-file)) in
      rw f
      (get_or-take (part.to - part.from) (drop part.skip file) (i - part.from) 0 (omega arith) ∙ get_or-drop part.skip file (i - part.from) 0
      ∙ ap (λ (k : ℕ). get_or file k 0) e)

  -- zero at the page's other places
  pub rest-byte : (i : ℕ) → i < 4096 → (part.from ≤ i → i < part.to → ⊥) → file_at vaddr file (page + i) ≡ 0
  rest-byte i h out = file-out vaddr file (page + i) (λ l u. let q = p.only i h l u in out q.0 q.1)
