-- A page of a segment loaded in two steps, whatever bytes stood in the frames before (request 3).
use Prim.Native.Nat.{ℕ, ◌+◌, ◌-◌, ◌≤◌, ◌<◌}
use native.Mathlib.Omega.{arith}
use mathlib.Core.Path.{◌≡◌, sym, ap, ◌∙◌}
use mathlib.Core.List.{List}
use lib.ListN.{length, take, drop, get_or, replicate, length-replicate}
use lib.Seq.{ext_get_or}
use Rattle.spec.specs.Numbers.{page_bytes, zero_page}
use Rattle.spec.specs.Frames.{put}
use Rattle.spec.proofs.Bools.{within-test, within-not, within-means, same_test}
use Rattle.spec_laws.proofs.Lists.{by_order, get_or-same, length-put, put_in, put-outside, put_back}
use Rattle.spec_laws.proofs.Contents.{length-page, get-bytes, length-zero, zero-byte}
use Rattle.pagealloc.specs.declared.pages.Part.{Part}
use Rattle.pagealloc.specs.Contents.{file_at, file_part, copied, cleared}
use Rattle.pagealloc.specs.Steps.{StepsMean, Steps}
use Rattle.pagealloc.proofs.Parts.{PartOf, part_of, part_length, part-byte, rest-byte}

-- a place lies in a range or not
by-range : {P : Type 0} (low high a : ℕ) → (low ≤ a → a < high → P) → ((low ≤ a → a < high → ⊥) → P) → P
by-range low high a f g = by_order a low (λ l. g (λ u v. omega arith)) (λ l. by_order a high (λ u. f l u) (λ u. g (λ x y. omega arith)))

-- ---- clearing, for any part of a page

module _ (frames : List ℕ) (at : ℕ) (part : Part) (order : part.from ≤ part.to) (in-page : part.to ≤ 4096) (room : at + 4096 ≤ length frames) where
  length_before : length (put frames at (replicate part.from 0)) ≡ length frames
  length_before = length-put frames (replicate part.from 0) at (omega (arith, length-replicate {A = ℕ} part.from 0))

  length-cleared : length (cleared frames at part) ≡ length frames
  length-cleared =
      length-put (put frames at (replicate part.from 0)) (replicate (4096 - part.to) 0) (at + part.to)
      (omega (arith, length_before, length-replicate {A = ℕ} (4096 - part.to) 0)) ∙ length_before

  -- the rest of the page is zeros
  cleared-rest : (a : ℕ) → at ≤ a → a < at + 4096 → (at + part.from ≤ a → a < at + part.to → ⊥) → get_or (cleared frames at part) a 0 ≡ 0
  cleared-rest a l h out = by_order a (at + part.from)
      (λ u. put-outside (put frames at (replicate part.from 0)) (replicate (4096 - part.to) 0) (at + part.to) a (omega (arith, length_before)) (λ x y. omega arith)
      ∙ put_in frames (replicate part.from 0) at a (omega arith) l (omega (arith, length-replicate {A = ℕ} part.from 0)) ∙ get_or-same part.from (a - at) 0)
      (λ u. by_order a (at + part.to) (λ v. absurd (out u v))
      (λ v. put_in (put frames at (replicate part.from 0)) (replicate (4096 - part.to) 0) (at + part.to) a (omega (arith, length_before)) v
      (omega (arith, length-replicate {A = ℕ} (4096 - part.to) 0)) ∙ get_or-same (4096 - part.to) (a - (at + part.to)) 0))

  -- all else is as it was
  cleared-kept : (a : ℕ) → (at ≤ a → a < at + 4096 → (at + part.from ≤ a) × (a < at + part.to)) → get_or (cleared frames at part) a 0 ≡ get_or frames a 0
  cleared-kept a kept =
      put-outside (put frames at (replicate part.from 0)) (replicate (4096 - part.to) 0) (at + part.to) a (omega (arith, length_before))
      (λ x y. let k = kept (omega arith) (omega (arith, length-replicate {A = ℕ} (4096 - part.to) 0)) in omega arith)
      ∙ put-outside frames (replicate part.from 0) at a (omega arith)
      (λ x y. let k = kept x (omega (arith, length-replicate {A = ℕ} part.from 0)) in omega (arith, length-replicate {A = ℕ} part.from 0))

-- ---- copying, and both

module _ (at page vaddr : ℕ) (file : List ℕ) (part : Part) (p : PartOf page vaddr (length file) part) where
  module _ (frames : List ℕ) (room : at + 4096 ≤ length frames) where
    length-copied : length (copied frames at part file) ≡ length frames
    length-copied = length-put frames (take (part.to - part.from) (drop part.skip file)) (at + part.from) (omega (arith, part_length page vaddr file part p, p.order, p.in-page))

    -- the file's part is the file's bytes
    copied-in : (a : ℕ) → at + part.from ≤ a → a < at + part.to → get_or (copied frames at part file) a 0 ≡ file_at vaddr file (page + (a - at))
    copied-in a l h =
        let s : List ℕ = take (part.to - part.from) (drop part.skip file) in
        let e : a - (at + part.from) ≡ a - at - part.from = omega arith in
        put_in frames s (at + part.from) a (omega (arith, p.order, p.in-page)) l (omega (arith, part_length page vaddr file part p))
        ∙ ap (λ (k : ℕ). get_or s k 0) e ∙ part-byte page vaddr file part p (a - at) (omega arith) (omega arith)

    -- all else is as it was
    copied-out : (a : ℕ) → (at + part.from ≤ a → a < at + part.to → ⊥) → get_or (copied frames at part file) a 0 ≡ get_or frames a 0
    copied-out a out =
        put-outside frames (take (part.to - part.from) (drop part.skip file)) (at + part.from) a (omega (arith, p.order, p.in-page))
        (λ x y. out x (omega (arith, part_length page vaddr file part p)))

    -- the page as the rule says, in its frame
    page-in : (a : ℕ) → at ≤ a → a < at + 4096 → get_or (put frames at (page_bytes (file_at vaddr file) page)) a 0 ≡ file_at vaddr file (page + (a - at))
    unfolding page_bytes
    page-in a l h =
        put_in frames (page_bytes (file_at vaddr file) page) at a (omega arith) l (omega (arith, length-page (file_at vaddr file) page))
        ∙ get-bytes (file_at vaddr file) page 4096 (a - at) (omega arith)

    page-out : (a : ℕ) → (at ≤ a → a < at + 4096 → ⊥) → get_or (put frames at (page_bytes (file_at vaddr file) page)) a 0 ≡ get_or frames a 0
    page-out a out = put-outside frames (page_bytes (file_at vaddr file) page) at a (omega arith) (λ x y. out x (omega (arith, length-page (file_at vaddr file) page)))

    length-loaded : length (put frames at (page_bytes (file_at vaddr file) page)) ≡ length frames
    length-loaded = length-put frames (page_bytes (file_at vaddr file) page) at (omega (arith, length-page (file_at vaddr file) page))

    -- in the page but not in its part no byte of the file stands
    rest-zero : (a : ℕ) → at ≤ a → a < at + 4096 → (at + part.from ≤ a → a < at + part.to → ⊥) → file_at vaddr file (page + (a - at)) ≡ 0
    rest-zero a l h out = rest-byte page vaddr file part p (a - at) (omega arith) (λ x y. out (omega arith) (omega arith))

  -- what both leave, if a list has the file's bytes in the part, zeros in the rest of the page, and all else as it was
  both : (frames : List ℕ) → at + 4096 ≤ length frames → (l : List ℕ) → length l ≡ length frames
      → ((a : ℕ) → at + part.from ≤ a → a < at + part.to → get_or l a 0 ≡ file_at vaddr file (page + (a - at)))
      → ((a : ℕ) → at ≤ a → a < at + 4096 → (at + part.from ≤ a → a < at + part.to → ⊥) → get_or l a 0 ≡ 0)
      → ((a : ℕ) → (at ≤ a → a < at + 4096 → ⊥) → get_or l a 0 ≡ get_or frames a 0)
      → l ≡ put frames at (page_bytes (file_at vaddr file) page)
  both frames room l same in-part in_rest outside =
      ext_get_or 0 l (put frames at (page_bytes (file_at vaddr file) page)) (same ∙ sym (length-loaded frames room))
      (λ a h. by-range at (at + 4096) a
      (λ u v. by-range (at + part.from) (at + part.to) a
      (λ x y. in-part a x y ∙ sym (page-in frames room a u v))
      (λ out. in_rest a u v out ∙ sym (page-in frames room a u v ∙ rest-zero frames room a u v out)))
      (λ out. outside a out ∙ sym (page-out frames room a out)))

  -- the part's places in the page
  part-inside : (a : ℕ) → at + part.from ≤ a → a < at + part.to → (at ≤ a) × (a < at + 4096)
  part-inside a l h = (omega arith, omega (arith, p.in-page))

  pub copy-clear : (frames : List ℕ) → at + 4096 ≤ length frames → cleared (copied frames at part file) at part ≡ put frames at (page_bytes (file_at vaddr file) page)
  copy-clear frames room =
      let f : List ℕ = copied frames at part file in
      let l : length f ≡ length frames = length-copied frames room in
      let r : at + 4096 ≤ length f = omega arith in
      both frames room (cleared f at part) (length-cleared f at part p.order p.in-page r ∙ l)
      (λ a x y. cleared-kept f at part p.order p.in-page r a (λ u v. (x, y)) ∙ copied-in frames room a x y)
      (λ a u v out. cleared-rest f at part p.order p.in-page r a u v out)
      (λ a out. cleared-kept f at part p.order p.in-page r a (λ u v. absurd (out u v)) ∙ copied-out frames room a (λ x y. let i = part-inside a x y in out i.0 i.1))

  clear-copy : (frames : List ℕ) → at + 4096 ≤ length frames → copied (cleared frames at part) at part file ≡ put frames at (page_bytes (file_at vaddr file) page)
  clear-copy frames room =
      let f : List ℕ = cleared frames at part in
      let l : length f ≡ length frames = length-cleared frames at part p.order p.in-page room in
      let r : at + 4096 ≤ length f = omega arith in
      both frames room (copied f at part file) (length-copied f r ∙ l)
      (λ a x y. copied-in f r a x y)
      (λ a u v out. copied-out f r a out ∙ cleared-rest frames at part p.order p.in-page room a u v out)
      (λ a out. copied-out f r a (λ x y. let i = part-inside a x y in out i.0 i.1) ∙ cleared-kept frames at part p.order p.in-page room a (λ u v. absurd (out u v)))

  -- what stands in the frame then
  in_frame : (frames : List ℕ) → at + 4096 ≤ length frames → take 4096 (drop at (cleared (copied frames at part file) at part)) ≡ page_bytes (file_at vaddr file) page
  in_frame frames room =
      let s : List ℕ = page_bytes (file_at vaddr file) page in
      ap (λ (f : List ℕ). take 4096 (drop at f)) (copy-clear frames room)
      ∙ ap (λ (n : ℕ). take n (drop at (put frames at s))) (sym (length-page (file_at vaddr file) page)) ∙ put_back frames s at (omega arith)

  -- a place of the part has an address of the file
  part-file : (i : ℕ) → part.from ≤ i → i < part.to → (vaddr ≤ page + i) × (page + i < vaddr + length file)
  part-file i l h = let e = p.same (omega arith) in (omega arith, omega (arith, p.in-file))

  steps-mean : StepsMean at page vaddr file part
  steps-mean = record {
    right = λ i h. same_test _ _
        (λ q. let r = within-means (at + part.from) (at + part.to) (at + i) q in let f = part-file i (omega arith) (omega arith) in within-test vaddr (vaddr + length file) (page + i) f.0 f.1)
        (λ q. let r = within-means vaddr (vaddr + length file) (page + i) q in let o = p.only i h r.0 r.1 in within-test (at + part.from) (at + part.to) (at + i) (omega arith) (omega arith));
    copying = λ frames room a. by-range (at + part.from) (at + part.to) a
        (λ x y. rw (within-test (at + part.from) (at + part.to) a x y) (copied-in frames room a x y))
        (λ out. rw (within-not (at + part.from) (at + part.to) a out) (copied-out frames room a out));
    clearing = λ frames room a. by-range at (at + 4096) a
        (λ u v. by-range (at + part.from) (at + part.to) a
        (λ x y. rw (within-test at (at + 4096) a u v, within-test (at + part.from) (at + part.to) a x y) (cleared-kept frames at part p.order p.in-page room a (λ _ _. (x, y))))
        (λ out. rw (within-test at (at + 4096) a u v, within-not (at + part.from) (at + part.to) a out) (cleared-rest frames at part p.order p.in-page room a u v out)))
        (λ out. rw (within-not at (at + 4096) a out) (cleared-kept frames at part p.order p.in-page room a (λ u v. absurd (out u v))));
    copying-length = length-copied;
    clearing-length = λ frames room. length-cleared frames at part p.order p.in-page room;
    copied-first = copy-clear;
    cleared-first = clear-copy;
    forgets = λ frames others room space. in_frame frames room ∙ sym (in_frame others space);
    no-file = λ none frames room.
        let z = length-zero page in
        ext_get_or 0 (cleared frames at part) (put frames at (zero_page page)) (length-cleared frames at part p.order p.in-page room ∙ sym (length-put frames (zero_page page) at (omega arith)))
        (λ a h. by-range at (at + 4096) a
        (λ u v. cleared-rest frames at part p.order p.in-page room a u v
        (λ x y. let f = part-file (a - at) (omega arith) (omega arith) in none (a - at) (omega arith) f.0 f.1)
        ∙ sym (put_in frames (zero_page page) at a (omega arith) u (omega arith) ∙ zero-byte page (a - at)))
        (λ out. cleared-kept frames at part p.order p.in-page room a (λ u v. absurd (out u v)) ∙ sym (put-outside frames (zero_page page) at a (omega arith) (λ x y. out x (omega arith)))));
    all-file = λ low high frames room.
        ext_get_or 0 (cleared frames at part) frames (length-cleared frames at part p.order p.in-page room)
        (λ a h. cleared-kept frames at part p.order p.in-page room a
        (λ u v. let o = p.only (a - at) (omega arith) (omega arith) (omega arith) in (omega arith, omega arith)));
  }

pub steps : Steps
steps at page vaddr file = steps-mean at page vaddr file (file_part page vaddr (length file)) (part_of page vaddr (length file))
