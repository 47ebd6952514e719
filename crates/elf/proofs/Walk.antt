-- The walk over all headers of the table, skipped ones too, against the specification's list without them.
-- Assumes nothing.
use mathlib.Core.Path.{◌≡◌, refl, sym, ap, ap₂, ◌∙◌}
use mathlib.Core.Bool.{Bool, true, false, ◌&&◌, ◌||◌, or_assoc, or-false}
use mathlib.Core.List.{List, [], ◌∷◌, map}
use Prim.Native.Nat.{ℕ, zero, suc, ◌+◌, ◌-◌, ◌*◌, ◌<◌, ◌≤◌}
use native.Mathlib.Nat.{not-suc-le-zero}
use native.Mathlib.Omega.{arith}
use lib.ListN.{length, take, drop}
use borrow.Author.Tests.{ne_eqb}
use Rattle.spec.specs.Tests.{◌is◌, ◌⇒◌else◌, any, within}
use Rattle.spec.specs.Numbers.{page_up}
use Rattle.spec.specs.Program.{Segment}
use Rattle.spec.specs.Elf.{Phdr, phoff, phnum, phdrs, phdr_at, loads, flag_perm, phdr_error, segment_of, segments_of}
use Rattle.spec.proofs.Bools.{split}
use Rattle.elf.specs.Reader.{load_of}
use Rattle.elf.specs.Scan.{in_text, left, keep, scan_error, step_error, Steps}
use Rattle.spec.specs.declared.ElfError.{ElfError}
use Rattle.elf.specs.declared.Segment.{Segment as Held}
use Rattle.std.specs.Prelude.{Option, None, Some, Result}
use Rattle.elf.specs.declared.scan.Seen.{Seen}
use Rattle.spec_laws.proofs.Checks.{passes, through, stops}
use Rattle.spec_laws.proofs.Headers.{tests, one-header, header-means, file-length}
use Rattle.elf.proofs.Checked.{Passed, AllChecked}

-- of the headers that are left a walk takes the first, or skips it, and goes on 56 bytes further
pub left-none : (image : List ℕ) (at k : ℕ) → k ≤ 0 → left image at k ≡ []
left-none image at zero h = refl
left-none image at (suc k) h = absurd (not-suc-le-zero h)

pub left-some : (image : List ℕ) (at k : ℕ) → 0 < k → left image at k ≡ keep (phdr_at image at) (left image (at + 56) (k - 1))
left-some image at zero h = absurd (not-suc-le-zero h)
left-some image at (suc k) h = let one : suc k - 1 ≡ k = omega arith in rw one

-- from the table's start on, all that the specification has
pub left-all : (image : List ℕ) → left image (phoff image) (phnum image) ≡ phdrs image
unfolding phdrs
left-all image = refl

-- ---- for a loader's walk: what it reads at each header, in front of what is left

-- a segment that was read, as the specification has it
abbrev pub segment_in : List ℕ → Held → Segment
segment_in image g = record { vaddr = g.vaddr; memsz = g.memsz; file = take g.filesz (drop g.offset image); perm = g.perm }

abbrev pub front : List ℕ → Option Held → List Segment → List Segment
front image None gs = gs
front image (Some g) gs = segment_in image g ∷ gs

-- the segments of the headers that are left
abbrev pub segs : List ℕ → List ℕ → ℕ → ℕ → List Segment
segs flags image at k = map (segment_of flags image) (left image at k)

pub segs-some : (flags image : List ℕ) (at k : ℕ) (l : Option Held) → 0 < k → l ≡ load_of flags (phdr_at image at) → segs flags image at k ≡ front image l (segs flags image (at + 56) (k - 1))
segs-some flags image at k l h e =
    ap (map (segment_of flags image)) (left-some image at k h) ∙ step (phdr_at image at) (left image (at + 56) (k - 1))
    ∙ ap (λ (x : Option Held). front image x (segs flags image (at + 56) (k - 1))) (sym e)
  where
    step : (p : Phdr) (ps : List Phdr) → map (segment_of flags image) (keep p ps) ≡ front image (load_of flags p) (map (segment_of flags image) ps)
    step p ps = split (loads p) (λ q. rw q) (λ q. rw q)

pub segs-all : (flags image : List ℕ) → segs flags image (phoff image) (phnum image) ≡ segments_of flags image
unfolding phdrs segments_of
segs-all flags image = refl

-- in an accepted image what is read has passed, and so has what is left
pub checked-some : (flags image : List ℕ) (at k : ℕ) → 0 < k → AllChecked flags (length image) (left image at k)
    → (loads (phdr_at image at) ≡ true → Passed flags (length image) (phdr_at image at)) × AllChecked flags (length image) (left image (at + 56) (k - 1))
checked-some flags image at k h f = step (phdr_at image at) (left image (at + 56) (k - 1)) (rw (left-some image at k h) at f)
  where
    step : (p : Phdr) (ps : List Phdr) → AllChecked flags (length image) (keep p ps) → (loads p ≡ true → Passed flags (length image) p) × AllChecked flags (length image) ps
    step p ps f =
        split (loads p)
        (λ q. let g = rw q at f in (λ l. g.0, g.1))
        (λ q. (λ l. let z : ◌≡◌ {A = Bool} true false = cc (l, q) in cc, rw q at f))

-- ---- one header of the scan

no-headers : (flags image : List ℕ) (end : ℕ) → phdr_error flags image end [] ≡ 0
unfolding phdr_error
no-headers flags image end = refl

module _ (flags image : List ℕ) (a end : ℕ) (found : Bool) (p : Phdr) (ps : List Phdr) where
  -- it is refused
  pub refuses : (n : ℕ) → loads p ≡ true → phdr_error flags image end (p ∷ []) ≡ n → (n ≡ 0 → ⊥) → scan_error flags image a end found (keep p ps) ≡ n
  unfolding scan_error
  refuses n l e nz =
      let same : phdr_error flags image end (p ∷ ps) ≡ phdr_error flags image end (p ∷ []) = one-header flags image end p ps ∙ stops (tests flags image end p) (phdr_error flags image (page_up (p.vaddr + p.memsz)) []) (phdr_error flags image (page_up (p.vaddr + p.memsz)) ps) (λ z. nz (sym e ∙ one-header flags image end p [] ∙ z ∙ no-headers flags image (page_up (p.vaddr + p.memsz)))) ∙ sym (one-header flags image end p []) in
      rw (l, same, e, ne_eqb n 0 nz)

  -- it passes: the scan goes on from its page end, and the entry may have been found in it
  pub goes_on : loads p ≡ true → phdr_error flags image end (p ∷ []) ≡ 0
      → scan_error flags image a end found (keep p ps) ≡ scan_error flags image a (page_up (p.vaddr + p.memsz)) (found || (flag_perm flags p is 1 && within p.vaddr (p.vaddr + p.filesz) a)) ps
  unfolding scan_error
  goes_on l e =
      let on : phdr_error flags image end (p ∷ ps) ≡ phdr_error flags image (page_up (p.vaddr + p.memsz)) ps = one-header flags image end p ps ∙ through (tests flags image end p) _ (passes (tests flags image end p) _ refl (sym (one-header flags image end p []) ∙ e)).0 in
      rw (l, on, file-length flags image p (header-means flags image end p [] e).0.inside, ← or_assoc found (flag_perm flags p is 1 && within p.vaddr (p.vaddr + p.filesz) a) (any (in_text a) (map (segment_of flags image) ps)))

-- one turn of the scan, over header i of k: a step over the header at its place
pub turn : (flags image : List ℕ) (a : ℕ) (seen : Seen) (at k i : ℕ) (p : Phdr) (r : Result Seen ElfError) → i < k → p ≡ phdr_at image (at + 56 * i) → Steps flags image a seen p r
    → scan_error flags image a seen.end seen.found (left image (at + 56 * i) (k - i)) ≡ step_error flags image a r (left image (at + 56 * (i + 1)) (k - (i + 1)))
turn flags image a seen at k i p r h e s =
    let next : at + 56 * i + 56 ≡ at + 56 * (i + 1) = omega arith in
    let less : k - i - 1 ≡ k - (i + 1) = omega arith in
    let ps = left image (at + 56 * (i + 1)) (k - (i + 1)) in
    ap (scan_error flags image a seen.end seen.found)
    (left-some image (at + 56 * i) (k - i) (omega arith) ∙ ap₂ (λ (x y : ℕ). keep (phdr_at image (at + 56 * i)) (left image x y)) next less ∙ ap (λ (q : Phdr). keep q ps) (sym e))
    ∙ s ps

-- its end: 27 unless the entry was found
pub ends : (flags image : List ℕ) (a end : ℕ) (found : Bool) (at k : ℕ) → k ≤ 0 → scan_error flags image a end found (left image at k) ≡ (found ⇒ 0 else 27)
unfolding scan_error phdr_error
ends flags image a end found at k h = rw (left-none image at k h, or-false found)
