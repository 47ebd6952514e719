-- Headers that pass checks 21 to 26 and 28, and the segments that they describe.
use Prim.Native.Nat.{ℕ, ◌+◌, ◌-◌, ◌%◌, ◌^◌, ◌≤◌}
use native.Mathlib.Omega.{arith}
use mathlib.Core.Path.{◌≡◌, refl, sym, ap, ◌∙◌}
use mathlib.Core.Bool.{Bool, true, not, ◌&&◌}
use mathlib.Core.List.{List, [], ◌∷◌, map}
use lib.ListN.{length, drop, length-take, length-drop}
use borrow.Author.Tests.{eqb-true, eqb-false, ltb-false}
use Rattle.spec.proofs.Bools.{split, both, not-true, un_not}
use Rattle.spec.proofs.Flags.{flag-most}
use Rattle.spec.specs.Tests.{◌is◌, ◌isnt◌, ◌below◌, ◌above◌, ◌⇒◌else◌, ◌or_else◌, all, any, filter}
use Rattle.spec.specs.Flags.{flags_ok}
use Rattle.spec.specs.Numbers.{page_up, page_down}
use Rattle.spec.specs.Program.{Segment, in_file}
use Rattle.spec.specs.Elf.{Phdr, phdrs_from, loads, phdrs, flag_perm, agree, align_ok, phoff, phnum, ehdr_error, phdr_error, segment_of, segments_of, entry, entry_in_text, elf_error}
use Rattle.spec_laws.proofs.Checks.{checks, passes, failed, or-else}
use Rattle.spec_laws.proofs.Loads.{AllLoad, not-zero}

-- ---- one header

-- checks 21 to 26 and 28, as a list
abbrev pub tests : List ℕ → List ℕ → ℕ → Phdr → List (Bool × ℕ)
tests flags image end p =
    (p.filesz above p.memsz, 21)
    ∷ (p.offset + p.filesz above length image, 22)
    ∷ (not (agree 4096 p.vaddr p.offset), 23)
    ∷ (not (align_ok p), 28)
    ∷ (p.vaddr + p.memsz above 2 ^ 64 - 4096, 24)
    ∷ (flag_perm flags p is 0, 25)
    ∷ (page_down p.vaddr below end, 26)
    ∷ []

pub one-header : (flags image : List ℕ) (end : ℕ) (p : Phdr) (ps : List Phdr) → phdr_error flags image end (p ∷ ps) ≡ checks (tests flags image end p) (phdr_error flags image (page_up (p.vaddr + p.memsz)) ps)
unfolding phdr_error
one-header flags image end p ps = refl

-- what they say of a header that passes
pub record Header (flags image : List ℕ) (end : ℕ) (p : Phdr) : Type 0 where
  pub file : p.filesz ≤ p.memsz
  pub inside : p.offset + p.filesz ≤ length image
  pub congruent : p.vaddr % 4096 ≡ p.offset % 4096
  pub aligned : align_ok p ≡ true
  pub fits : p.vaddr + p.memsz ≤ 2 ^ 64 - 4096
  pub perm : 1 ≤ flag_perm flags p
  pub ordered : end ≤ page_down p.vaddr

-- the first header passes, and the others from its page end on
pub header-means : (flags image : List ℕ) (end : ℕ) (p : Phdr) (ps : List Phdr) → phdr_error flags image end (p ∷ ps) ≡ 0 → Header flags image end p × (phdr_error flags image (page_up (p.vaddr + p.memsz)) ps ≡ 0)
header-means flags image end p ps e =
    let r = passes (tests flags image end p) _ refl (sym (one-header flags image end p ps) ∙ e) in
    let no = failed (tests flags image end p) r.0 in (
      record {
        file = ltb-false _ _ (no 0 (omega arith));
        inside = ltb-false _ _ (no 1 (omega arith));
        congruent = eqb-true _ _ (un_not _ (no 2 (omega arith)));
        aligned = un_not _ (no 3 (omega arith));
        fits = ltb-false _ _ (no 4 (omega arith));
        perm = not-zero (flag_perm flags p) (eqb-false _ _ (no 5 (omega arith)));
        ordered = ltb-false _ _ (no 6 (omega arith));
      },
      r.1,
    )

-- a segment that lies in the image has all the file bytes that its header names
pub file-length : (flags image : List ℕ) (p : Phdr) → p.offset + p.filesz ≤ length image → length (segment_of flags image p).file ≡ p.filesz
file-length flags image p h = omega (arith, length-take p.filesz (drop p.offset image), length-drop p.offset image)

-- ---- an image's segments

all_filter : {A : Type 0} (t : A → Bool) (l : List A) → all t (filter t l) ≡ true
all_filter t [] = refl
all_filter t (x ∷ l) = split (t x) (λ q. rw (q, q) (all_filter t l)) (λ q. rw q (all_filter t l))

all-load : (flags image : List ℕ) (end : ℕ) (ps : List Phdr) → flags_ok flags ≡ true → all loads ps ≡ true → phdr_error flags image end ps ≡ 0 → AllLoad end (map (segment_of flags image) ps)
all-load flags image end [] t l e = tt
all-load flags image end (p ∷ ps) t l e =
    let h = header-means flags image end p ps e in
    let m = both (loads p) (all loads ps) l in
    let n = both (p.type is 1) (p.memsz isnt 0) m.0 in
    let ne = eqb-false p.memsz 0 (not-true (p.memsz is 0) n.1) in (
      record {
        file = omega (arith, file-length flags image p h.0.inside, h.0.file);
        some_byte = not-zero p.memsz ne;
        perm = (h.0.perm, flag-most flags p t);
        ordered = h.0.ordered;
      },
      all-load flags image (page_up (p.vaddr + p.memsz)) ps t m.1 h.1,
    )

-- what 11 to 28 say of an image's segments
pub elf-loads : (flags image : List ℕ) → flags_ok flags ≡ true → elf_error flags image ≡ 0 → AllLoad 0 (segments_of flags image)
unfolding elf_error segments_of phdrs
elf-loads flags image t e =
    let q = or-else (ehdr_error image) (phdr_error flags image 0 (phdrs image) or_else (entry_in_text flags image ⇒ 0 else 27)) e in
    let r = or-else (phdr_error flags image 0 (phdrs image)) (entry_in_text flags image ⇒ 0 else 27) q.1 in
    all-load flags image 0 (phdrs image) t (all_filter loads (phdrs_from image (phoff image) (phnum image))) r.0

-- and that there is one, which has the entry
pub elf-some : (flags image : List ℕ) → elf_error flags image ≡ 0 → segments_of flags image ≡ [] → ⊥
unfolding elf_error
elf-some flags image e none =
    let q = or-else (ehdr_error image) (phdr_error flags image 0 (phdrs image) or_else (entry_in_text flags image ⇒ 0 else 27)) e in
    let r = or-else (phdr_error flags image 0 (phdrs image)) (entry_in_text flags image ⇒ 0 else 27) q.1 in
    let z : ◌≡◌ {A = ℕ} 27 0 = ap (λ (gs : List Segment). any (λ g. g.perm is 1 && in_file (entry image) g) gs ⇒ 0 else 27) (sym none) ∙ r.1 in
    omega arith
