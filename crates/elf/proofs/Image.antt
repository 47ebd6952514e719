-- The checks of a whole image, and what they show.
-- Assumes nothing.
use mathlib.Core.Path.{◌≡◌, refl}
use mathlib.Core.Bool.{Bool, true, false, not, ◌||◌}
use mathlib.Core.List.{List, [], ◌∷◌}
use Prim.Native.Nat.{ℕ, ◌+◌, ◌*◌, ◌%◌, ◌<◌, ◌≤◌}
use native.Mathlib.Omega.{arith}
use lib.ListN.{length, take}
use borrow.Author.Tests.{lt-ltb, le-ltb, ltb-false}
use Rattle.spec.specs.Tests.{◌is◌, ◌isnt◌, ◌below◌, ◌above◌, ◌⇒◌else◌, ◌or_else◌, same}
use Rattle.spec.specs.Elf.{magic, phoff, phnum, ehdr_error, phdrs, phdr_error, segments_of, entry_in_text, elf_error}
use Rattle.elf_header.specs.Header.{ehdr_of, fields_error}
use Rattle.elf.specs.Scan.{scan_error, image_error}
use Rattle.elf_header.specs.declared.header.Ehdr.{Ehdr}
use Rattle.spec_laws.proofs.Checks.{passes, failed, or-else}

-- ---- the ELF header

abbrev tests : ℕ → Ehdr → List (Bool × ℕ)
tests n h =
    (h.class isnt 2, 13)
    ∷ (h.encoding isnt 1, 14)
    ∷ (h.ident isnt 1 || h.version isnt 1, 15)
    ∷ (h.kind isnt 2, 16)
    ∷ (h.machine isnt 183, 17)
    ∷ (h.phentsize isnt 56, 18)
    ∷ (h.entry % 4 isnt 0, 19)
    ∷ (h.phoff + 56 * h.phnum above n, 20)
    ∷ []

-- a header that passed has its table in the image
pub table : (n : ℕ) (h : Ehdr) → fields_error n h ≡ 0 → h.phoff + 56 * h.phnum ≤ n
unfolding fields_error
table n h e = ltb-false _ _ (failed (tests n h) (passes (tests n h) 0 refl e).0 7 (omega arith))

-- ---- the whole image

module _ (flags image : List ℕ) where
  -- by its length and its first four bytes, and then by its fields and headers
  pub truncated : length image < 64 → 11 ≡ elf_error flags image
  unfolding elf_error ehdr_error
  truncated h = rw (lt-ltb (length image) 64 h)

  pub bad-magic : 64 ≤ length image → same ◌is◌ (take 4 image) magic ≡ false → 12 ≡ elf_error flags image
  unfolding elf_error ehdr_error
  bad-magic h m = rw (le-ltb (length image) 64 h, m)

  pub by-fields : 64 ≤ length image → same ◌is◌ (take 4 image) magic ≡ true → image_error flags image (ehdr_of image) ≡ elf_error flags image
  unfolding elf_error ehdr_error fields_error scan_error phdrs segments_of
  by-fields h m = rw (le-ltb (length image) 64 h, m)

-- ---- what a caller learns from it

-- of an accepted image: its headers lie in it and pass, and its entry is in text
pub record Accepted (flags image : List ℕ) : Type 0 where
  pub head : 64 ≤ length image
  pub table : phoff image + 56 * phnum image ≤ length image
  pub headers : phdr_error flags image 0 (phdrs image) ≡ 0
  pub text : entry_in_text flags image ≡ true

abbrev all-tests : List ℕ → List (Bool × ℕ)
all-tests image = (length image below 64, 11) ∷ (not (same ◌is◌ (take 4 image) magic), 12) ∷ tests (length image) (ehdr_of image)

found : (b : Bool) → ◌≡◌ {A = ℕ} (b ⇒ 0 else 27) 0 → b ≡ true
found true e = refl
found false e = absurd (omega arith)

pub accepted : (flags image : List ℕ) → elf_error flags image ≡ 0 → Accepted flags image
unfolding elf_error ehdr_error
accepted flags image e =
    let parts = or-else (ehdr_error image) (phdr_error flags image 0 (phdrs image) or_else (entry_in_text flags image ⇒ 0 else 27)) e in
    let rest = or-else (phdr_error flags image 0 (phdrs image)) (entry_in_text flags image ⇒ 0 else 27) parts.1 in
    let no = failed (all-tests image) (passes (all-tests image) 0 refl parts.0).0 in
    record {
      head = ltb-false _ _ (no 0 (omega arith));
      table = ltb-false _ _ (no 9 (omega arith));
      headers = rest.0;
      text = found (entry_in_text flags image) rest.1;
    }
