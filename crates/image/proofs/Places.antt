-- What a loader reads at each place of an accepted image: the program's segments, in order, each within its bounds.
use Prim.Native.Nat.{ℕ, zero, suc, ◌+◌, ◌*◌, ◌-◌, ◌≤◌, ◌<◌}
use native.Mathlib.Omega.{arith}
use mathlib.Core.Path.{◌≡◌, refl, sym, ap, ◌∙◌}
use mathlib.Core.List.{List, []}
use lib.ListN.{length}
use Rattle.spec.specs.Tests.{◌is◌}
use Rattle.spec.specs.Numbers.{SetupOk}
use Rattle.spec.specs.Program.{Segment}
use Rattle.spec.specs.Elf.{phoff, phnum, phdr_at}
use Rattle.spec.specs.Aout.{data_size, bss_size}
use Rattle.spec.specs.Image.{read_error, program_of}
use Rattle.spec.specs.declared.Setup.{Setup}
use Rattle.spec.specs.declared.Form.{Form}
use Rattle.spec.specs.declared.Form.TheVariants.{Elf, Aout}
use Rattle.spec.proofs.Bools.{split}
use Rattle.spec_laws.proofs.Aouts.{aout-means}
use Rattle.elf.specs.Reader.{CheckedLoad}
use Rattle.elf.specs.declared.Segment.{Segment as Held}
use Rattle.std.specs.Prelude.{Option, None, Some}
use Rattle.elf.proofs.Walk.{front, segs, segs-some, segs-all}
use Rattle.elf.proofs.Checked.{perm_of, perm-most}
use Rattle.elf.proofs.HeaderAt.{checked-at}
use Rattle.image.specs.Places.{aout_load, places, load_at}

module _ (setup : Setup) (form : Form) (image : List ℕ) where
  -- the segments at k places from place i on
  at_places : ℕ → ℕ → List Segment
  at_places i zero = []
  at_places i (suc k) = front image (load_at setup form image i) (at_places (i + 1) k)

  -- and at all places from place i on
  pub rest : ℕ → List Segment
  rest i = at_places i (places form image - i)

  pub rest_some : (i : ℕ) → i < places form image → rest i ≡ front image (load_at setup form image i) (rest (i + 1))
  unfolding rest at_places
  rest_some i h = let e : places form image - i ≡ suc (places form image - (i + 1)) = omega arith in ap (at_places i) e

  pub rest-none : (i : ℕ) → places form image ≤ i → rest i ≡ []
  unfolding rest at_places
  rest-none i h = let e : places form image - i ≡ 0 = omega arith in ap (at_places i) e

-- all of them are the program's
elf-places : (setup : Setup) (image : List ℕ) (i k : ℕ) → at_places setup Elf image i k ≡ segs setup.flags image (phoff image + 56 * i) k
unfolding at_places
elf-places setup image i zero = refl
elf-places setup image i (suc k) =
    let e : phoff image + 56 * (i + 1) ≡ phoff image + 56 * i + 56 = omega arith in
    let one : suc k - 1 ≡ k = omega arith in
    let l = load_at setup Elf image i in
    ap (front image l) (elf-places setup image (i + 1) k ∙ ap (λ (at : ℕ). segs setup.flags image at k) e ∙ ap (segs setup.flags image (phoff image + 56 * i + 56)) (sym one))
    ∙ sym (segs-some setup.flags image (phoff image + 56 * i) (suc k) l (omega arith) refl)

pub rest_all : (setup : Setup) (form : Form) (image : List ℕ) → rest setup form image 0 ≡ (program_of setup form image).segments
unfolding rest at_places
rest_all setup Elf image =
    let z : phoff image + 56 * 0 ≡ phoff image = omega arith in
    let n : phnum image - 0 ≡ phnum image = omega arith in
    elf-places setup image 0 (phnum image - 0) ∙ ap (segs setup.flags image (phoff image + 56 * 0)) n ∙ ap (λ (at : ℕ). segs setup.flags image at (phnum image)) z
    ∙ segs-all setup.flags image
rest_all setup (Aout magic) image = split (data_size image + bss_size image is 0) (λ q. rw q) (λ q. rw q)

-- the file bytes of what is read lie in the image
abbrev pub WithinLoad : ℕ → Option Held → Type 0
WithinLoad n None = Unit {0}
WithinLoad n (Some g) = g.offset + g.filesz ≤ n

pub within-at : (setup : Setup) (form : Form) (image : List ℕ) (i : ℕ) → read_error setup form image ≡ 0 → i < places form image → WithinLoad (length image) (load_at setup form image i)
within-at setup Elf image i e h = go (load_at setup Elf image i) (checked-at setup.flags image i e h)
  where
    go : (l : Option Held) → CheckedLoad (length image) l → WithinLoad (length image) l
    go None c = tt
    go (Some g) c = c.within
within-at setup (Aout magic) image i e h =
    let o = (aout-means setup magic image e).inside in
    split (i is 0) (λ q. rw q (omega arith)) (λ q. rw q (split (data_size image + bss_size image is 0) (λ d. rw d tt) (λ d. rw d (omega arith))))

-- a permission is at most 3
pub perm_at_lem : (setup : Setup) → SetupOk setup → (form : Form) (image : List ℕ) (i : ℕ) (g : Held) → load_at setup form image i ≡ Some g → g.perm ≤ 3
perm_at_lem setup ok Elf image i g e = perm-most setup.flags (phdr_at image (phoff image + 56 * i)) g ok.table e
perm_at_lem setup ok (Aout magic) image i g e =
    let q : perm_of (aout_load setup image i) ≡ g.perm = ap perm_of e in
    let r : perm_of (aout_load setup image i) ≤ 3 = split (i is 0) (λ q. rw q (omega arith)) (λ q. rw q (split (data_size image + bss_size image is 0) (λ d. rw d (omega arith)) (λ d. rw d (omega arith)))) in
    omega (arith, q, r)
