-- What a loader reads at a header of an accepted image has passed its checks.
-- Assumes nothing.
use mathlib.Core.Path.{◌≡◌, subst}
use mathlib.Core.Bool.{true}
use mathlib.Core.List.{List}
use Prim.Native.Nat.{ℕ, zero, suc, ◌+◌, ◌-◌, ◌*◌, ◌<◌}
use native.Mathlib.Omega.{arith}
use lib.ListN.{length}
use Rattle.spec.specs.Elf.{loads, phoff, phnum, phdr_at, elf_error}
use Rattle.spec.proofs.Bools.{split}
use Rattle.elf.specs.Reader.{load_of, CheckedLoad}
use Rattle.elf.specs.Scan.{left}
use Rattle.elf.proofs.Checked.{Passed, AllChecked, all-checked}
use Rattle.elf.proofs.Walk.{left-all, checked-some}
use Rattle.elf.proofs.Image.{accepted}

-- header i of k from a place on, all of which have passed
passed-nth : (flags image : List ℕ) (at k i : ℕ) → i < k → AllChecked flags (length image) (left image at k) → loads (phdr_at image (at + 56 * i)) ≡ true → Passed flags (length image) (phdr_at image (at + 56 * i))
passed-nth flags image at k zero h f =
    let e : at ≡ at + 56 * 0 = omega arith in
    subst (λ (a : ℕ). loads (phdr_at image a) ≡ true → Passed flags (length image) (phdr_at image a)) e (checked-some flags image at k h f).0
passed-nth flags image at k (suc i) h f =
    let e : at + 56 + 56 * i ≡ at + 56 * suc i = omega arith in
    subst (λ (a : ℕ). loads (phdr_at image a) ≡ true → Passed flags (length image) (phdr_at image a)) e (passed-nth flags image (at + 56) (k - 1) i (omega arith) (checked-some flags image at k (omega arith) f).1)

pub passed-at : (flags image : List ℕ) (i : ℕ) → elf_error flags image ≡ 0 → i < phnum image → loads (phdr_at image (phoff image + 56 * i)) ≡ true → Passed flags (length image) (phdr_at image (phoff image + 56 * i))
passed-at flags image i e h = passed-nth flags image (phoff image) (phnum image) i h (rw (left-all image) (all-checked flags image 0 _ (accepted flags image e).headers))

pub checked-at : (flags image : List ℕ) (i : ℕ) → elf_error flags image ≡ 0 → i < phnum image → CheckedLoad (length image) (load_of flags (phdr_at image (phoff image + 56 * i)))
checked-at flags image i e h =
    split (loads (phdr_at image (phoff image + 56 * i))) (λ q. rw q (passed-at flags image i e h q).checked) (λ q. rw q tt)
