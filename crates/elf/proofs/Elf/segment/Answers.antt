-- `Elf::segment` meets its contract: an accepted image's table lies in it, and a header that isn't skipped has passed its checks.
-- Assumes nothing.
use mathlib.Core.Path.{◌≡◌, sym, ap, subst, ◌∙◌}
use Prim.Native.Nat.{◌+◌, ◌*◌}
use native.Mathlib.Omega.{arith}
use lib.ListN.{length}
use borrow.Author.Tests.{ne_eqb}
use Rattle.spec.specs.Elf.{Phdr, loads, flag_perm, phoff, phdr_at}
use Rattle.elf_header.specs.declared.header.Ehdr.{Ehdr}
use Rattle.elf_header.specs.Phdr.{phdr_of}
use Rattle.elf.proofs.Image.{accepted}
use Rattle.elf.proofs.Checked.{Passed}
use Rattle.elf.proofs.HeaderAt.{passed-at}
use Rattle.elf.proofs.Elf.segment.Goals as goal
use Rattle.elf.proofs.Elf.segment.Goals.{After-perm}

pub overflow_add-self : goal.overflow_add-self
overflow_add-self c = let e = c.args.self.now in omega (arith, (accepted e.flags e.image.now e.accepted).table, ap (λ (h : Ehdr). h.phoff) e.read, c.count.ensures, c.if-i-count.false)

pub read_phdr-p-requires : goal.read_phdr-p-requires
read_phdr-p-requires c = let e = c.args.self.now in omega (arith, (accepted e.flags e.image.now e.accepted).table, ap (λ (h : Ehdr). h.phoff) e.read, c.count.ensures, c.if-i-count.false)

-- the header that was read
passed : (c : After-perm) → let e = c.args.self.now in Passed e.flags (length e.image.now) (phdr_of c.read_phdr-p.result)
passed c =
    let e = c.args.self.now in
    let here : phdr_of c.read_phdr-p.result ≡ phdr_at e.image.now (phoff e.image.now + 56 * c.args.i) = c.read_phdr-p.ensures ∙ ap (λ (h : Ehdr). phdr_at e.image.now (h.phoff + 56 * c.args.i)) e.read in
    subst (λ (p : Phdr). Passed e.flags (length e.image.now) p) (sym here)
    (passed-at e.flags e.image.now c.args.i e.accepted (omega (arith, c.count.ensures, c.if-i-count.false)) (ap loads (sym here) ∙ sym c.is_load.ensures ∙ c.if-not-is_load.false))

pub unwrap-requires : goal.unwrap-requires
unwrap-requires c =
    let p = (passed (goal.at.unwrap-requires c).After-perm).perm in
    rw (c.perm.ensures, ne_eqb (flag_perm c.args.self.now.flags (phdr_of c.read_phdr-p.result)) 0 (λ z. omega arith))

pub returns-clause-checked : goal.returns-clause-checked
returns-clause-checked c = let k = (passed (goal.at.returns-clause-checked c).After-perm).checked in record { file = k.file; within = k.within; end = k.end }
