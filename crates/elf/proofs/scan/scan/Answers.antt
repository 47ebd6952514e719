-- `scan::scan` meets its contract: a turn is a step of the walk over the headers.
-- Assumes nothing.
use mathlib.Core.Path.{sym, ◌∙◌}
use Rattle.spec.proofs.Bools.{not-true, un_not}
use Prim.Native.Nat.{◌+◌, ◌-◌, ◌*◌}
use native.Mathlib.Omega.{arith}
use Rattle.std.specs.Prelude.{Ok, Err}
use Rattle.std.proofs.lemmas.Result.{err_from_is_err_and}
use Rattle.elf_header.specs.Phdr.{phdr_of}
use Rattle.elf.proofs.Walk.{turn, ends}
use Rattle.elf.proofs.scan.scan.Goals as goal

pub returns-in_err-seen : goal.returns-in_err-seen
returns-in_err-seen c =
    let a = c.args in
    let l = c.loop-i in
    let p = err_from_is_err_and c.from_residual.result c.from_residual.ensures.1 in
    rw (p.1, p.2) (sym (l.invariant ∙ turn a.flags a.image.now a.entry l.seen a.phoff a.phnum l.i (phdr_of c.read_phdr-p.result) (Err c.in_err-seen.field-0.0) (omega arith) c.read_phdr-p.ensures c.in_err-seen.ensures))

pub loop-i-preserved : goal.loop-i-preserved
loop-i-preserved c =
    let a = c.args in
    let l = c.loop-i in
    l.invariant ∙ turn a.flags a.image.now a.entry l.seen a.phoff a.phnum l.i (phdr_of c.read_phdr-p.result) (Ok c.in_ok-seen.seen) (omega arith) c.read_phdr-p.ensures c.in_ok-seen.ensures

pub returns-then-not-seen : goal.returns-then-not-seen
returns-then-not-seen c =
    let a = c.args in
    let l = c.loop-i in
    let f = not-true l.seen.found c.if-not-seen.true in
    sym (l.invariant ∙ ends a.flags a.image.now a.entry l.seen.end l.seen.found (a.phoff + 56 * l.i) (a.phnum - l.i) (omega arith) ∙ rw f)

pub returns : goal.returns
returns c =
    let a = c.args in
    let l = c.loop-i in
    let f = un_not l.seen.found c.if-not-seen.false in
    sym (l.invariant ∙ ends a.flags a.image.now a.entry l.seen.end l.seen.found (a.phoff + 56 * l.i) (a.phnum - l.i) (omega arith) ∙ rw f)
