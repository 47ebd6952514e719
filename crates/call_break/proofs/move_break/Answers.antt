-- `move_break` meets its contract: the pages move, and the record has the new end.
use Prim.Native.Nat.{◌%◌}
use native.Mathlib.Omega.{arith}
use mathlib.Core.Path.{ap, ◌∙◌}
use Rattle.spec.specs.World.{brk, state_of}
use Rattle.spec.specs.declared.Proc.{Proc}
use Rattle.spec.proofs.Bools.{within-means}
use Rattle.call_front.proofs.States.{state-is}
use Rattle.call_break.proofs.move_break.Goals as goal

pub move_pages-requires : goal.move_pages-requires
move_pages-requires c =
    let n = within-means 1 17 c.args.number c.requires.frames_len.1 in
    record { frames_len = (c.requires.frames_len.0, omega arith, omega arith); value = (ap (λ (p : Proc). p.bss.end % 4096) c.proc_at-p.ensures ∙ c.requires.number_value.0, c.requires.number_value.1, c.requires.number_value.2) }

pub returns : goal.returns
returns c setup =
    let a = c.args in
    let from = state_of setup a.frames.now a.book.now a.procs.now in
    state-is _ _ _ _ _ c.move_pages.ensures c.with_proc.ensures
    ∙ ap (λ (p : Proc). brk from a.number p a.top) c.proc_at-p.ensures
