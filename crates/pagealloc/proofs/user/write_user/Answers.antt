-- `pagealloc::user::write_user` meets its contract. The loop's invariant: the first `i` bytes are written.
use mathlib.Core.Path.{refl, sym, ◌∙◌}
use Prim.Native.Nat.{◌+◌}
use native.Mathlib.Omega.{arith}
use lib.ListN.{length, length-take, length-drop}
use Rattle.spec.specs.Numbers.{page_down}
use Rattle.spec.specs.Frames.{store}
use Rattle.book.proofs.Searches.{Framed}
use Rattle.pagealloc.proofs.Chunks.{frame_at, not-missed, write-none, write-turn, write-all}
use Rattle.pagealloc.proofs.user.write_user.Goals as goal
use Rattle.pagealloc.proofs.user.write_user.Goals.{In-Some}

-- the frame of the next byte's page
framed : (c : In-Some)
    → Framed c.args.book.now c.args.owner
    (page_down (c.args.addr + c.loop-i.i)) c.in-Some.k
framed c =
    let a = c.args in
    frame_at a.book.now a.owner (a.addr + c.loop-i.i) c.page_down.result c.in-Some.k c.page_down.ensures
    (sym c.frame_of.ensures ∙ c.in-Some.is)

pub loop-i-init : goal.loop-i-init
loop-i-init c =
    let a = c.args in
    (omega arith, refl, write-none (store a.frames.now a.book.now) a.owner a.addr a.bytes.now)

pub returns-in_default : goal.returns-in_default
returns-in_default c =
    let a = c.args in
    let l = c.loop-i in
    not-missed a.book.now a.owner a.addr (length a.bytes.now) l.i _ c.requires.mapped (omega arith) c.page_down.ensures
    (sym c.frame_of.ensures ∙ c.in_default.is)

pub phys-requires : goal.phys-requires
phys-requires c =
    let f = framed (goal.at.phys-requires c).In-Some in
    omega arith

pub write_phys-requires : goal.write_phys-requires
write_phys-requires c =
    let f = framed (goal.at.write_phys-requires c).In-Some in
    simp (length-take, length-drop) (omega (arith, c.phys.ensures, c.min.ensures))

pub loop-i-preserved : goal.loop-i-preserved
loop-i-preserved c =
    let f = framed (goal.at.loop-i-preserved c).In-Some in
    let l = c.loop-i in
    let a = c.args in
    let n = c.min.ensures in (
      omega arith,
      omega arith,
      write-turn (store a.frames.now a.book.now) l.frames _ a.book.now a.bytes.now a.owner a.addr l.i _ c.in-Some.k _ (omega arith) l.invariant.2 (omega arith) (omega arith) f.is (omega arith)
          c.phys.ensures c.write_phys.ensures,
    )

pub returns : goal.returns
returns c =
    let a = c.args in
    let l = c.loop-i in
    l.invariant.2 ∙ write-all (store a.frames.now a.book.now) a.owner a.addr l.i a.bytes.now (omega arith)
