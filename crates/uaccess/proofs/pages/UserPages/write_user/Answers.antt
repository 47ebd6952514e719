-- `write_user` meets its contract. The loop's invariant: the first `i` bytes are written.
use Prim.Native.Nat.{◌+◌, ◌-◌, ◌≤◌}
use native.Mathlib.Omega.{arith}
use mathlib.Core.Path.{◌≡◌, refl, ap, ◌∙◌}
use mathlib.Core.Bool.{true}
use lib.ListN.{length}
use lib.Seq.{take_all}
use borrow.Rule.Slice.PartMut.{mid_len}
use Rattle.spec.specs.Numbers.{max_top}
use Rattle.spec.specs.Frames.{mem_of, pokes, store}
use Rattle.uaccess.proofs.InRange.{range-cell, range-end}
use Rattle.uaccess.proofs.CopyParts.{write-turn}
use Rattle.uaccess.proofs.pages.UserPages.write_user.Goals as goal
use Rattle.uaccess.proofs.pages.UserPages.write_user.Goals.{Start}

-- the range that has been checked
top : (c : Start) → c.args.addr + length c.args.bytes.now ≤ max_top
top c =
    let u = c.args.self.now in
    omega (arith, u.accepted, range-end u.setup (mem_of (store c.args.frames.now u.book.now) u.number) true c.args.addr (length c.args.bytes.now) c.requires.in_range)

pub loop-i-init : goal.loop-i-init
unfolding pokes
loop-i-init c = (omega arith, refl, refl)

pub overflow_add-va : goal.overflow_add-va
overflow_add-va c = omega (arith, top (goal.at.overflow_add-va c).Start)

pub write_part-requires-clause-bytes_bound : goal.write_part-requires-clause-bytes_bound
write_part-requires-clause-bytes_bound c =
    let a = c.args in
    let u = a.self.now in
    let l = c.loop-i in
    let n = c.in_page-n in
    let q : l.i + n.result - l.i ≡ n.result = omega arith in
    let w = mid_len l.i (l.i + n.result) a.bytes.now (omega (arith, n.ensures)) in (
      omega (arith, n.ensures, w, q),
      range-cell u.setup a.frames.now l.frames u.book.now u.number true a.addr (length a.bytes.now) (a.addr + l.i) c.requires.in_range (omega arith) (omega arith),
    )

pub loop-i-preserved : goal.loop-i-preserved
loop-i-preserved c =
    let a = c.args in
    let u = a.self.now in
    let l = c.loop-i in
    let n = c.in_page-n in (
      omega (arith, n.ensures),
      omega arith,
      write-turn (store a.frames.now u.book.now) (store l.frames u.book.now) _ u.number a.addr l.i n.result a.bytes.now (omega (arith, n.ensures)) l.invariant.2 c.write_part.ensures,
    )

pub returns : goal.returns
returns c =
    let bytes = c.args.bytes.now in
    c.loop-i.invariant.2 ∙ ap (pokes _ _ _) (take_all c.loop-i.i bytes (omega arith))
