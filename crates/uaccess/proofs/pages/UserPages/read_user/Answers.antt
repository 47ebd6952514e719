-- `read_user` meets its contract. The loop's invariant: the first `i` bytes are read, and the others as they were.
use Prim.Native.Nat.{◌+◌, ◌-◌, ◌≤◌}
use native.Mathlib.Omega.{arith}
use mathlib.Core.Path.{◌≡◌, refl, sym, ap, ◌∙◌}
use mathlib.Core.Bool.{false}
use lib.ListN.{length}
use borrow.Rule.Slice.PartMut.{mid_len}
use Rattle.spec.specs.Numbers.{max_top}
use Rattle.spec.specs.Frames.{Mem, mem_of, store}
use Rattle.spec.specs.Access.{byte_of}
use Rattle.spec_laws.proofs.Contents.{length-bytes}
use Rattle.uaccess.proofs.InRange.{range-cell, range-end}
use Rattle.uaccess.proofs.CopyParts.{read-turn}
use Rattle.spec_laws.proofs.Overwrite.{mix-none, mix_all}
use Rattle.uaccess.proofs.pages.UserPages.read_user.Goals as goal
use Rattle.uaccess.proofs.pages.UserPages.read_user.Goals.{Start}

-- the range that has been checked
module _ (c : Start) where
  abbrev memory : Mem
  memory = mem_of (store c.args.frames.now c.args.self.now.book.now) c.args.self.now.number

  top : c.args.addr + length c.args.buf.now ≤ max_top
  top = omega (arith, c.args.self.now.accepted, range-end c.args.self.now.setup memory false c.args.addr (length c.args.buf.now) c.requires.in_range)

pub loop-i-init : goal.loop-i-init
loop-i-init c = (omega arith, refl, mix-none _ _)

pub overflow_add-va : goal.overflow_add-va
overflow_add-va c = omega (arith, top (goal.at.overflow_add-va c).Start)

pub user_bytes-requires-clause-n_bound : goal.user_bytes-requires-clause-n_bound
user_bytes-requires-clause-n_bound c =
    let a = c.args in
    let u = a.self.now in
    let i = c.loop-i.i in
    (omega (arith, c.in_page-n.ensures), range-cell u.setup a.frames.now a.frames.now u.book.now u.number false a.addr (length a.buf.now) (a.addr + i) c.requires.in_range (omega arith) (omega arith))

pub copy_from_slice-requires : goal.copy_from_slice-requires
copy_from_slice-requires c =
    let l = c.loop-i in
    let n = c.in_page-n.result in
    let q : l.i + n - l.i ≡ n = omega arith in
    mid_len l.i (l.i + n) l.buf (omega (arith, c.in_page-n.ensures)) ∙ q
    ∙ sym (ap length c.user_bytes.ensures ∙ length-bytes (λ b. byte_of (memory (goal.at.copy_from_slice-requires c).Start b)) (c.args.addr + l.i) n)

pub loop-i-preserved : goal.loop-i-preserved
loop-i-preserved c =
    let a = c.args in
    let l = c.loop-i in
    let n = c.in_page-n in (
      omega (arith, n.ensures),
      omega arith,
      rw l.invariant.2 (read-turn (memory (goal.at.loop-i-preserved c).Start) a.addr l.i n.result a.buf.now _ (omega (arith, n.ensures)) (c.copy_from_slice.ensures.after ∙ c.user_bytes.ensures)),
    )

pub returns : goal.returns
returns c =
    let a = c.args in
    let w = length-bytes (λ b. byte_of (memory (goal.at.returns c).Start b)) a.addr (length a.buf.now) in
    c.loop-i.invariant.2 ∙ mix_all _ _ _ (omega arith) (omega arith)
