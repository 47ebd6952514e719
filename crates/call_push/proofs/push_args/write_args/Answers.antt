-- `write_args` meets its contract. The check looks at the book alone, so that the pointers' range still passes once the strings are
-- written.
use mathlib.Core.Path.{◌≡◌, sym, ap, ap₂, ◌∙◌}
use Prim.Native.Nat.{ℕ, ◌+◌, ◌*◌, ◌-◌, ◌/◌, ◌≤◌}
use native.Mathlib.Omega.{arith}
use mathlib.Core.Bool.{true}
use mathlib.Core.List.{List}
use lib.ListN.{length, take, drop}
use lib.Seq.{length-take-le}
use borrow.Rule.Slice.PartMut.{mid_len}
use Rattle.spec.specs.Frames.{mem_of, pokes, store}
use Rattle.spec.specs.Access.{user_range_ok}
use Rattle.spec.specs.declared.UserRegs.{UserRegs}
use Rattle.exec_args.specs.Sizes.{argv_by}
use Rattle.exec_args.proofs.Places.{low-room, registers-at}
use Rattle.exec_args.specs.Laid.{Laid}
use Rattle.exec_args.proofs.Pushed.{behind, written}
use Rattle.call_push.proofs.Ranges.{Allowed, allowed}
use Rattle.call_push.proofs.push_args.write_args.Goals as goal
use Rattle.call_push.proofs.push_args.write_args.Goals.{After-registers-regs, Start}

-- what the arguments and the check before tell
module _ (s : Start) where
  abbrev buf : List ℕ
  buf = s.args.buf.now

  laid : Laid s.args.top s.requires.by_index.0 s.args.size buf
  laid = s.requires.by_index.1

  abbrev end : ℕ
  end = s.args.size + 8 * (s.args.nargs + 1)

  all : end ≤ length buf
  all = omega (arith, laid.fits, s.requires.by_index.2)

  ok : (f : List ℕ) → Allowed s.args.pages.now.setup (mem_of (store f s.args.pages.now.book.now) s.args.pages.now.number) s.args.top s.args.size s.args.nargs
  ok f = allowed s.args.pages.now.setup (mem_of (store f s.args.pages.now.book.now) s.args.pages.now.number) s.args.top s.args.size s.args.nargs s.requires.by_index.0 (sym laid.sized) s.requires.by_index.2 s.requires.by_index.3 (s.requires.by_index.4 f)

  room : 8 * (s.args.nargs + 1) ≤ (s.args.top - s.args.size) / 8 * 8
  room = low-room s.args.top s.args.size s.args.nargs (ok s.args.frames.now).above_zero

  length-strings : length (take s.args.size buf) ≡ s.args.size
  length-strings = length-take-le s.args.size buf (omega (arith, all))

-- the address of the pointers
argv-is : (c : After-registers-regs) → let a = c.args in c.registers-regs.result.argv ≡ argv_by a.top a.size a.nargs
argv-is c = ap (λ (r : UserRegs). r.argv) c.registers-regs.ensures

pub registers-regs-requires : goal.registers-regs-requires
registers-regs-requires c = (ok (goal.at.registers-regs-requires c).Start c.args.frames.now).above_zero

pub overflow_sub-top : goal.overflow_sub-top
overflow_sub-top c = omega (arith, room (goal.at.overflow_sub-top c).Start)

pub write_user-requires-clause-in_range : goal.write_user-requires-clause-in_range
write_user-requires-clause-in_range c =
    let a = c.args in
    let u = a.pages.now in
    let s = (goal.at.write_user-requires-clause-in_range c).Start in
    ap (user_range_ok u.setup (mem_of (store a.frames.now u.book.now) u.number) true (a.top - a.size)) (length-strings s) ∙ (ok s a.frames.now).strings-range

pub write_user-requires-2-clause-in_range : goal.write_user-requires-2-clause-in_range
write_user-requires-2-clause-in_range c =
    let a = c.args in
    let u = a.pages.now in
    let s = (goal.at.write_user-requires-2-clause-in_range c).Start in
    let w = c.write_user in
    let n : length (take (end s - a.size) (drop a.size (buf s))) ≡ 8 * (a.nargs + 1) = mid_len a.size (end s) (buf s) (all s) ∙ omega arith in
    ap₂ (user_range_ok u.setup (mem_of (store w.new.frames u.book.now) u.number) true) (argv-is (goal.at.write_user-requires-2-clause-in_range c).After-registers-regs) n ∙ (ok s w.new.frames).pointers-range

pub returns : goal.returns
returns c = λ args f n.
    let a = c.args in
    let u = a.pages.now in
    let s = (goal.at.returns c).Start in
    let m = store c.write_user.new.frames u.book.now in (
      written a.top a.size a.nargs (buf s) args f n (store a.frames.now u.book.now) m _ u.number c.write_user.ensures
          (c.write_user-2.ensures ∙ ap (λ (x : ℕ). pokes m u.number x (behind a.top a.size a.nargs (buf s) args f n)) (argv-is (goal.at.returns c).After-registers-regs)),
      c.registers-regs.ensures ∙ sym (registers-at args a.size a.nargs (sym f.sized) n a.pc a.top),
    )
