-- `installer::push_args` meets its contract: strings and pointers lie inside the stack, and each is written from its part of the buffer.
use mathlib.Core.Path.{◌≡◌, sym, ap, ◌∙◌}
use Prim.Native.Nat.{ℕ, ◌+◌, ◌-◌, ◌*◌, ◌/◌, ◌≤◌}
use native.Mathlib.Omega.{arith}
use mathlib.Core.List.{List}
use lib.ListN.{length, take, drop}
use lib.Seq.{length-take-le}
use borrow.Rule.Slice.PartMut.{mid_len}
use Rattle.spec.specs.Frames.{pokes, store}
use Rattle.spec.specs.declared.UserRegs.{UserRegs}
use Rattle.exec_args.specs.Sizes.{argv_by}
use Rattle.exec_args.proofs.Places.{registers-at}
use Rattle.exec_args.proofs.Pushed.{behind, written}
use Rattle.exec_load.specs.Installing.{Fitting}
use Rattle.exec_load.proofs.Pushing.{inside, push-above, argv-low, argv-high}
use Rattle.exec_load.proofs.installer.push_args.Goals as goal
use Rattle.exec_load.proofs.installer.push_args.Goals.{After-registers-regs, Start}

-- what arguments that pass tell
module _ (s : Start) where
  abbrev buf : List ℕ
  buf = s.args.buf.now

  fit : Fitting s.args.setup s.requires.by_index.0 buf s.args.size s.args.nargs
  fit = s.requires.by_index.1

  abbrev end : ℕ
  end = s.args.size + 8 * (s.args.nargs + 1)

  all : end ≤ length buf
  all = omega (arith, fit.laid.fits, fit.counted)

  low : s.args.setup.ustktop - s.args.setup.ustksize ≤ argv_by s.args.setup.ustktop s.args.size s.args.nargs
  low = argv-low s.requires.frames_len.3 s.requires.by_index.0 buf s.args.size s.args.nargs fit

  high : 8 * (s.args.nargs + 1) ≤ (s.args.setup.ustktop - s.args.size) / 8 * 8
  high = argv-high s.requires.frames_len.3 s.requires.by_index.0 buf s.args.size s.args.nargs fit

  length-strings : length (take s.args.size buf) ≡ s.args.size
  length-strings = length-take-le s.args.size buf (omega (arith, all))

-- the address of the pointers
argv-is : (c : After-registers-regs) → let a = c.args in c.registers-regs.result.argv ≡ argv_by a.setup.ustktop a.size a.nargs
argv-is c = ap (λ (r : UserRegs). r.argv) c.registers-regs.ensures

pub registers-regs-requires : goal.registers-regs-requires
registers-regs-requires c = push-above c.requires.frames_len.3 c.requires.by_index.0 (buf (goal.at.registers-regs-requires c).Start) c.args.size c.args.nargs (fit (goal.at.registers-regs-requires c).Start)

pub overflow_sub-s : goal.overflow_sub-s
overflow_sub-s c = omega (arith, high (goal.at.overflow_sub-s c).Start)

pub slice_bounds-write_user-end : goal.slice_bounds-write_user-end
slice_bounds-write_user-end c = sym (length-strings (goal.at.slice_bounds-write_user-end c).Start)

pub write_user-requires : goal.write_user-requires
write_user-requires c =
    let a = c.args in
    let p = c.requires.frames_len in
    record { frames_len = (p.0, p.1, p.2, omega (arith, length-strings (goal.at.write_user-requires c).Start, high (goal.at.write_user-requires c).Start, p.3)); mapped = inside a.setup p.3 a.book.now a.number (a.setup.ustktop - a.size) (length (take a.size (buf (goal.at.write_user-requires c).Start))) c.requires.mapped (omega (arith, low (goal.at.write_user-requires c).Start, high (goal.at.write_user-requires c).Start)) (omega (arith, length-strings (goal.at.write_user-requires c).Start, high (goal.at.write_user-requires c).Start)) }

pub write_user-requires-2 : goal.write_user-requires-2
write_user-requires-2 c =
    let a = c.args in
    let p = c.requires.frames_len in
    let w = c.write_user in
    let n : length (take (end (goal.at.write_user-requires-2 c).Start - a.size) (drop a.size (buf (goal.at.write_user-requires-2 c).Start))) ≡ end (goal.at.write_user-requires-2 c).Start - a.size = mid_len a.size (end (goal.at.write_user-requires-2 c).Start) (buf (goal.at.write_user-requires-2 c).Start) (all (goal.at.write_user-requires-2 c).Start) in
    record { frames_len = (w.auto.frames ∙ p.0, p.1, p.2, omega (arith, n, argv-is (goal.at.write_user-requires-2 c).After-registers-regs, high (goal.at.write_user-requires-2 c).Start, p.3)); mapped = inside a.setup p.3 a.book.now a.number c.registers-regs.result.argv (length (take (end (goal.at.write_user-requires-2 c).Start - a.size) (drop a.size (buf (goal.at.write_user-requires-2 c).Start)))) c.requires.mapped (omega (arith, argv-is (goal.at.write_user-requires-2 c).After-registers-regs, low (goal.at.write_user-requires-2 c).Start)) (omega (arith, n, argv-is (goal.at.write_user-requires-2 c).After-registers-regs, high (goal.at.write_user-requires-2 c).Start)) }

pub returns : goal.returns
returns c = λ args f.
    let a = c.args in
    let m = store c.write_user.new.frames a.book.now in (
      written a.setup.ustktop a.size a.nargs (buf (goal.at.returns c).Start) args f.laid f.counted (store a.frames.now a.book.now) m _ a.number c.write_user.ensures
          (c.write_user-2.ensures ∙ ap (λ (x : ℕ). pokes m a.number x (behind a.setup.ustktop a.size a.nargs (buf (goal.at.returns c).Start) args f.laid f.counted)) (argv-is (goal.at.returns c).After-registers-regs)),
      c.registers-regs.ensures ∙ sym (registers-at args a.size a.nargs (sym f.laid.sized) f.counted a.pc a.setup.ustktop),
    )
