-- `push_ok` meets its contract: where both ranges pass, every copy does; otherwise the copies decide.
use Prim.Native.Nat.{ℕ, ◌+◌, ◌*◌, ◌-◌}
use mathlib.Core.Path.{◌≡◌, sym, ap, ◌∙◌}
use mathlib.Core.Bool.{true, false}
use mathlib.Core.List.{List}
use lib.ListN.{length}
use Rattle.std.proofs.Common.{rules}
use Rattle.spec.specs.Frames.{Mem, mem_of, store}
use Rattle.spec.specs.Access.{access}
use Rattle.spec.specs.Exec.{first_bad}
use Rattle.spec.specs.declared.UserRegs.{UserRegs}
use Rattle.uaccess.proofs.Checks.{checked_ok}
use Rattle.exec_args.specs.Sizes.{below_zero_by, argv_by, copies_by}
use Rattle.call_push.proofs.Ranges.{ok-low, ok-ranges, ok-copies}
use Rattle.call_push.proofs.push_args.push_ok.Goals as goal
use Rattle.call_push.proofs.push_args.push_ok.Goals.{After-registers-regs, Else-below_zero, Start}

abbrev memory : Start → List ℕ → Mem
memory s frames = mem_of (store frames s.args.pages.now.book.now) s.args.pages.now.number

-- there is room above address 0
above_zero : (c : Else-below_zero) → below_zero_by c.args.top c.args.size (length c.args.lengths.now) ≡ false
above_zero c = sym c.below_zero.ensures ∙ c.if-below_zero.false

-- the pointers' place
argv-is : (c : After-registers-regs) → let a = c.args in c.registers-regs.result.argv ≡ argv_by a.top a.size (length a.lengths.now)
argv-is c = ap (λ (r : UserRegs). r.argv) c.registers-regs.ensures

pub returns-then-below_zero : goal.returns-then-below_zero
returns-then-below_zero c frames bytes sums =
    ok-low c.args.pages.now.setup (memory (goal.at.returns-then-below_zero c).Start frames) c.args.top c.args.size bytes c.args.lengths.now sums c.requires (sym c.below_zero.ensures ∙ c.if-below_zero.true)

pub returns-then-is_ok-2 : goal.returns-then-is_ok-2
returns-then-is_ok-2 c frames bytes sums =
    let u = c.args.pages.now in
    let mem = memory (goal.at.returns-then-is_ok-2 c).Start frames in
    let d = (goal.at.returns-then-is_ok-2 c).After-registers-regs in
    ok-ranges u.setup mem c.args.top c.args.size bytes c.args.lengths.now sums c.requires (above_zero (goal.at.returns-then-is_ok-2 c).Else-below_zero)
    (sym (c.user_range_ok.ensures frames) ∙ checked_ok c.user_range_ok.result (search rules))
    (ap (λ (a : ℕ). access u.setup mem true a (8 * (length c.args.lengths.now + 1))) (sym (argv-is d)) ∙ sym (c.user_range_ok-then-is_ok.ensures frames) ∙ checked_ok c.user_range_ok-then-is_ok.result (search rules))

pub returns : goal.returns
returns c frames bytes sums =
    let u = c.args.pages.now in
    let mem = memory (goal.at.returns c).Start frames in
    c.copies_ok.ensures frames
    ∙ ap (λ (p : ℕ). first_bad u.setup mem (copies_by (c.args.top - c.args.size) p c.args.lengths.now)) (argv-is (goal.at.returns c).After-registers-regs)
    ∙ ok-copies u.setup mem c.args.top c.args.size bytes c.args.lengths.now sums c.requires (above_zero (goal.at.returns c).Else-below_zero)
