-- `copy_argv` meets its contract. The loop's invariant: the strings of the first `count` arguments stand over the first `used` bytes of
-- the buffer, within the limit, and the definition goes on from them.
use Prim.Native.Nat.{ℕ, ◌+◌, ◌*◌}
use native.Mathlib.Omega.{arith}
use mathlib.Core.Path.{◌≡◌, ap, ◌∙◌}
use Rattle.std.proofs.Common.{rules}
use lib.ListN.{length, replicate}
use Rattle.std.specs.Prelude.{Option, Some, Result, Ok, Err}
use Rattle.std.proofs.lemmas.Result.{err_from_is_err_and}
use Rattle.spec.specs.Frames.{Mem, mem_of, store}
use Rattle.exec_args.specs.Sizes.{saturated}
use Rattle.exec_argv.specs.Places.{pointer_at}
use Rattle.exec_argv.proofs.SoFar.{none_yet, so-bad, so-null, so-string-refused, so-next}
use Rattle.exec_argv.proofs.copy_argv.Goals as goal
use Rattle.exec_argv.proofs.copy_argv.Goals.{After-read_pointer, In-Ok-Some, Start}

abbrev memory : Start → Mem
memory c = mem_of (store c.args.frames.now c.args.pages.now.book.now) c.args.pages.now.number

-- where a pointer has been read
module _ (c : After-read_pointer) where
  pointer : c.read_pointer.result ≡ pointer_at c.args.pages.now.setup (memory (goal.at.After-read_pointer c).Start) (saturated (c.args.argv + 8 * c.loop-s.count))
  pointer = c.read_pointer.ensures ∙ ap (pointer_at c.args.pages.now.setup (memory (goal.at.After-read_pointer c).Start)) c.pointer_addr.ensures

-- and is a string's
module _ (c : In-Ok-Some) where
  points : ◌≡◌ {A = Result (Option ℕ) ℕ} c.read_pointer.result (Ok (Some c.in-Ok-Some.s))
  points = c.in-Ok-Some.is ∙ ap Ok c.in-Ok-Some.field-0-is

pub loop-s-init : goal.loop-s-init
loop-s-init c =
    none_yet c.args.pages.now.setup c.args.pages.now.accepted (memory (goal.at.loop-s-init c).Start) c.args.argv c.args.buf.now c.requires.in_bounds (omega arith)

pub returns-in-Err : goal.returns-in-Err
returns-in-Err c =
    let i = c.loop-s in
    let zeros : c.fill.new.self ≡ replicate (length i.buf) 0 = search rules in
    so-bad (memory (goal.at.returns-in-Err c).Start) c.args.argv c.args.buf.now i.buf i.used i.count i.invariant c.read_pointer.result (pointer (goal.at.returns-in-Err c).After-read_pointer) c.in-Err.address c.in-Err.is c.fill.new.self zeros

pub returns-in-Ok-None : goal.returns-in-Ok-None
returns-in-Ok-None c =
    let i = c.loop-s in
    so-null (memory (goal.at.returns-in-Ok-None c).Start) c.args.argv c.args.buf.now i.buf i.used i.count i.invariant c.read_pointer.result (pointer (goal.at.returns-in-Ok-None c).After-read_pointer) (c.in-Ok-None.is ∙ ap Ok c.in-Ok-None.field-0-is)

pub returns-in_err-size : goal.returns-in_err-size
returns-in_err-size c =
    let i = c.loop-s in
    let r = err_from_is_err_and c.from_residual.result c.from_residual.ensures.1 in
    so-string-refused (memory (goal.at.returns-in_err-size c).Start) c.args.argv c.args.buf.now i.buf i.used i.count i.invariant c.read_pointer.result (pointer (goal.at.returns-in_err-size c).After-read_pointer)
    c.in-Ok-Some.s (points (goal.at.returns-in_err-size c).In-Ok-Some) c.copy_arg.result c.copy_arg.new.buf c.copy_arg.ensures c.in_err-size.field-0.0 c.in_err-size.was c.from_residual.result (r.1 ∙ ap Err r.2)

pub loop-s-preserved : goal.loop-s-preserved
loop-s-preserved c =
    let i = c.loop-s in
    so-next (memory (goal.at.loop-s-preserved c).Start) c.args.argv c.args.buf.now i.buf i.used i.count i.invariant c.read_pointer.result (pointer (goal.at.loop-s-preserved c).After-read_pointer)
    c.in-Ok-Some.s (points (goal.at.loop-s-preserved c).In-Ok-Some) c.copy_arg.result c.copy_arg.new.buf c.copy_arg.ensures c.in_ok-size.size c.in_ok-size.was
