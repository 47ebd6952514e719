-- `copy_arg` meets its contract: the string is read behind the others, and is weighed before it gets its NUL.
use Prim.Native.Nat.{◌+◌, ◌≤◌}
use native.Mathlib.Omega.{arith}
use mathlib.Core.Path.{◌∙◌}
use Rattle.spec.specs.Numbers.{arg_limit}
use Rattle.spec.specs.Frames.{Mem, mem_of, store}
use Rattle.spec.specs.Access.{Str, copy_str}
use Rattle.spec.specs.Exec.{arg_buffer, stack_size}
use Rattle.exec_args.proofs.Saturated.{saturated-fits}
use Rattle.exec_argv.proofs.Buffered.{str-length, string-most}
use Rattle.exec_argv.proofs.Adding.{read-size, added-fine}
use Rattle.exec_argv.proofs.copy_arg.copy_arg.Goals as goal
use Rattle.exec_argv.proofs.copy_arg.copy_arg.Goals.{In-Ok}

-- where the string has been read
module _ (c : In-Ok) where
  abbrev memory : Mem
  memory = mem_of (store c.args.frames.now c.args.pages.now.book.now) c.args.pages.now.number

  abbrev string : Str
  string = copy_str c.args.pages.now.setup memory (arg_buffer c.args.pages.now.setup) c.args.s

  most : c.in-Ok.n ≤ arg_limit c.args.pages.now.setup
  most = omega (arith, read-size c.args.pages.now.setup string c.args.used c.args.count c.args.buf.now c.read_string.new.buf c.read_string.result c.read_string.ensures c.in-Ok.n c.in-Ok.is, string-most c.args.pages.now.setup memory c.args.s)

pub overflow_add-strings : goal.overflow_add-strings
overflow_add-strings c = omega (arith, most (goal.at.overflow_add-strings c).In-Ok, c.requires.in_bounds.1, c.args.pages.now.accepted)

pub overflow_add-strings-2 : goal.overflow_add-strings-2
overflow_add-strings-2 c = omega (arith, most (goal.at.overflow_add-strings-2 c).In-Ok, c.requires.in_bounds.1, c.args.pages.now.accepted)

pub returns : goal.returns
returns c =
    let d = (goal.at.returns c).In-Ok in
    added-fine c.args.pages.now.setup (string d) c.args.used c.args.count c.args.buf.now c.read_string.new.buf c.read_string.result c.read_string.ensures c.in-Ok.n c.in-Ok.is c.if-n-limit.false
    (omega (arith, c.if-stack_size-limit.false, c.stack_size.ensures ∙ saturated-fits (stack_size (c.args.used + c.in-Ok.n + 1) (c.args.count + 1)) (omega (arith, most d, c.requires.in_bounds.1, c.args.pages.now.accepted))))
    c.requires.in_bounds.0 (str-length c.args.pages.now.setup (memory d) (arg_buffer c.args.pages.now.setup) c.args.s)
