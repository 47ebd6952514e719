-- `args::args_size` meets its contract: the tests, in order, on the bytes and lengths themselves.
use mathlib.Core.Path.{sym, ◌∙◌}
use Prim.Native.Nat.{◌+◌}
use native.Mathlib.Omega.{arith}
use lib.ListN.{length}
use Rattle.spec.specs.Numbers.{arg_limit}
use Rattle.spec.specs.Exec.{stack_size}
use Rattle.exec_args.proofs.Saturated.{saturated-above, saturated-within}
use Rattle.exec_args.proofs.Size.{size-unfit, size-nul, size-over, size-within, size-sum}
use Rattle.exec_args.proofs.args.args_size.Goals as goal

pub returns-then-not-lengths_fit : goal.returns-then-not-lengths_fit
returns-then-not-lengths_fit c =
    let a = c.args in
    record { number = sym (size-unfit a.setup a.bytes.now a.lengths.now (sym c.lengths_fit.ensures ∙ c.if-not-lengths_fit.true)); size = tt }

pub returns-then-has_nul : goal.returns-then-has_nul
returns-then-has_nul c =
    let a = c.args in
    record { number = sym (size-nul a.setup a.bytes.now a.lengths.now (sym c.lengths_fit.ensures ∙ c.if-not-lengths_fit.false) (sym c.has_nul.ensures ∙ c.if-has_nul.true)); size = tt }

pub returns-then-stack_size-limit : goal.returns-then-stack_size-limit
returns-then-stack_size-limit c =
    let a = c.args in
    let b = a.bytes.now in
    let l = a.lengths.now in
    record {
      number = sym (size-over a.setup b l (sym c.lengths_fit.ensures ∙ c.if-not-lengths_fit.false) (sym c.has_nul.ensures ∙ c.if-has_nul.false)
          (saturated-above (stack_size (length b + length l) (length l)) (arg_limit a.setup) (omega (arith, c.stack_size.ensures))));
      size = tt;
    }

pub returns : goal.returns
returns c =
    let a = c.args in
    let b = a.bytes.now in
    let l = a.lengths.now in
    let fit = sym c.lengths_fit.ensures ∙ c.if-not-lengths_fit.false in
    record {
      number = sym (size-within a.setup b l fit (sym c.has_nul.ensures ∙ c.if-has_nul.false)
          (saturated-within (stack_size (length b + length l) (length l)) (arg_limit a.setup) (omega arith) (omega (arith, c.stack_size.ensures))));
      size = size-sum a.setup b l fit;
    }
