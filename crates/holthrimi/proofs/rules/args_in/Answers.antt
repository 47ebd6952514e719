-- `args_in` meets its contract.
use Rattle.std.proofs.Common.{◌≡◌, refl, sym, ◌∙◌, rules}
use borrow.Author.Tests.{eqb-true}
use Rattle.spec.specs.Numbers.{setup_error}
use Rattle.spec.specs.Refusals.{number_of}
use Rattle.spec.proofs.Chain.{number-next}
use Rattle.exec_args.specs.Sizes.{size_error}
use Rattle.exec_args.proofs.Size.{size_number}
use Rattle.holthrimi.proofs.rules.args_in.Goals as goal

pub returns-in_err-args_size : goal.returns-in_err-args_size
returns-in_err-args_size c =
    let a = c.args in
    let fit = sym c.lengths_fit.ensures ∙ c.if-not-lengths_fit.false in
    let e : number_of c.from_residual-in_err-args_size.result ≡ size_error a.setup a.bytes.now a.lengths.now = search rules in
    rw fit (number-next (setup_error a.setup) _ _ _ refl (sym c.in_ok-check.ensures) (e ∙ size_number _ _ _ (eqb-true _ _ fit)))

pub returns : goal.returns
returns c =
    let a = c.args in
    let fit = sym c.lengths_fit.ensures ∙ c.if-not-lengths_fit.false in
    rw fit (number-next (setup_error a.setup) _ _ 0 refl (sym c.in_ok-check.ensures) (c.in_ok-args_size.ensures.number ∙ size_number _ _ _ (eqb-true _ _ fit)))
