-- `ones` meets its contract.
use Prim.Native.Nat.{ℕ, ◌-◌, ◌/◌, ◌%◌, ◌^◌}
use native.Mathlib.Omega.{arith}
use mathlib.Core.Path.{sym, ap, ◌∙◌}
use lib.Dec.{eqb}
use lib.Pow.{pow_pos}
use Rattle.spec.specs.Tests.{◌is◌, all_below}
use Rattle.sound_table.proofs.Bits.{shl_one, ones-test, word-full}
use Rattle.sound_table.proofs.ones.Goals as goal

pub returns-then-n-eq64 : goal.returns-then-n-eq64
returns-then-n-eq64 c =
    let a = c.args in
    word-full a.word (omega arith) ∙ ap (λ (n : ℕ). all_below n (λ i. a.word / 2 ^ i % 2 is 1)) (sym c.if-n-eq64.true)

pub nonzero_rem-result : goal.nonzero_rem-result
nonzero_rem-result c = let n = c.args.n in let e = shl_one n (omega arith) in let p = pow_pos n in omega arith

pub overflow_sub-result : goal.overflow_sub-result
overflow_sub-result c = let n = c.args.n in let e = shl_one n (omega arith) in let p = pow_pos n in omega arith

pub returns : goal.returns
returns c =
    let a = c.args in
    ap (λ (x : ℕ). eqb (a.word % x) (x - 1)) (shl_one a.n (omega arith)) ∙ ones-test a.n a.word
