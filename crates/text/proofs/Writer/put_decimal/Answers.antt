-- `text::Writer::put_decimal` meets its contract. The invariant: the digits of what is left, in front of those written.
-- Assumes nothing.
use mathlib.Core.Path.{◌≡◌, sym, ◌∙◌}
use mathlib.Core.List.{[], ◌++◌, append-nil}
use Prim.Native.Nat.{ℕ, ◌+◌, ◌-◌, ◌≤◌}
use native.Mathlib.Omega.{arith}
use lib.ListN.{length, drop, set, length-set, length-take, length-drop}
use lib.Seq.{take_all}
use borrow.Author.Rules.{rules}
use Rattle.spec.specs.Listing.{decimal, decimal_of}
use Rattle.text.specs.Text.{number_text}
use Rattle.text.proofs.Behind.{same_text}
use Rattle.text.proofs.Digits.{digit-turn, digit-end, digits-left}
use Rattle.text.proofs.Writer.put_decimal.Goals as goal

-- before the first digit
start : (n : ℕ) → number_text n ≡ decimal_of 20 n ++ []
unfolding number_text
start n = sym (append-nil (decimal n))

pub loop-m-init : goal.loop-m-init
loop-m-init c = (omega arith, omega arith, omega (arith, c.ranges.n.fits), search rules, start c.args.n)

pub loop-m-smaller : goal.loop-m-smaller
loop-m-smaller c = omega (arith, c.loop-m.invariant.0)

pub loop-m-preserved : goal.loop-m-preserved
loop-m-preserved c =
    let l = c.loop-m in
    let d = digits-left l.m l.i c.loop-m-test.true l.invariant.2 in
    (omega (arith, d.0), omega arith, d.1, simp length-set l.invariant.3, digit-turn _ l.m l.i l.digits l.invariant.0 (omega arith) c.loop-m-test.true l.invariant.4)

pub put-requires : goal.put-requires
put-requires c = simp length-take (omega arith)

pub returns-clause-puts : goal.returns-clause-puts
returns-clause-puts c =
    let l = c.loop-m in
    let a = c.args in
    let digits = set l.digits (l.i - 1) (48 + l.m) in
    let whole = digit-end (number_text a.n) l.m l.i l.digits l.invariant.0 (omega arith) (omega arith) l.invariant.4 in
    let long : length (drop (l.i - 1) digits) ≤ 20 - (l.i - 1) = simp (length-drop, length-set) (omega arith) in
    same_text (take_all _ _ long ∙ sym whole) c.put.ensures.puts

pub returns-clause-upper_bound : goal.returns-clause-upper_bound
returns-clause-upper_bound c = omega (arith, simp length-take at c.put.ensures.puts.place)
