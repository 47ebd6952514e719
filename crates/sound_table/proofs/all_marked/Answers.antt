-- `all_marked` meets its contract: `ok` is the test of the ranks of the words below j.
use Prim.Native.Nat.{ℕ, ◌+◌, ◌*◌, ◌/◌, ◌%◌}
use native.Mathlib.Omega.{arith}
use mathlib.Core.Path.{◌≡◌, ap, ap₂, ◌∙◌}
use mathlib.Core.Bool.{◌&&◌}
use Rattle.spec.specs.Tests.{all_below}
use Rattle.sound_table.specs.Table.{marked}
use Rattle.sound_table.proofs.Bits.{word_more}
use Rattle.sound_table.proofs.all_marked.Goals as goal

pub loop-j-preserved : goal.loop-j-preserved
loop-j-preserved c =
    let l = c.loop-j in
    let bits = c.args.bits.now in
    let e : 64 * l.j + 64 ≡ 64 * (l.j + 1) = omega arith in
    ap₂ ◌&&◌ c.ones-ok.ensures l.invariant ∙ word_more bits l.j 64 (omega arith) ∙ ap (λ (n : ℕ). all_below n (marked bits)) e

pub returns-then-rest-eq0 : goal.returns-then-rest-eq0
returns-then-rest-eq0 c =
    let l = c.loop-j in
    let a = c.args in
    let e : 64 * l.j ≡ a.total = omega arith in
    l.invariant ∙ ap (λ (n : ℕ). all_below n (marked a.bits.now)) e

pub returns : goal.returns
returns c =
    let l = c.loop-j in
    let a = c.args in
    let bits = a.bits.now in
    let j : l.j ≡ a.total / 64 = omega arith in
    let e : 64 * (a.total / 64) + a.total % 64 ≡ a.total = omega arith in
    ap₂ ◌&&◌ c.ones.ensures (l.invariant ∙ ap (λ (i : ℕ). all_below (64 * i) (marked bits)) j) ∙ word_more bits (a.total / 64) (a.total % 64) (omega arith) ∙ ap (λ (n : ℕ). all_below n (marked bits)) e
