-- `bss_ok` meets its contract: a test that stops the code early fails the whole.
use Prim.Native.Nat.{◌≤◌, ◌<◌}
use native.Mathlib.Omega.{arith}
use borrow.Author.Tests.{lt-ltb, le-ltb}
use Rattle.spec.specs.Numbers.{limit, page_up}
use mathlib.Core.Bool.{and-false, and-true}
use Rattle.sound_records.proofs.Walk.{at_most}
use Rattle.sound_records.proofs.bss_ok.Goals as goal

pub returns-then-limit-end : goal.returns-then-limit-end
returns-then-limit-end c =
    let a = c.args in
    let over : limit a.setup < a.bss.end = omega (arith, c.limit-limit.ensures) in
    simp (lt-ltb _ _ over, and-false)

pub returns-then-end-start : goal.returns-then-end-start
returns-then-end-start c = simp (lt-ltb _ _ c.if-end-start.true, and-false)

pub returns : goal.returns
returns c =
    let b = c.args in
    let low : b.bss.end ≤ limit b.setup = omega (arith, c.limit-limit.ensures) in
    rw (c.page_up-first.ensures, at_most b.setup.utzero b.bss.start, at_most b.low (page_up b.bss.start))
    (simp (le-ltb _ _ low, le-ltb _ _ c.if-end-start.false, and-true))
