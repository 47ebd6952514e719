-- `numbers::setup_ok` meets its contract, test by test; a stack that starts below 8,192 leaves no room for text.
use Prim.Native.Nat.{ℕ, ◌+◌, ◌-◌, ◌^◌, ◌≤◌, ◌<◌}
use native.Mathlib.Omega.{arith}
use mathlib.Core.Path.{◌≡◌}
use mathlib.Core.Bool.{false, not, and-false}
use lib.Dec.{leb}
use borrow.Author.Tests.{leb-true, leb-false, lt-ltb, le-ltb}
use Rattle.spec.specs.Tests.{◌above◌}
use Rattle.spec.specs.Numbers.{setup_ok}
use Rattle.spec.proofs.Bools.{split, at_most}
use Rattle.setup.proofs.setup_ok.Goals as goal

room-none : (z s : ℕ) → s < 8192 → not (z + 8192 above s) ≡ false
room-none z s h = rw (lt-ltb s (z + 8192) (omega arith))

room-test : (z s : ℕ) → 8192 ≤ s → leb z (s - 8192) ≡ not (z + 8192 above s)
room-test z s h =
    split (leb z (s - 8192))
    (λ q. let l = leb-true z (s - 8192) q in rw (q, le-ltb s (z + 8192) (omega arith)))
    (λ q. let l = leb-false z (s - 8192) q in rw (q, lt-ltb s (z + 8192) (omega arith)))

pub returns-then-ustktop-ustksize : goal.returns-then-ustktop-ustksize
unfolding setup_ok
returns-then-ustktop-ustksize c =
    let s = c.args.setup in
    simp (le-ltb s.ustksize s.ustktop (omega arith), and-false)

pub returns-then-ustktop-ustksize-lt8192 : goal.returns-then-ustktop-ustksize-lt8192
unfolding setup_ok
returns-then-ustktop-ustksize-lt8192 c =
    let s = c.args.setup in
    simp (room-none s.utzero (s.ustktop - s.ustksize) c.if-ustktop-ustksize-lt8192.true, and-false)

pub returns : goal.returns
unfolding setup_ok
returns c =
    let s = c.args.setup in
    rw (at_most 4096 s.utzero, at_most 4096 s.ustksize, at_most s.ustksize 65536, room-test s.utzero (s.ustktop - s.ustksize) c.if-ustktop-ustksize-lt8192.false, at_most s.ustktop s.uaddrtop, at_most s.uaddrtop (2 ^ 47))
