-- `user_range_ok` meets its contract. The loop's invariant: the addresses of the pages before `va` are allowed.
use Prim.Native.Nat.{ℕ}
use native.Mathlib.Omega.{arith}
use mathlib.Core.Path.{sym, ◌∙◌}
use mathlib.Core.List.{List}
use Rattle.spec.specs.Frames.{Mem, mem_of, store}
use Rattle.spec.proofs.Ranges.{bad-above, bad-at, bad-top, fine-all}
use Rattle.spec_laws.proofs.Allowed.{cell-page}
use Rattle.uaccess.proofs.InRange.{Paged, page-bad}
use Rattle.uaccess.proofs.pages.UserPages.user_range_ok.Goals as goal
use Rattle.uaccess.proofs.pages.UserPages.user_range_ok.Goals.{Start}

-- the memory that is checked
module _ (c : Start) (frames : List ℕ) where
  abbrev mem : Mem
  mem = mem_of (store frames c.args.self.now.book.now) c.args.self.now.number

  paged : Paged mem
  paged a write = cell-page (store frames c.args.self.now.book.now) c.args.self.now.number a write

pub returns-then-addr-top : goal.returns-then-addr-top
returns-then-addr-top c frames = sym (bad-above c.args.self.now.setup (mem (goal.at.returns-then-addr-top c).Start frames) c.args.write c.args.addr c.args.len (omega arith))

pub returns-then-len-eq0 : goal.returns-then-len-eq0
returns-then-len-eq0 c frames = sym (fine-all c.args.self.now.setup (mem (goal.at.returns-then-len-eq0 c).Start frames) c.args.write c.args.addr c.args.len (omega arith) (λ b l u. absurd (omega arith)))

-- a page that isn't allowed is bad at its first address in the range
pub returns-then-not-user_page_ok : goal.returns-then-not-user_page_ok
returns-then-not-user_page_ok c frames =
    let u = c.args.self.now in
    let s = (goal.at.returns-then-not-user_page_ok c).Start in
    sym (bad-at u.setup (mem s frames) c.args.write c.args.addr c.args.len c.max.result (omega (arith, c.max.ensures)) (omega (arith, c.max.ensures, c.min.ensures)) (omega (arith, c.max.ensures, c.min.ensures, u.accepted, c.loop-va.invariant.1))
    (page-bad (mem s frames) (paged s frames) c.args.write c.loop-va.va c.max.result (omega (arith, c.max.ensures, c.loop-va.invariant.0, c.loop-va.invariant.1)) (sym (c.user_page_ok.ensures frames) ∙ c.if-not-user_page_ok.true))
    (λ b x y. c.loop-va.invariant.2 frames b (omega arith) (omega (arith, c.max.ensures))))

pub returns-then-len-room : goal.returns-then-len-room
returns-then-len-room c frames =
    let u = c.args.self.now in
    sym (bad-top u.setup (mem (goal.at.returns-then-len-room c).Start frames) c.args.write c.args.addr c.args.len (omega arith) (omega arith) (λ b x y. c.loop-va.invariant.2 frames b (omega arith) (omega (arith, c.min.ensures))))

pub returns : goal.returns
returns c frames =
    let u = c.args.self.now in
    sym (fine-all u.setup (mem (goal.at.returns c).Start frames) c.args.write c.args.addr c.args.len (omega arith) (λ b x y. c.loop-va.invariant.2 frames b (omega arith) (omega (arith, c.min.ensures))))
