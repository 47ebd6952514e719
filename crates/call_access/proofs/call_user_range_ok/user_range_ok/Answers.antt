-- `user_range_ok` meets its contract.
use Prim.Native.Nat.{◌*◌}
use mathlib.Core.Path.{◌≡◌, refl, sym, ◌∙◌}
use mathlib.Core.Bool.{true}
use lib.ListN.{length}
use Rattle.spec.specs.Book.{frame_count, free}
use Rattle.spec.specs.Machine.{Ask, user-range-ok, Reply, outcome, weigh, call}
use Rattle.spec.specs.World.{State, view, leave, Does, state_of}
use Rattle.call_front.proofs.FirstNumbers.{Passed, plain-none, sizes-words}
use Rattle.call_front.proofs.Answers.{plain-refused, plain-goes}
use Rattle.call_front.proofs.Living.{looked-up}
use Rattle.call_access.proofs.Access.{range-yes, range-no}
use Rattle.call_access.proofs.call_user_range_ok.user_range_ok.Goals as goal
use Rattle.call_access.proofs.call_user_range_ok.user_range_ok.Goals.{In_default}

-- where no number came first
module _ (c : In_default) where
  abbrev state : State
  state = state_of c.args.setup c.args.frames.now c.args.book.now c.args.procs

  passed : Passed state c.args.number true
  passed = (plain-none state c.args.number true (sym c.in_default.ensures.value)).0

  sizes : length c.args.frames.now ≡ 4096 * frame_count c.args.book.now
  sizes = (sizes-words c.args.frames.now c.args.book.now passed.sizes).0

  abbrev asked : Ask
  asked = user-range-ok c.args.addr c.args.len c.args.write

  answers : (t : State) (r : Reply) → weigh (view state c.args.number) (free c.args.book.now) 0 asked ≡ r
      → t ≡ leave state (call c.args.number asked) (outcome r) → Does state (call c.args.number asked) t r
  answers = plain-goes state c.args.number asked refl c.in_default.ensures.value

pub invariant_of-pages : goal.invariant_of-pages
invariant_of-pages c =
    let d = (goal.at.invariant_of-pages c).In_default in
    let l = looked-up (state d) c.args.number true c.plain_ready.new.lookup (passed d) c.in_default.ensures.leaves in
    record { accepted = l.0; ready = l.1; numbered = l.2 }

pub returns-in-Err : goal.returns-in-Err
returns-in-Err c =
    let a = c.args in
    rw c.from.ensures (plain-refused _ _ (user-range-ok a.addr a.len a.write) refl c.in-Err.e c.in-Err.ensures.value)

pub returns-in-Ok : goal.returns-in-Ok
returns-in-Ok c =
    let a = c.args in
    let d = (goal.at.returns-in-Ok c).In_default in
    answers d _ _ (range-yes (view (state d) a.number) (free a.book.now) a.write a.addr a.len (sym (c.user_range_ok.ensures a.frames.now) ∙ c.in-Ok.is)) refl

pub returns-in-Err-user_range_ok : goal.returns-in-Err-user_range_ok
returns-in-Err-user_range_ok c =
    let a = c.args in
    let d = (goal.at.returns-in-Err-user_range_ok c).In_default in
    answers d _ _ (range-no (view (state d) a.number) (free a.book.now) a.write a.addr a.len _ (sym (c.user_range_ok.ensures a.frames.now) ∙ c.in-Err-user_range_ok.is)) refl
