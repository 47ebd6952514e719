-- `try_copy_str_from_user` meets its contract.
use Prim.Native.Nat.{◌*◌}
use mathlib.Core.Path.{◌≡◌, refl, sym}
use mathlib.Core.Bool.{true}
use lib.ListN.{length}
use Rattle.spec.specs.Book.{frame_count, free}
use Rattle.spec.specs.Machine.{Ask, try-copy-str-from-user, Reply, outcome, weigh, call}
use Rattle.spec.specs.World.{State, view, leave, Does, state_of}
use Rattle.call_front.proofs.FirstNumbers.{Passed, plain-none, sizes-words}
use Rattle.call_front.proofs.Answers.{plain-refused, plain-goes}
use Rattle.call_front.proofs.Living.{looked-up}
use Rattle.call_access.proofs.Access.{string-whole, string-bad}
use Rattle.call_access.proofs.call_try_copy_str_from_user.try_copy_str_from_user.Goals as goal
use Rattle.call_access.proofs.call_try_copy_str_from_user.try_copy_str_from_user.Goals.{In_default}

-- where no number came first
module _ (c : In_default) where
  abbrev state : State
  state = state_of c.args.setup c.args.frames.now c.args.book.now c.args.procs

  passed : Passed state c.args.number true
  passed = (plain-none state c.args.number true (sym c.in_default.ensures.value)).0

  sizes : length c.args.frames.now ≡ 4096 * frame_count c.args.book.now
  sizes = (sizes-words c.args.frames.now c.args.book.now passed.sizes).0

  abbrev asked : Ask
  asked = try-copy-str-from-user c.args.dst.now c.args.src

  answers : (t : State) (r : Reply) → weigh (view state c.args.number) (free c.args.book.now) 0 asked ≡ r
      → t ≡ leave state (call c.args.number asked) (outcome r) → Does state (call c.args.number asked) t r
  answers = plain-goes state c.args.number asked refl c.in_default.ensures.value

pub invariant_of-pages : goal.invariant_of-pages
invariant_of-pages c =
    let d = (goal.at.invariant_of-pages c).In_default in
    let l = looked-up (state d) c.args.number true c.plain_ready.new.lookup (passed d) c.in_default.ensures.leaves in
    record { accepted = l.0; ready = l.1; numbered = l.2 }

pub returns-in-Err : goal.returns-in-Err
returns-in-Err c =
    let a = c.args in
    rw c.from.ensures (plain-refused _ _ (try-copy-str-from-user a.dst.now a.src) refl c.in-Err.e c.in-Err.ensures.value)

pub try_copy_str_from_user-requires : goal.try_copy_str_from_user-requires
try_copy_str_from_user-requires c = record { frames_len = sizes (goal.at.try_copy_str_from_user-requires c).In_default }

pub returns-in-Ok : goal.returns-in-Ok
returns-in-Ok c =
    answers (goal.at.returns-in-Ok c).In_default _ _ (string-whole _ _ c.in-Ok.ensures refl) refl

pub returns-in-Err-try_copy_str_from_user : goal.returns-in-Err-try_copy_str_from_user
returns-in-Err-try_copy_str_from_user c =
    answers (goal.at.returns-in-Err-try_copy_str_from_user c).In_default _ _ (string-bad _ _ c.in-Err-try_copy_str_from_user.ensures _ refl) refl
