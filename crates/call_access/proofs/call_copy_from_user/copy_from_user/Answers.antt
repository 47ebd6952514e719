-- `copy_from_user` meets its contract: the whole range is checked before a byte is copied.
use Prim.Native.Nat.{ℕ, ◌*◌}
use mathlib.Core.Path.{◌≡◌, refl, sym, ap, ◌∙◌}
use mathlib.Core.Bool.{true}
use mathlib.Core.List.{List}
use lib.ListN.{length}
use Rattle.spec.specs.Book.{frame_count, free}
use Rattle.spec.specs.Machine.{Ask, copy-from-user, Reply, outcome, weigh, call}
use Rattle.spec.specs.World.{State, view, leave, Does, state_of}
use Rattle.spec.specs.declared.Answer.TheVariants.{Done}
use Rattle.call_front.proofs.FirstNumbers.{Passed, plain-none, sizes-words}
use Rattle.call_front.proofs.Answers.{plain-refused, plain-goes}
use Rattle.call_front.proofs.Living.{looked-up}
use Rattle.call_access.proofs.Copied.{reads, reads-bad}
use Rattle.call_access.proofs.call_copy_from_user.copy_from_user.Goals as goal
use Rattle.call_access.proofs.call_copy_from_user.copy_from_user.Goals.{In_default}

-- where no number came first
module _ (c : In_default) where
  abbrev state : State
  state = state_of c.args.setup c.args.frames.now c.args.book.now c.args.procs

  passed : Passed state c.args.number true
  passed = (plain-none state c.args.number true (sym c.in_default.ensures.value)).0

  sizes : length c.args.frames.now ≡ 4096 * frame_count c.args.book.now
  sizes = (sizes-words c.args.frames.now c.args.book.now passed.sizes).0

  abbrev asked : Ask
  asked = copy-from-user c.args.dst.now c.args.src

  answers : (t : State) (r : Reply) → weigh (view state c.args.number) (free c.args.book.now) 0 asked ≡ r
      → t ≡ leave state (call c.args.number asked) (outcome r) → Does state (call c.args.number asked) t r
  answers = plain-goes state c.args.number asked refl c.in_default.ensures.value

pub invariant_of-pages : goal.invariant_of-pages
invariant_of-pages c =
    let d = (goal.at.invariant_of-pages c).In_default in
    let l = looked-up (state d) c.args.number true c.plain_ready.new.lookup (passed d) c.in_default.ensures.leaves in
    record { accepted = l.0; ready = l.1; numbered = l.2 }

pub returns-in-Err : goal.returns-in-Err
returns-in-Err c =
    let a = c.args in
    rw c.refused.ensures (plain-refused _ _ (copy-from-user a.dst.now a.src) refl c.in-Err.e c.in-Err.ensures.value)

pub returns-in-Err-user_range_ok : goal.returns-in-Err-user_range_ok
returns-in-Err-user_range_ok c =
    let a = c.args in
    let d = (goal.at.returns-in-Err-user_range_ok c).In_default in
    rw c.bad_address.ensures.says
    (answers d _ _ (reads-bad (view (state d) a.number) (free a.book.now) a.dst.now a.src _ (sym (c.user_range_ok.ensures a.frames.now) ∙ c.in-Err-user_range_ok.is)) (c.bad_address.ensures.ends _ _))

pub read_user-requires-clause-frames_len : goal.read_user-requires-clause-frames_len
read_user-requires-clause-frames_len c = sizes (goal.at.read_user-requires-clause-frames_len c).In_default

pub returns : goal.returns
returns c =
    let a = c.args in
    let d = (goal.at.returns c).In_default in
    answers d _ _
    (reads (view (state d) a.number) (free a.book.now) a.dst.now a.src (sym (c.user_range_ok.ensures a.frames.now) ∙ c.in_default-user_range_ok.is) ∙ ap (λ (b : List ℕ). record { says = Done; buffer = b }) (sym c.read_user.ensures))
    refl
