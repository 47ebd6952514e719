-- `enter` meets its contract: the frames held alone and the free ones are counted, then the old pages are released, and the new ones find
-- as many frames free.
use Prim.Native.Nat.{ℕ, zero, suc, ◌+◌, ◌*◌, ◌/◌, ◌≤◌}
use native.Mathlib.Omega.{arith}
use mathlib.Core.Path.{◌≡◌, sym, ap, subst, ◌∙◌}
use mathlib.Core.Bool.{Bool, true, false}
use lib.ListN.{length}
use borrow.Author.Tests.{lt-ltb, le-ltb}
use Rattle.spec.specs.Book.{frame_count, count_below, is_free, free, alone, page_count}
use Rattle.spec.specs.Frames.{Store, Mem, mem_of, store}
use Rattle.spec.specs.Sound.{Mappings}
use Rattle.spec.specs.Program.{Program}
use Rattle.spec.specs.Exec.{start_pieces}
use Rattle.spec.specs.World.{State, state_of, forget, load, set_proc}
use Rattle.spec.specs.declared.Answer.TheVariants.{Regs, Ended}
use Rattle.spec.specs.declared.Setup.{Setup}
use Rattle.spec.proofs.Bools.{split}
use Rattle.spec.proofs.Chain.{here, past}
use Rattle.spec_laws.proofs.Owned.{valid-means}
use Rattle.spec_laws.proofs.Release.{release_length, release-count, mappings-release, mem-release-own, free-release-own}
use Rattle.image.specs.Images.{program}
use Rattle.exec_load.specs.Installing.{Installable}
use Rattle.exec_load.proofs.Installed.{plan-record}
use Rattle.call_front.proofs.States.{state-is}
use Rattle.call_replace.specs.Entering.{short}
use Rattle.call_replace.proofs.enter.enter.Goals as goal
use Rattle.call_replace.proofs.enter.enter.Goals.{After-free_count-free, Else-plan-room}

-- no more numbers pass a test than there are
count_most : (t : ℕ → Bool) (c : ℕ) → count_below t c ≤ c
count_most t zero = omega arith
count_most t (suc c) = let m = count_most t c in split (t c) (λ q. rw q (omega arith)) (λ q. rw q (omega arith))

-- where frames held alone and free ones are counted
module _ (c : After-free_count-free) where
  abbrev setup : Setup
  setup = c.args.plan.now.image.setup

  abbrev its : Program
  its = program c.args.plan.now.image

  abbrev s : State
  s = state_of setup c.args.frames.now c.args.book.now c.args.procs.now

  abbrev gone : State
  gone = forget s c.args.number

  all-free : free gone.store.book ≡ free c.args.book.now + alone c.args.book.now c.args.number
  all-free = free-release-own s.store c.args.number c.requires.enterable.number c.requires.enterable.mappings

  pages : c.args.plan.now.pages ≡ page_count (start_pieces setup its)
  pages = c.args.plan.now.taken

-- where they suffice, and the old pages are released
module _ (c : Else-plan-room) where
  abbrev k : After-free_count-free
  k = (goal.at.Else-plan-room c).After-free_count-free

  left : state_of (setup k) c.args.frames.now c.end_process.new.book c.end_process.new.procs ≡ gone k
  left = c.end_process.ensures (setup k) c.args.frames.now

  enough : page_count (start_pieces (setup k) (its k)) ≤ alone c.args.book.now c.args.number + free c.args.book.now
  enough = omega (arith, pages k, c.alone_count-own.ensures, c.free_count-free.ensures, c.if-plan-room.false)

  room : short (s k) c.args.number (its k) ≡ false
  room = le-ltb (alone c.args.book.now c.args.number + free c.args.book.now) (page_count (start_pieces (setup k) (its k))) enough

  installable : Installable (store c.args.frames.now c.end_process.new.book) c.args.number c.args.plan.now
  installable =
      let e = c.requires.enterable in
      let n = c.args.number in
      let m = (s k).store in
      let at : store c.args.frames.now c.end_process.new.book ≡ (gone k).store = ap (λ (x : State). x.store) left in
      let l : length c.end_process.new.book ≡ length c.args.book.now = ap (λ (x : Store). length x.book) at ∙ release_length m n (λ page. true) e.number in
      let f : frame_count c.end_process.new.book ≡ frame_count c.args.book.now = ap (λ (x : ℕ). x / 17) l in
      let rise : free c.end_process.new.book ≡ free c.args.book.now + alone c.args.book.now n = ap (λ (x : Store). free x.book) at ∙ all-free k in
      record {
        sizes = e.sizes ∙ ap (λ (x : ℕ). 4096 * x) (sym f);
        words = l ∙ e.words ∙ ap (λ (x : ℕ). 17 * x) (sym f);
        mappings = subst (λ (x : Store). Mappings (setup k) x.book) (sym at) (mappings-release m n (λ page. true) e.number e.mappings);
        number = e.number;
        empty = λ a. ap (λ (x : Store). mem_of x n a) at ∙ ap (λ (x : Mem). x a) (mem-release-own m n e.number);
        room = omega (arith, rise, enough);
      }

pub alone_count-own-requires : goal.alone_count-own-requires
alone_count-own-requires c = valid-means _ c.requires.enterable.number

-- together they are no more than all
pub overflow_add-room : goal.overflow_add-room
overflow_add-room c =
    let n = c.args.number in
    let k = (goal.at.overflow_add-room c).After-free_count-free in
    omega (arith, c.alone_count-own.ensures, c.free_count-free.ensures, all-free k, count_most (is_free (gone k).store.book) (frame_count (gone k).store.book), release-count (s k).store n (λ page. true) c.requires.enterable.number, c.requires.enterable.most)

pub end_process-requires : goal.end_process-requires
end_process-requires c = c.requires.enterable.number

pub returns-then-plan-room : goal.returns-then-plan-room
returns-then-plan-room c =
    let k = (goal.at.returns-then-plan-room c).After-free_count-free in
    let n = c.args.number in
    let left = c.end_process.ensures (setup k) c.args.frames.now in
    let over : short (s k) n (its k) ≡ true = lt-ltb (alone c.args.book.now n + free c.args.book.now) (page_count (start_pieces (setup k) (its k))) (omega (arith, pages k, c.alone_count-own.ensures, c.free_count-free.ensures, c.if-plan-room.true)) in
    λ args f. (here (short (s k) n (its k)) _ _ _ over left, here (short (s k) n (its k)) _ _ _ over (ap Ended c.from.ensures))

pub install-regs-requires : goal.install-regs-requires
install-regs-requires c = record { installable = installable (goal.at.install-regs-requires c).Else-plan-room; by_index = c.requires.by_index }

pub set_proc-requires : goal.set_proc-requires
set_proc-requires c = c.requires.enterable.number

pub returns : goal.returns
returns c =
    let d = (goal.at.returns c).Else-plan-room in
    let n = c.args.number in
    let b = short (s (k d)) n (its (k d)) in
    λ args f.
    let i = c.install-regs.ensures args f in (
      past b _ _ _ (room d)
          (state-is (setup (k d)) _ _ c.set_proc.new.procs _ i.0 (c.set_proc.ensures ∙ ap (set_proc c.end_process.new.procs n) (c.record_of.ensures ∙ plan-record c.args.plan.now c.args.name.now))
          ∙ ap (λ (x : State). load x n (its (k d)) c.args.name.now args) (left d)),
      past b _ _ _ (room d) (ap Regs i.1),
    )
