-- The point of no return of a replace: what has been checked before it, and what comes after it. Up to it the old program is left as
-- it was; past it only 33 is left, which ends the process.
-- Assumes nothing.
use Rattle.std.specs.Prelude.{ℕ, ◌+◌, ◌*◌, ◌≤◌, ◌≡◌, Bool, true, List, length}
use Rattle.spec.specs.Tests.{◌above◌, ◌⇒◌else◌}
use Rattle.spec.specs.Numbers.{max_frames}
use Rattle.spec.specs.Book.{valid, frame_count, free, alone, page_count}
use Rattle.spec.specs.Frames.{Store}
use Rattle.spec.specs.Sound.{Mappings}
use Rattle.spec.specs.Program.{Program}
use Rattle.spec.specs.Exec.{start_pieces, registers}
use Rattle.spec.specs.World.{State, forget, load}
use Rattle.spec.specs.declared.Answer.{Answer}
use Rattle.spec.specs.declared.Answer.TheVariants.{Regs, Ended}
use Rattle.exec.specs.declared.Plan.{Plan}

-- an image may be entered by process n: frames are 4,096 bytes and seventeen words each and at most 1,024, the book's mappings are in
-- order, and n is 1 to 16. That setup and image are accepted, and that the plan is the image's, is in the plan's type
pub record Enterable (m : Store) (n : ℕ) (plan : Plan) : Type 0 where
  pub sizes : length m.frames ≡ 4096 * frame_count m.book
  pub words : length m.book ≡ 17 * frame_count m.book
  pub most : frame_count m.book ≤ max_frames
  pub mappings : Mappings plan.image.setup m.book
  pub number : valid n ≡ true

-- the frames that it holds alone and the free ones don't suffice
abbrev pub short : State → ℕ → Program → Bool
short s n program = page_count (start_pieces s.setup program) above alone s.store.book n + free s.store.book

-- what is left, and the answer: then the process ends with 33
abbrev pub entered : State → ℕ → Program → List ℕ → List (List ℕ) → State
entered s n program name args = short s n program ⇒ forget s n else load (forget s n) n program name args

abbrev pub entering : State → ℕ → Program → List (List ℕ) → Answer
entering s n program args = short s n program ⇒ Ended 33 else Regs (registers program.entry s.setup.ustktop args)
