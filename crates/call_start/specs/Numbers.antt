-- What a start is refused with, by what its functions look up one after the other. The specification gives the same in `answer` and
-- `weigh_start`.
-- Assumes nothing.
use Rattle.std.specs.Prelude.{ℕ, List, length}
use Rattle.spec.specs.Tests.{◌is◌, ◌above◌, ◌⇒◌else◌, ◌or_else◌, sum}
use Rattle.spec.specs.Book.{free, page_count}
use Rattle.spec.specs.Image.{program_of}
use Rattle.spec.specs.Exec.{image_error, start_pieces, args_of, args_error}
use Rattle.spec.specs.World.{State}
use Rattle.spec.specs.declared.Form.{Form}
use Rattle.call_front.specs.Numbers.{begin_error}

-- 1, 38, 39, 2, 3 and 5; 32 or 33 for its arguments; 30 or 31 for its image; 33 if the free frames don't hold its pages; or 0
unfoldable pub start_number : State → ℕ → Form → (image bytes lengths : List ℕ) → ℕ
start_number s n form image bytes lengths =
    begin_error s n (sum lengths is length bytes) or_else
    args_error s.setup (args_of bytes lengths) or_else
    image_error s.setup form image or_else
    (page_count (start_pieces s.setup (program_of s.setup form image)) above free s.store.book ⇒ 33 else 0)
