-- A page's frame by the table, and what may be done with the page.
use Prim.Native.Nat.{ℕ, ◌<◌}
use mathlib.Core.Path.{◌≡◌}
use mathlib.Core.Bool.{Bool, true, false}
use Rattle.std.specs.Prelude.{None, Some}
use mathlib.Core.List.{List}
use Rattle.spec.specs.Numbers.{page_down}
use Rattle.spec.specs.Book.{frame_count, frame_of}
use Rattle.spec.specs.Frames.{mem_of, store}
use Rattle.spec.specs.Access.{cell_ok}
use Rattle.spec_laws.proofs.Frame.{frame_found}

-- a page without a frame is not mapped
pub page-none : (write : Bool) (frames book : List ℕ) (n va : ℕ) → frame_of book n (page_down va) ≡ None → false ≡ cell_ok write (mem_of (store frames book) n va)
page-none true frames book n va e = rw e
page-none false frames book n va e = rw e

-- a page's frame lies in the book
pub frame_there : (book : List ℕ) (n page k : ℕ) → frame_of book n page ≡ Some k → k < frame_count book
frame_there book n page k e = (frame_found book n page k e).0
