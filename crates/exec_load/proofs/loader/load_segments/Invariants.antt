-- `loader::load_segments` meets its contract. The invariant: placing the pages of the places that are left, after what is placed, is
-- placing those of the whole program.
use mathlib.Core.Path.{◌≡◌}
use mathlib.Core.Bool.{true}
use Rattle.spec.specs.Frames.{place, store}
use Rattle.spec.specs.Exec.{layout_ok}
use Rattle.image.specs.Images.{form, bytes, program}
use Rattle.image.proofs.Places.{rest}
use Rattle.pagealloc.specs.Lent.{Passed}
use Rattle.exec_load.specs.Pages.{segment_pages}
use Rattle.exec_load.proofs.loader.load_segments.Given as goal

abbrev pub invariant-loop-i : goal.invariant-loop-i
invariant-loop-i l = record {
  laid_out : layout_ok l.image.setup (rest l.image.setup (form l.image) (bytes l.image) l.i) ≡ true;
  placed : place (store l.initial.frames l.initial.book) l.owner (segment_pages l.bss (program l.image).segments) ≡ place (store l.frames l.book) l.owner (segment_pages l.bss (rest l.image.setup (form l.image) (bytes l.image) l.i));
  passed : Passed l.top l.book;
}
