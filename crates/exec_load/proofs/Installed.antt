-- What a program that may be installed gives: the whole stack among its pages, once they are placed; its record.
use Prim.Native.Nat.{ℕ, ◌-◌}
use mathlib.Core.Path.{◌≡◌, ap, ◌∙◌}
use mathlib.Core.Bool.{true}
use Rattle.std.specs.Prelude.{Option, Some}
use mathlib.Core.List.{List, [], ◌∷◌, ◌++◌}
use Rattle.spec.specs.Numbers.{page_bytes}
use Rattle.spec.specs.Book.{book_perm, stack, bss_segment, in_segment, perm_at}
use Rattle.spec.specs.Frames.{Store, pages_of, place}
use Rattle.spec.specs.Program.{Program}
use Rattle.spec.specs.Exec.{program_segments, program_bss, start_pieces, file_byte}
use Rattle.spec.specs.World.{proc_of}
use Rattle.spec.specs.History as history
use Rattle.spec.specs.declared.UserSegment.{UserSegment}
use Rattle.spec_laws.proofs.Accepted.{Accepted}
use Rattle.spec.proofs.Bools.{split, within-test}
use Rattle.spec_laws.proofs.Frame.{frame-perm, page-perm}
use Rattle.spec_laws.proofs.Contents.{length-page}
use Rattle.spec_laws.proofs.Placed.{Whole, Room, perm-placed}
use Rattle.spec_laws.proofs.Started.{start-perm, start_between, start-apart}
use Rattle.spec_laws.proofs.Pieces.{or_perm}
use Rattle.pagealloc.specs.Lent.{Mapped}
use Rattle.exec.specs.declared.Plan.{Plan}
use Rattle.image.specs.Images.{program}
use Rattle.exec.proofs.Planned.{plan-means}
use Rattle.spec.specs.declared.Setup.{Setup}
use Rattle.exec_load.specs.Installing.{Installable, record_of}

-- the last of pieces gives its addresses a permission, unless another does
last-there : (gs : List UserSegment) (b g : UserSegment) (a : ℕ) → in_segment a g ≡ true → (q : ℕ) × (perm_at (gs ++ b ∷ g ∷ []) a ≡ Some q)
last-there [] b g a h = split (in_segment a b) (λ s. (b.perm, rw s)) (λ s. (g.perm, rw (s, h)))
last-there (x ∷ gs) b g a h = split (in_segment a x) (λ s. (x.perm, rw s)) (λ s. let r = last-there gs b g a h in (r.0, rw s r.1))

module _ (m : Store) (n : ℕ) (plan : Plan) (i : Installable m n plan) where
  abbrev setup : Setup
  setup = plan.image.setup

  abbrev held : Program
  held = program plan.image

  fine : Accepted setup held
  fine = plan-means plan

  abbrev page : ℕ → List ℕ
  page = page_bytes (file_byte held.segments)

  whole : Whole setup n page (start_pieces setup held)
  whole = record {
    owner = i.number;
    pieces = start-apart setup plan.image.setup_ok held fine;
    proper = λ a q s.
        let x = start-perm setup plan.image.setup_ok held fine a q s in
        let y = start_between setup plan.image.setup_ok held fine a q s in
        (x.0, x.1, y.0, y.1);
    bytes = λ a q z s. length-page (file_byte held.segments) a;
  }

  room : Room setup m n (start_pieces setup held)
  room = record {
    mappings = i.mappings;
    fresh = λ a q z s. page-perm m n a z ∙ ap history.perm_in (i.empty a);
    enough = i.room;
  }

  abbrev placed : Store
  placed = place m n (pages_of page (start_pieces setup held))

  pub stack-mapped : Mapped placed.book n (setup.ustktop - setup.ustksize) setup.ustktop
  stack-mapped a z l u =
      let r = last-there (program_segments held) (bss_segment (program_bss held)) (stack setup) a (within-test (setup.ustktop - setup.ustksize) setup.ustktop a l u) in
      frame-perm placed.book n a r.0 (perm-placed m n page (start_pieces setup held) (record { bytes = i.sizes; words = i.words }) whole room a z ∙ ap (λ (o : Option ℕ). or_perm o (book_perm m.book n a)) r.1)

pub plan-record : (plan : Plan) (name : List ℕ) → record_of plan name ≡ proc_of plan.image.setup (program plan.image) name
plan-record plan name = rw (plan.recorded, plan.behind)
