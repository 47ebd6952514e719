-- What a plan and its arguments must keep to before they are installed, and what that leaves. Start and replace both check it, each
-- in its own order, and then take the same last steps.
-- Assumes nothing.
use Rattle.std.specs.Prelude.{ℕ, ◌*◌, ◌≤◌, ◌≡◌, true, List, length, None}
use Rattle.spec.specs.Name.{elem, kstrcpy}
use Rattle.spec.specs.Numbers.{page_bytes}
use Rattle.spec.specs.Book.{valid, frame_count, free, page_count}
use Rattle.spec.specs.Frames.{Store, Page, mem_of, pages_of, place}
use Rattle.spec.specs.Sound.{Mappings}
use Rattle.spec.specs.Program.{Program}
use Rattle.spec.specs.Exec.{start_pieces, file_byte, args_error}
use Rattle.spec.specs.World.{push_in}
use Rattle.spec.specs.declared.Proc.{Proc}
use Rattle.spec.specs.declared.Setup.{Setup}
use Rattle.image.specs.Images.{program}
use Rattle.exec_args.specs.Laid.{Laid}
use Rattle.exec.specs.declared.Plan.{Plan}

-- the pages of a plan: its image's, its bss's, its stack's
abbrev pub plan_pages : Plan → List Page
plan_pages plan = pages_of (page_bytes (file_byte (program plan.image).segments)) (start_pieces plan.image.setup (program plan.image))

-- a plan may be installed for process n: frames are 4,096 bytes and seventeen words each, the book's mappings are in order, n is 1 to 16
-- and has no page, and the free frames hold its pages. That setup and image are accepted, and that the plan is the image's, is in its type
pub record Installable (m : Store) (n : ℕ) (plan : Plan) : Type 0 where
  pub sizes : length m.frames ≡ 4096 * frame_count m.book
  pub words : length m.book ≡ 17 * frame_count m.book
  pub mappings : Mappings plan.image.setup m.book
  pub number : valid n ≡ true
  pub empty : (a : ℕ) → mem_of m n a ≡ None
  pub room : page_count (start_pieces plan.image.setup (program plan.image)) ≤ free m.book

-- `count` arguments that pass stand in a buffer, with the pointers of a push below the stack's top
pub record Fitting (setup : Setup) (args : List (List ℕ)) (buf : List ℕ) (size count : ℕ) : Type 0 where
  pub laid : Laid setup.ustktop args size buf
  pub counted : length args ≡ count
  pub passed : args_error setup args ≡ 0

-- frames and book of World's `load`: a program's pages, ascending, then its arguments
abbrev pub installed : Setup → Store → ℕ → Program → List (List ℕ) → Store
installed setup m n program args = push_in (place m n (pages_of (page_bytes (file_byte program.segments)) (start_pieces setup program))) n setup.ustktop args

-- the record of a plan: its segments, the last element of a name, and its bss
abbrev pub record_of : Plan → List ℕ → Proc
record_of plan name = record { segments = plan.segments; text = kstrcpy (elem name); bss = plan.bss }
