-- The fields of a plan, and what a caller reads off one.
-- Assumes nothing.
use mathlib.Core.Path.{◌≡◌, ◌∙◌}
use mathlib.Core.Bool.{true}
use mathlib.Core.List.{List, [], ◌∷◌}
use Prim.Native.Nat.{ℕ, suc, ◌+◌, ◌-◌, ◌/◌, ◌<◌, ◌≤◌}
use native.Mathlib.Omega.{arith}
use lib.ListN.{length, take, set, replicate}
use lib.Seq.{take-append_seam, set-append_seam}
use borrow.Author.Tests.{lt-ltb, le-ltb}
use Rattle.spec.specs.Numbers.{SetupOk, limit, page_up}
use Rattle.spec.specs.Book.{zero_segment, stack, bss_segment, page_count}
use Rattle.spec.specs.Program.{Segment, Program}
use Rattle.spec.specs.Image.{read_error, program_of}
use Rattle.spec.specs.Exec.{layout_ok, layout_error, image_error, bss_of, program_segments, program_bss, start_pieces}
use Rattle.spec.specs.declared.UserSegment.{UserSegment}
use Rattle.spec.specs.declared.Form.{Form}
use Rattle.spec.specs.declared.Setup.{Setup}
use Rattle.spec_laws.proofs.Accepted.{Accepted, accepted-means, read-means, recorded-all}
use Rattle.spec_laws.proofs.Loads.{AllLoad}
use Rattle.spec.proofs.Free.{count-append}
use Rattle.image.specs.Images.{form, bytes, program}
use Rattle.image.specs.declared.Image.{Image}
use Rattle.exec.specs.Pages.{recorded}
use Rattle.exec.specs.Plan.{plan_segments, SameImage}
use Rattle.exec.specs.declared.Plan.{Plan}

-- an image that was read of these bytes holds their program
pub same-program : (image : Image) (setup : Setup) (form : Form) (bytes : List ℕ) → SameImage image setup form bytes → program image ≡ program_of setup form bytes
same-program image setup form bytes s = rw (s.setup-same, s.form-same, s.bytes-same)

module _ (setup : Setup) where
  -- the bss starts at most at limit
  pub bss-low : (form : Form) (image : List ℕ) → SetupOk setup → read_error setup form image ≡ 0 → layout_ok setup (program_of setup form image).segments ≡ true → (program_bss (program_of setup form image)).start ≤ limit setup
  bss-low form image ok e l = go (program_of setup form image).segments (read-means setup ok form image e).loads l
    where
      go : (gs : List Segment) → AllLoad 0 gs → layout_ok setup gs ≡ true → (bss_of gs).start ≤ limit setup
      go [] a l = omega arith
      go (g ∷ gs) a l = let b = (recorded-all setup ok 0 g gs a l).bss-ok in omega (arith, b.order, b.low)

  -- pages are those of the segments, of the bss behind them, and of the stack
  pub all-pages : SetupOk setup → (p : Program) → page_count (start_pieces setup p) ≡ page_count (program_segments p) + ((program_bss p).end - page_up (program_bss p).start) / 4096 + setup.ustksize / 4096
  all-pages ok p = count-append (program_segments p) (bss_segment (program_bss p) ∷ stack setup ∷ []) ∙ omega arith

  -- ---- its segments

  pub few-segments : (p : Program) → layout_ok setup p.segments ≡ true → length (program_segments p) ≤ 15 → layout_error setup p ≡ 0
  few-segments p l h = rw (l, le-ltb 15 (length (program_segments p)) h)

  pub many-segments : (p : Program) → layout_ok setup p.segments ≡ true → 15 < length (program_segments p) → layout_error setup p ≡ 31
  many-segments p l h = rw (l, lt-ltb 15 (length (program_segments p)) h)

  -- those of the program, of the record's array
  pub first-ones : (us : List UserSegment) → take (length us) (recorded us).segments ≡ us
  first-ones us = take-append_seam us (replicate (16 - length us) zero_segment)

  -- and the stack behind them
  pub with-stack : (p : Program) → length (program_segments p) ≤ 15 → set (recorded (program_segments p)).segments (length (program_segments p)) (stack setup) ≡ plan_segments setup p
  with-stack p h =
      let us = program_segments p in
      let one : 16 - length us ≡ suc (15 - length us) = omega arith in
      rw one (set-append_seam us zero_segment (replicate (15 - length us) zero_segment) (stack setup))

-- ---- what a caller reads off a plan

-- its image is accepted, and so is its program
pub plan-accepted : (plan : Plan) → image_error plan.image.setup (form plan.image) (bytes plan.image) ≡ 0
plan-accepted plan = rw plan.image.accepted plan.accepted

pub plan-means : (plan : Plan) → Accepted plan.image.setup (program plan.image)
plan-means plan = accepted-means plan.image.setup plan.image.setup_ok (form plan.image) (bytes plan.image) (plan-accepted plan)
