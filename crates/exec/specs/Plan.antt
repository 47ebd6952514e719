-- What a start needs of an image, and why an image has no plan.
-- Assumes nothing.
use Rattle.std.specs.Prelude.{ℕ, ◌-◌, ◌≡◌, List, ◌∷◌, ◌++◌, length, replicate, Result, Ok, Err}
use Rattle.spec.specs.Refusals.{refusal_number}
use Rattle.spec.specs.Book.{zero_segment, stack}
use Rattle.spec.specs.Program.{Program}
use Rattle.spec.specs.Exec.{program_segments}
use Rattle.spec.specs.declared.Setup.{Setup}
use Rattle.spec.specs.declared.Form.{Form}
use Rattle.spec.specs.declared.UserSegment.{UserSegment}
use Rattle.spec.specs.declared.Refusal.{Refusal}
use Rattle.spec.specs.declared.Refusal.TheVariants.{BadExec, Segments}
use Rattle.image.specs.Readers.{form_of, bytes_of}
use Rattle.image.specs.declared.Image.{Image}
use Rattle.exec.specs.declared.Unplanned.{Unplanned}
use Rattle.exec.specs.declared.Unplanned.TheVariants.{Unreadable, BadLayout, TooManySegments}

-- the segments of a record: the program's, then the stack, then zeros
abbrev pub plan_segments : Setup → Program → List UserSegment
plan_segments setup p = program_segments p ++ stack setup ∷ replicate (15 - length (program_segments p)) zero_segment

-- an image was read of these bytes
pub record SameImage (image : Image) (setup : Setup) (form : Form) (bytes : List ℕ) : Type 0 where
  pub setup-same : image.setup ≡ setup
  pub form-same : form_of image.reader ≡ form
  pub bytes-same : bytes_of image.reader ≡ bytes

-- what an image without a plan is refused with: 30 for any refusal of its reader's
abbrev pub refusal_of : Unplanned → Refusal
refusal_of (Unreadable r) = BadExec
refusal_of BadLayout = BadExec
refusal_of TooManySegments = Segments

-- the number of its reader's own refusal, or 0
abbrev pub unplanned_own : Unplanned → ℕ
unplanned_own (Unreadable r) = refusal_number r
unplanned_own BadLayout = 0
unplanned_own TooManySegments = 0

-- both numbers of an answer, or 0
abbrev pub plan_number : {A : Type 0} → Result A Unplanned → ℕ
plan_number (Ok _) = 0
plan_number (Err u) = refusal_number (refusal_of u)

abbrev pub own_number : {A : Type 0} → Result A Unplanned → ℕ
own_number (Ok _) = 0
own_number (Err u) = unplanned_own u
