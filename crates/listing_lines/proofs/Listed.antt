-- The listing of an image, by its plan.
-- Assumes nothing.
use mathlib.Core.Path.{◌≡◌, refl, sym, ap, ◌∙◌}
use mathlib.Core.Bool.{Bool, true, false}
use mathlib.Core.List.{List, [], ◌∷◌, ◌++◌, append_assoc}
use Prim.Native.Nat.{ℕ, ◌-◌, ◌<◌, ◌≤◌}
use lib.ListN.{length, take, replicate, length-take}
use lib.Seq.{take-append_seam}
use borrow.Author.Tests.{lt-ltb, le-ltb, eq-eqb, ne_eqb}
use Rattle.spec.specs.Tests.{◌isnt◌, ◌⇒◌else◌, ascii}
use Rattle.spec.specs.Flags.{built_in}
use Rattle.spec.specs.Numbers.{deposit}
use Rattle.spec.specs.Book.{zero_segment, stack, page_count}
use Rattle.spec.specs.Program.{Program}
use Rattle.spec.specs.Elf.{elf_error, elf_program}
use Rattle.spec.specs.Exec.{image_error, program_segments, program_bss, start_pieces}
use Rattle.spec.specs.Listing.{list_error, program_text, listing}
use Rattle.spec.specs.declared.UserSegment.{UserSegment}
use Rattle.spec.specs.declared.Form.TheVariants.{Elf}
use native.Mathlib.Omega.{arith}
use Rattle.spec.specs.declared.Setup.{Setup}
use Rattle.spec.specs.declared.VirtRange.{VirtRange}
use Rattle.image.specs.Images.{program}
use Rattle.exec.specs.declared.Plan.{Plan}
use Rattle.exec.proofs.Planned.{plan-means, same-program}
use Rattle.exec.specs.Plan.{SameImage}
use Rattle.text.specs.Text.{number_text, field_text}
use Rattle.listing_lines.specs.Lines.{span_text, lines_text, listed_text}

module _ (image : List ℕ) where
  -- ---- what it is refused for

  pub error-long : 32768 < length image → 1 ≡ list_error image
  unfolding list_error
  error-long h = rw (lt-ltb 32768 (length image) h)

  pub error-elf : length image ≤ 32768 → (elf_error built_in image ≡ 0 → ⊥) → elf_error built_in image ≡ list_error image
  unfolding list_error
  error-elf h n = rw (le-ltb 32768 (length image) h, ne_eqb (elf_error built_in image) 0 n)

  pub error-image : length image ≤ 32768 → elf_error built_in image ≡ 0 → image_error deposit Elf image ≡ list_error image
  unfolding list_error
  error-image h e = rw (le-ltb 32768 (length image) h, eq-eqb (elf_error built_in image) 0 e)

  -- ---- its text

  pub refused-text : (n : ℕ) → n ≡ list_error image → (n ≡ 0 → ⊥) → field_text (ascii "refused=") n ≡ listing image
  unfolding listing number_text
  refused-text n e z = rw (← e, ne_eqb n 0 z)

-- the listing's lines by their parts: as the specification has them, and as they are put
abbrev lines : List ℕ → List ℕ → List ℕ → List ℕ → List ℕ
lines e l b p = ascii "entry=" ++ e ++ 10 ∷ l ++ ascii "bss=" ++ b ++ ascii "pages=" ++ p ++ 10 ∷ []

as-put : (e l b p : List ℕ) → ascii "entry=" ++ e ++ (10 ∷ []) ++ l ++ ascii "bss=" ++ b ++ (ascii "pages=" ++ p ++ (10 ∷ [])) ≡ lines e l b p
as-put e l b p = parts (ascii "entry=") e (10 ∷ []) l (ascii "bss=") b (ascii "pages=") p
  where
    parts : (a e n l s b t p : List ℕ) → a ++ e ++ n ++ l ++ s ++ b ++ (t ++ p ++ n) ≡ a ++ e ++ (n ++ l) ++ s ++ b ++ t ++ p ++ n
    parts a e n l s b t p = simp append_assoc

otherwise : (t : Bool) (x y : List ℕ) → t ≡ false → (t ⇒ x else y) ≡ y
otherwise true x y e = let z : ◌≡◌ {A = Bool} true false = e in cc
otherwise false x y e = refl

accepted-text : (image : List ℕ) → 0 ≡ list_error image → listing image ≡ program_text (elf_program built_in image)
unfolding listing
accepted-text image z = otherwise (list_error image isnt 0) _ _ (ap (λ (n : ℕ). n isnt 0) (sym z))

shut : (p : Program) → lines (number_text p.entry) (lines_text (program_segments p)) (span_text (program_bss p)) (number_text (page_count (start_pieces deposit p))) ≡ program_text p
unfolding number_text lines_text span_text
shut p = refl

-- a program's lines as they are put
put-text : (p : Program) → listed_text p ≡ program_text p
put-text p = as-put (number_text p.entry) (lines_text (program_segments p)) (span_text (program_bss p)) (number_text (page_count (start_pieces deposit p))) ∙ shut p

-- ---- what a plan's lines are

abbrev text : ℕ → List UserSegment → VirtRange → ℕ → List ℕ
text entry us bss pages = field_text (ascii "entry=") entry ++ lines_text us ++ ascii "bss=" ++ span_text bss ++ field_text (ascii "pages=") pages

module _ (plan : Plan) where
  pub plan-few : length (take plan.count plan.segments) ≤ 15
  plan-few = simp length-take (omega (arith, plan.counted, (plan-means plan).few))

  pub plan-listed : plan.image.setup ≡ deposit → text plan.entry (take plan.count plan.segments) plan.bss plan.pages ≡ listed_text (program plan.image)
  plan-listed e = alike plan.entered segments plan.behind (plan.taken ∙ ap (λ (u : Setup). page_count (start_pieces u (program plan.image))) e)
    where
      alike : {a b : ℕ} {us vs : List UserSegment} {r s : VirtRange} {n m : ℕ} → a ≡ b → us ≡ vs → r ≡ s → n ≡ m → text a us r n ≡ text b vs s m
      alike p q r s = cc

      segments : take plan.count plan.segments ≡ program_segments (program plan.image)
      segments =
          let us = program_segments (program plan.image) in
          rw (plan.recorded, plan.counted) (take-append_seam us (stack plan.image.setup ∷ replicate (15 - length us) zero_segment))

-- the lines of an image's plan are its listing
pub shown-text : (image : List ℕ) (plan : Plan) → SameImage plan.image deposit Elf image → 0 ≡ list_error image → listed_text (program plan.image) ≡ listing image
shown-text image plan s z =
    ap listed_text (same-program plan.image deposit Elf image s) ∙ put-text (elf_program built_in image) ∙ sym (accepted-text image z)
