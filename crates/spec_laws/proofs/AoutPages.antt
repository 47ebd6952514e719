-- What stands in the pages of an accepted a.out before its arguments are pushed.
use Prim.Native.Nat.{ℕ, ◌+◌, ◌-◌, ◌<◌}
use native.Mathlib.Omega.{arith}
use mathlib.Core.Path.{◌≡◌, refl, ap, ◌∙◌}
use mathlib.Core.Bool.{Bool, true, false}
use Rattle.std.specs.Prelude.{Option, None, Some}
use mathlib.Core.List.{List, [], ◌∷◌, ◌++◌}
use lib.ListN.{drop, get_or}
use lib.Seq.{get_or-take, get_or-drop}
use borrow.Author.Tests.{lt-ltb, ne_eqb}
use Rattle.spec.proofs.Bools.{split, within-means, within-test, within-not}
use Rattle.spec.specs.Tests.{◌is◌, within, ◌⇒◌else◌}
use Rattle.spec.specs.Book.{stack, bss_segment, in_segment, perm_at}
use Rattle.spec.specs.Frames.{Cell}
use Rattle.spec.specs.Program.{Segment, in_file, Program}
use Rattle.spec.specs.Aout.{data_size, bss_size, entry, text_end, data_at, text_segment, data_segment}
use Rattle.spec.specs.Exec.{user_segment, kept, program_bss, start_pieces, file_byte, cell_of, loaded}
use Rattle.spec.specs.AoutPages.{AoutsLoad}
use Rattle.spec.specs.declared.VirtRange.{VirtRange}
use Rattle.spec.specs.declared.UserSegment.{UserSegment}
use Rattle.spec.specs.declared.Setup.{Setup}
use Rattle.spec.specs.declared.Form.TheVariants.{Aout}
use Rattle.spec_laws.proofs.Aouts.{Complete, aout-means, text-length, data-length}
use Rattle.spec_laws.proofs.Accepted.{non_empty, image-passes}

-- ---- a segment's pages and bytes, and those of the segments behind it

module _ (g : Segment) (gs : List Segment) (a : ℕ) where
  byte-first : in_file a g ≡ true → file_byte (g ∷ gs) a ≡ get_or g.file (a - g.vaddr) 0
  byte-first i = rw i

  byte-later : in_file a g ≡ false → file_byte (g ∷ gs) a ≡ file_byte gs a
  byte-later i = rw i

  module _ (b : VirtRange) (rest : List UserSegment) where
    perm-first : in_segment a (user_segment b g) ≡ true → perm_at (kept b (g ∷ gs) ++ rest) a ≡ Some g.perm
    perm-first i = let m = within-means _ _ a i in rw (lt-ltb (user_segment b g).range.start (user_segment b g).range.end (omega arith), i)

    perm-later : in_segment a (user_segment b g) ≡ false → perm_at (kept b (g ∷ gs) ++ rest) a ≡ perm_at (kept b gs ++ rest) a
    perm-later i = split (non_empty (user_segment b g)) (λ q. rw (q, i)) (λ q. rw q)

-- ---- cells

cell-is : (b c q : ℕ) (o : Option ℕ) → o ≡ Some q → b ≡ c → cell_of b o ≡ Some (record { perm = q; byte = c })
cell-is b c q o e f = rw (e, f)

cell-byte : (b : ℕ) (o : Option ℕ) (c : Cell) → cell_of b o ≡ Some c → c.byte ≡ b
cell-byte b None c e = absurd (let z : ◌≡◌ {A = ℕ} 0 1 = cc in omega arith)
cell-byte b (Some q) c e = cc

-- ---- an a.out

module _ (setup : Setup) (image : List ℕ) where
  abbrev text : Segment
  text = text_segment setup image

  abbrev data-part : Segment
  data-part = data_segment setup image

  -- where the test holds there is no data segment
  abbrev behind : Bool → List Segment
  behind b = b ⇒ [] else data-part ∷ []

  abbrev program : Bool → Program
  program b = record { entry = entry image; segments = text ∷ behind b }

  abbrev rest : Bool → List UserSegment
  rest b = bss_segment (program_bss (program b)) ∷ stack setup ∷ []

  module _ (h : Complete image) where
    text-cell : (b : Bool) (i : ℕ) → i < text_end image → loaded setup (program b) (setup.utzero + i) ≡ Some (record { perm = 1; byte = get_or image i 0 })
    text-cell b i l =
        let a : ℕ = setup.utzero + i in
        let n = text-length setup image h in
        cell-is _ _ 1 _
        (perm-first text (behind b) a (program_bss (program b)) (rest b) (within-test _ _ a (omega arith) (omega arith)))
        (byte-first text (behind b) a (within-test _ _ a (omega arith) (omega arith)) ∙ ap (λ (k : ℕ). get_or text.file k 0) (omega arith) ∙ get_or-take (text_end image) image i 0 l)

    data-cell : (i : ℕ) → i < data_size image → loaded setup (program false) (data_at setup image + i) ≡ Some (record { perm = 3; byte = get_or image (text_end image + i) 0 })
    data-cell i l =
        let a : ℕ = data_at setup image + i in
        let bss : VirtRange = program_bss (program false) in
        let m = text-length setup image h in
        let n = data-length setup image h in
        cell-is _ _ 3 _
        (perm-later text (behind false) a bss (rest false) (within-not _ _ a (λ x y. omega arith)) ∙ perm-first data-part [] a bss (rest false) (within-test _ _ a (omega arith) (omega arith)))
        (byte-later text (behind false) a (within-not _ _ a (λ x y. omega arith))
        ∙ byte-first data-part [] a (within-test _ _ a (omega arith) (omega arith))
        ∙ ap (λ (k : ℕ). get_or data-part.file k 0) (omega arith)
        ∙ get_or-take (data_size image) (drop (text_end image) image) i 0 l
        ∙ get_or-drop (text_end image) image i 0)

    other-cell : (b : Bool) (a : ℕ) (c : Cell) → loaded setup (program b) a ≡ Some c → within setup.utzero (setup.utzero + text_end image) a ≡ false
        → within (data_at setup image) (data_at setup image + data_size image) a ≡ false → c.byte ≡ 0
    other-cell b a c m t d =
        cell-byte (file_byte (program b).segments a) (perm_at (start_pieces setup (program b)) a) c m
        ∙ byte-later text (behind b) a (rw (text-length setup image h) t) ∙ go b
      where
        go : (b : Bool) → file_byte (behind b) a ≡ 0
        go true = refl
        go false = byte-later data-part [] a (rw (data-length setup image h) d)

pub aouts-load : AoutsLoad
aouts-load setup magic image e =
    let h = aout-means setup magic image (image-passes setup (Aout magic) image e).0 in
    let b : Bool = data_size image + bss_size image is 0 in
    record {
      text-bytes = text-cell setup image h b;
      data-bytes = λ i l. ap (λ (c : Bool). loaded setup (program setup image c) (data_at setup image + i)) (ne_eqb (data_size image + bss_size image) 0 (λ z. omega arith)) ∙ data-cell setup image h i l;
      others = other-cell setup image h b;
    }
