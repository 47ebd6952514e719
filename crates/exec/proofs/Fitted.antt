-- The layout: one segment after another, and what it comes to.
-- Assumes nothing.
use mathlib.Core.Path.{◌≡◌, refl, sym, ap, ◌∙◌}
use mathlib.Core.Bool.{Bool, true, false, not, ◌&&◌, ◌||◌}
use mathlib.Core.List.{List, [], ◌∷◌}
use Prim.Native.Nat.{ℕ, suc, ◌+◌, ◌<◌, ◌≤◌}
use native.Mathlib.Omega.{arith}
use lib.ListN.{length, drop, length-drop}
use lib.Seq.{length-take-le}
use borrow.Author.Tests.{ne_eqb}
use Rattle.spec.specs.Tests.{◌is◌, ◌below◌, ◌above◌, ◌⇒◌else◌}
use Rattle.spec.specs.Numbers.{limit}
use Rattle.spec.specs.Program.{Segment}
use Rattle.spec.specs.Exec.{layout_ok, bss_of}
use Rattle.std.specs.Prelude.{Option, None, Some}
use Rattle.elf.specs.declared.Segment.{Segment as Held}
use Rattle.elf.proofs.Walk.{segment_in, front}
use Rattle.image.specs.Places.{places, load_at}
use Rattle.image.proofs.Places.{WithinLoad, rest, rest_some, rest-none}
use Rattle.spec.specs.declared.Form.{Form}
use Rattle.spec.proofs.Bools.{split}
use Rattle.spec.specs.declared.Setup.{Setup}
use Rattle.exec.specs.Fits.{laid, fit_of, nothing, last_of, fits, bss_behind}
use Rattle.exec.specs.declared.layout.Laid.{Laid}

-- the segments behind one, after what it came to
abbrev pub then : (setup : Setup) → Option Laid → List Segment → Option Laid
then setup None gs = None
then setup (Some t) gs = fits setup t gs

-- the same tests, in the code's order
order : (closed low high last none rest : Bool) (x y : Option Laid)
    → ((not closed || false) && (not low && not high && (not last || none) && rest) ⇒ x else y) ≡ (closed || low || high ⇒ y else ((not last || none) && rest ⇒ x else y))
order true low high last none rest x y = refl
order false true high last none rest x y = refl
order false false true last none rest x y = refl
order false false false last none rest x y = refl

-- a segment that lies in the image has as many file bytes as it says
file-long : (image : List ℕ) (g : Held) → g.offset + g.filesz ≤ length image → length (segment_in image g).file ≡ g.filesz
file-long image g c = length-take-le g.filesz (drop g.offset image) (omega (arith, length-drop g.offset image))

choose : (b : Bool) (x y : Option Laid) (f : Option Laid → Option Laid) → f (b ⇒ x else y) ≡ (b ⇒ f x else f y)
choose true x y f = refl
choose false x y f = refl

module _ (setup : Setup) where
  -- one segment of a layout
  fits_one : (image : List ℕ) (before : Laid) (g : Held) (gs : List Segment) → g.offset + g.filesz ≤ length image → fits setup before (segment_in image g ∷ gs) ≡ then setup (fit_of setup before (Some g)) gs
  fits_one image before g gs c =
      rw (file-long image g c, ne_eqb (suc (length gs)) 0 (λ z. omega arith))
      (order before.closed (g.vaddr below setup.utzero) (g.vaddr + g.memsz above limit setup) (g.perm is 3) (length gs is 0) (layout_ok setup gs) (Some (last_of (laid g) gs)) None
      ∙ sym (choose (before.closed || g.vaddr below setup.utzero || g.vaddr + g.memsz above limit setup) None (Some (laid g)) (λ f. then setup f gs)))

  pub fits-load : (image : List ℕ) (before : Laid) (l : Option Held) (gs : List Segment) → WithinLoad (length image) l → fits setup before (front image l gs) ≡ then setup (fit_of setup before l) gs
  fits-load image before None gs c = refl
  fits-load image before (Some g) gs c = fits_one image before g gs c

  -- one place of a layout
  pub fits-some : (form : Form) (image : List ℕ) (i : ℕ) (before : Laid) (f : Option Laid) → i < places form image → WithinLoad (length image) (load_at setup form image i) → f ≡ fit_of setup before (load_at setup form image i)
      → fits setup before (rest setup form image i) ≡ then setup f (rest setup form image (i + 1))
  fits-some form image i before f h w e =
      let l = load_at setup form image i in
      ap (fits setup before) (rest_some setup form image i h) ∙ fits-load image before l (rest setup form image (i + 1)) w
      ∙ ap (λ (x : Option Laid). then setup x (rest setup form image (i + 1))) (sym e)

  -- no more places
  pub fits-end : (form : Form) (image : List ℕ) (i : ℕ) (before : Laid) → places form image ≤ i → fits setup before (rest setup form image i) ≡ Some before
  fits-end form image i before h = ap (fits setup before) (rest-none setup form image i h) ∙ split before.closed (λ q. rw q) (λ q. rw q)

-- ---- the whole layout

-- the bss of what the last segment leaves is the program's
pub last-bss : (before : Laid) (g : Segment) (gs : List Segment) → (last_of before (g ∷ gs)).bss ≡ bss_of (g ∷ gs)
last-bss before g [] = refl
last-bss before g (h ∷ gs) = last-bss (record { closed = g.perm is 3; bss = bss_of (g ∷ []) }) h gs

pub all-bss : (gs : List Segment) → (last_of nothing gs).bss ≡ bss_of gs
all-bss [] = refl
all-bss (g ∷ gs) = last-bss nothing g gs

pub whole-layout : (setup : Setup) (gs : List Segment) (t : Laid) → fits setup nothing gs ≡ Some t → bss_behind setup gs ≡ Some t.bss
whole-layout setup gs t e =
    split (layout_ok setup gs)
    (λ q. let z : Some (last_of nothing gs) ≡ Some t = rw q at e in let w : last_of nothing gs ≡ t = cc in rw (q, ← all-bss gs, w))
    (λ q. let z : ◌≡◌ {A = Option Laid} None (Some t) = rw q at e in cc)

pub no-layout : (setup : Setup) (gs : List Segment) → fits setup nothing gs ≡ None → bss_behind setup gs ≡ None
no-layout setup gs e =
    split (layout_ok setup gs)
    (λ q. let z : ◌≡◌ {A = Option Laid} (Some (last_of nothing gs)) None = rw q at e in cc)
    (λ q. rw q)
