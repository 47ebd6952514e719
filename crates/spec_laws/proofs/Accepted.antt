-- An accepted program: its segments and bss have the shape that soundness asks of a record.
use Prim.Native.Nat.{ℕ, suc, ◌+◌, ◌≤◌, ◌<◌}
use native.Mathlib.Omega.{arith}
use mathlib.Core.Path.{◌≡◌, refl, sym, subst}
use mathlib.Core.Bool.{Bool, true, false, not, ◌&&◌, ◌||◌}
use mathlib.Core.List.{List, [], ◌∷◌}
use lib.ListN.{length}
use borrow.Author.Tests.{eqb-true, ltb-true, ltb-false, ne_eqb, lt-ltb}
use Rattle.spec.proofs.Bools.{split, both, or-first, not-true, un_not, not-below}
use Rattle.spec.specs.Tests.{◌is◌, ◌isnt◌, ◌below◌, ◌above◌, ◌⇒◌else◌, filter}
use Rattle.spec.specs.Numbers.{limit, page_up, page_down, SetupOk}
use Rattle.spec.specs.Book.{range, segment}
use Rattle.spec.specs.Sound.{ImageSegment, Shape}
use Rattle.spec.specs.Program.{Segment, Program}
use Rattle.spec.specs.Image.{read_error, program_of}
use Rattle.spec.specs.Exec.{layout_ok, bss_of, user_segment, kept, program_segments, program_bss, layout_error, image_error}
use Rattle.spec.specs.World.{proc_of}
use Rattle.spec.specs.declared.VirtRange.{VirtRange}
use Rattle.spec.specs.declared.UserSegment.{UserSegment}
use Rattle.spec.specs.declared.Setup.{Setup}
use Rattle.spec.specs.declared.Form.{Form}
use Rattle.spec.specs.declared.Form.TheVariants.{Elf, Aout}
use Rattle.spec_laws.proofs.Checks.{passes, failed}
use Rattle.spec_laws.proofs.Loads.{Loads, AllLoad}
use Rattle.spec_laws.proofs.Headers.{elf-loads, elf-some}
use Rattle.spec_laws.proofs.Aouts.{aout-means, aout-loads, aout-some}
use Rattle.spec_laws.proofs.Shape.{Image, image_end, Bss, shape-made}

-- what a reader leaves of an image that it accepts: segments that load in order, one at least
pub record Read (p : Program) : Type 0 where
  pub loads : AllLoad 0 p.segments
  pub some-segment : p.segments ≡ [] → ⊥

pub read-means : (setup : Setup) → SetupOk setup → (form : Form) (image : List ℕ) → read_error setup form image ≡ 0 → Read (program_of setup form image)
read-means setup ok Elf image e = record { loads = elf-loads setup.flags image ok.table e; some-segment = elf-some setup.flags image e }
read-means setup ok (Aout magic) image e =
    record { loads = aout-loads setup image (aout-means setup magic image e); some-segment = aout-some setup image }

module _ (setup : Setup) where
  -- a program is accepted if its layout passes too, and it records at most 15 segments
  pub record Accepted (p : Program) : Type 0 where
    pub read : Read p
    pub layout : layout_ok setup p.segments ≡ true
    pub few : length (program_segments p) ≤ 15

  abbrev tests : Program → List (Bool × ℕ)
  tests p = (not (layout_ok setup p.segments), 30) ∷ (length (program_segments p) above 15, 31) ∷ []

  -- an image that is accepted has passed its reader and `layout`
  pub image-passes : (form : Form) (image : List ℕ) → image_error setup form image ≡ 0 → (read_error setup form image ≡ 0) × (layout_error setup (program_of setup form image) ≡ 0)
  image-passes form image e =
      let read : List (Bool × ℕ) = (read_error setup form image isnt 0, 30) ∷ [] in
      let r = passes read (layout_error setup (program_of setup form image)) refl e in
      (eqb-true _ _ (un_not _ (failed read r.0 0 (omega arith))), r.1)

  pub accepted-means : SetupOk setup → (form : Form) (image : List ℕ) → image_error setup form image ≡ 0 → Accepted (program_of setup form image)
  accepted-means ok form image e =
      let p : Program = program_of setup form image in
      let r = image-passes form image e in
      let no = failed (tests p) (passes (tests p) 0 refl r.1).0 in
      record { read = read-means setup ok form image r.0; layout = un_not _ (no 0 (omega arith)); few = ltb-false _ _ (no 1 (omega arith)) }

  -- ---- its recorded segments and bss

  -- what `layout` says of a segment
  pub record Placed (g : Segment) : Type 0 where
    pub start : setup.utzero ≤ g.vaddr
    pub end : g.vaddr + g.memsz ≤ limit setup

  pub layout-first : (g : Segment) (gs : List Segment) → layout_ok setup (g ∷ gs) ≡ true → Placed g × ((g.perm isnt 3 || length gs is 0) ≡ true) × (layout_ok setup gs ≡ true)
  layout-first g gs e =
      let p = both (not (g.vaddr below setup.utzero) && not (g.vaddr + g.memsz above limit setup) && (g.perm isnt 3 || length gs is 0)) (layout_ok setup gs) e in
      let q = both (not (g.vaddr below setup.utzero) && not (g.vaddr + g.memsz above limit setup)) (g.perm isnt 3 || length gs is 0) p.0 in
      let r = both (not (g.vaddr below setup.utzero)) (not (g.vaddr + g.memsz above limit setup)) q.0 in
      (record { start = not-below g.vaddr setup.utzero r.0; end = not-below (limit setup) (g.vaddr + g.memsz) r.1 }, q.1, p.1)

  -- a segment that others follow is no data
  pub no-data : (g h : Segment) (gs : List Segment) → layout_ok setup (g ∷ h ∷ gs) ≡ true → (g.perm is 3) ≡ false
  no-data g h gs e = not-true (g.perm is 3) (or-first (g.perm isnt 3) (length (h ∷ gs) is 0) (layout-first g (h ∷ gs) e).1 (ne_eqb (suc (length gs)) 0 (λ z. omega arith)))

abbrev pub non_empty : UserSegment → Bool
non_empty s = s.range.start below s.range.end

-- a segment that isn't data is recorded whole
other-image : (setup : Setup) (ok : SetupOk setup) (end : ℕ) (g : Segment) → Loads end g → Placed setup g → ImageSegment setup (segment (page_down g.vaddr) (page_up (g.vaddr + g.memsz)) g.perm)
other-image setup ok end g l p = record { aligned = (omega arith, omega arith); some-page = omega (arith, l.some_byte); between = (omega (arith, p.start), omega (arith, p.end)) }

-- recorded segments from `end` on, and the bss above them
pub record Recorded (setup : Setup) (end : ℕ) (b : VirtRange) (us : List UserSegment) : Type 0 where
  pub ascends : Image setup end us
  pub bss-ok : Bss setup (image_end end us) b

last_made : (setup : Setup) (end : ℕ) (g : Segment) (b : VirtRange) (u : UserSegment) → bss_of (g ∷ []) ≡ b → user_segment b g ≡ u
    → Recorded setup end b (filter non_empty (u ∷ [])) → Recorded setup end (bss_of (g ∷ [])) (kept (bss_of (g ∷ [])) (g ∷ []))
last_made setup end g b u eb eu r =
    subst (λ (x : VirtRange). Recorded setup end x (kept x (g ∷ []))) (sym eb) (subst (λ (y : UserSegment). Recorded setup end b (filter non_empty (y ∷ []))) (sym eu) r)

module _ (setup : Setup) (ok : SetupOk setup) where
  -- one last segment that isn't data
  last-other : (end : ℕ) (g : Segment) → Loads end g → Placed setup g → (g.perm is 3) ≡ false → Recorded setup end (bss_of (g ∷ [])) (kept (bss_of (g ∷ [])) (g ∷ []))
  last-other end g l p q =
      let top : ℕ = page_up (g.vaddr + g.memsz) in
      let u : UserSegment = segment (page_down g.vaddr) top g.perm in
      let k : non_empty u ≡ true = lt-ltb (page_down g.vaddr) top (omega (arith, l.some_byte)) in
      last_made setup end g (range top top) u (rw q) (rw q) (rw k (record {
        ascends = (other-image setup ok end g l p, l.ordered, tt);
        bss-ok = record { start = omega (arith, p.start); order = omega arith; aligned = omega arith; low = omega (arith, p.end); past = omega arith };
      }))

  -- one last segment that is: its file's pages, and the bss from the file's end
  last-data : (end : ℕ) (g : Segment) → Loads end g → Placed setup g → (g.perm is 3) ≡ true → Recorded setup end (bss_of (g ∷ [])) (kept (bss_of (g ∷ [])) (g ∷ []))
  last-data end g l p q =
      let from : ℕ = g.vaddr + length g.file in
      let b : VirtRange = range from (page_up (g.vaddr + g.memsz)) in
      let u : UserSegment = segment (page_down g.vaddr) (page_up from) g.perm in
      split (non_empty u)
      (λ k.
      let s : page_down g.vaddr < page_up from = ltb-true _ _ k in
      last_made setup end g b u (rw q) (rw q) (rw k (record {
        ascends = (record { aligned = (omega arith, omega arith); some-page = s; between = (omega (arith, p.start), omega (arith, p.end, l.file)) }, l.ordered, tt);
        bss-ok = record { start = omega (arith, p.start); order = omega (arith, l.file); aligned = omega arith; low = omega (arith, p.end); past = omega arith };
      })))
      (λ k. last_made setup end g b u (rw q) (rw q) (rw k (record {
        ascends = tt;
        bss-ok = record { start = omega (arith, p.start); order = omega (arith, l.file); aligned = omega arith; low = omega (arith, p.end); past = omega (arith, l.ordered) };
      })))

  -- and all of them: nothing follows data
  pub recorded-all : (end : ℕ) (g : Segment) (gs : List Segment) → AllLoad end (g ∷ gs) → layout_ok setup (g ∷ gs) ≡ true → Recorded setup end (bss_of (g ∷ gs)) (kept (bss_of (g ∷ gs)) (g ∷ gs))
  recorded-all end g [] l e =
      let p = layout-first setup g [] e in
      split (g.perm is 3) (λ q. last-data end g l.0 p.0 q) (λ q. last-other end g l.0 p.0 q)
  recorded-all end g (h ∷ gs) l e =
      let p = layout-first setup g (h ∷ gs) e in
      let b : VirtRange = bss_of (h ∷ gs) in
      let top : ℕ = page_up (g.vaddr + g.memsz) in
      let u : UserSegment = segment (page_down g.vaddr) top g.perm in
      let more = recorded-all top h gs l.1 p.2 in
      let k : non_empty u ≡ true = lt-ltb (page_down g.vaddr) top (omega (arith, l.0.some_byte)) in
      let q = no-data setup g h gs e in
      let eu : user_segment b g ≡ u = rw q in
      subst (λ (y : UserSegment). Recorded setup end b (non_empty y ⇒ y ∷ kept b (h ∷ gs) else kept b (h ∷ gs))) (sym eu)
      (rw k (record { ascends = (other-image setup ok end g l.0 p.0, l.0.ordered, more.ascends); bss-ok = more.bss-ok }))

  from-utzero : (gs : List Segment) → AllLoad 0 gs → layout_ok setup gs ≡ true → AllLoad setup.utzero gs
  from-utzero [] l e = tt
  from-utzero (g ∷ gs) l e =
      (record { file = l.0.file; some_byte = l.0.some_byte; perm = l.0.perm; ordered = omega (arith, (layout-first setup g gs e).0.start) }, l.1)

  pub program-recorded : (p : Program) → Accepted setup p → Recorded setup setup.utzero (program_bss p) (program_segments p)
  program-recorded p a = go p.segments (from-utzero p.segments a.read.loads a.layout) a.layout a.read.some-segment
    where
      go : (gs : List Segment) → AllLoad setup.utzero gs → layout_ok setup gs ≡ true → (gs ≡ [] → ⊥) → Recorded setup setup.utzero (bss_of gs) (kept (bss_of gs) gs)
      go [] l h s = absurd (s refl)
      go (g ∷ gs) l h s = recorded-all setup.utzero g gs l h

  -- its record has the shape that soundness asks
  pub program-shape : (p : Program) (name : List ℕ) → Accepted setup p → Shape setup (proc_of setup p name) (program_segments p)
  program-shape p name a =
      let r = program-recorded p a in
      shape-made setup (proc_of setup p name) (program_segments p) refl a.few r.ascends r.bss-ok
