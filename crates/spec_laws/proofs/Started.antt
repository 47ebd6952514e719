-- What a start makes of an accepted program: a whole record, and pages with the record's permissions.
use Prim.Native.Nat.{ℕ, zero, suc, ◌+◌, ◌-◌, ◌≤◌, ◌<◌}
use native.Mathlib.Omega.{arith}
use mathlib.Core.Path.{◌≡◌, refl, sym, ap, ◌∙◌}
use Rattle.std.specs.Prelude.{Some}
use mathlib.Core.List.{List, [], ◌∷◌, ◌++◌}
use lib.ListN.{length, get_or, take, replicate, length-append, length-replicate, length-take}
use borrow.Author.Tests.{ltb-true}
use Rattle.spec.proofs.Bools.{split}
use Rattle.spec.specs.Tests.{◌below◌, within, ascii}
use Rattle.spec.specs.Numbers.{limit, page_up, SetupOk}
use Rattle.spec.specs.Name.{elem, cut, padded, kstrcpy}
use Rattle.spec.specs.Book.{zero_segment, stack, bss_segment, perm_at, pieces_of}
use Rattle.spec.specs.Program.{Segment, Program}
use Rattle.spec.specs.Exec.{user_segment, program_segments, program_bss, start_pieces, kept}
use Rattle.spec.specs.World.{proc_of}
use Rattle.spec.specs.declared.UserSegment.{UserSegment}
use Rattle.spec.specs.declared.Setup.{Setup}
use Rattle.spec_laws.proofs.Lists.{Each, each_append}
use Rattle.spec_laws.proofs.Record.{WholeProc}
use Rattle.spec_laws.proofs.Shape.{image_end, shape-image, shape-bss}
use Rattle.spec_laws.proofs.Pieces.{Pieces, tail-same, perm-past, perm-each}
use Rattle.spec_laws.proofs.OwnPieces.{image-high, image-apart, bss-stack-apart, bss-stack-low, swap-stack, shape_pieces, shape-between}
use Rattle.spec_laws.proofs.Accepted.{Accepted, non_empty, program-recorded, program-shape}
use Rattle.spec_laws.proofs.Loads.{AllLoad}

-- ---- its record

padded-long : (s : List ℕ) → length s ≤ 28 → length (padded s) ≡ 28
padded-long s l = omega (arith, length-append s (replicate (28 - length s) 0), length-replicate {A = ℕ} (28 - length s) 0)

pub cut_low : (s : List ℕ) (n : ℕ) → cut s n ≤ n
cut_low s zero = omega arith
cut_low s (suc n) = let h = cut_low s n in split (within 128 192 (get_or s (suc n) 0)) (λ q. rw q (omega arith)) (λ q. rw q (omega arith))

-- a name is 28 bytes
pub name-long : (s : List ℕ) → length (kstrcpy s) ≡ 28
name-long s =
    split (length s below 28)
    (λ q. let l = ltb-true (length s) 28 q in rw q (padded-long s (omega arith)))
    (λ q. rw q (padded-long (take (cut s 24) s ++ ascii "...") (omega (arith, length-append (take (cut s 24) s) (ascii "..."), length-take (cut s 24) s, cut_low s 24))))

pub proc-whole : (setup : Setup) (p : Program) (name : List ℕ) → Accepted setup p → WholeProc (proc_of setup p name)
proc-whole setup p name e = record {
  segments =
      let k : ℕ = 15 - length (program_segments p) in
      omega (arith, length-append (program_segments p) (stack setup ∷ replicate k zero_segment), length-replicate k zero_segment, e.few);
  text = name-long (elem name);
}

-- ---- its pages

-- permissions are 1 to 3
pub start-perm : (setup : Setup) (ok : SetupOk setup) (p : Program) → Accepted setup p → (a q : ℕ) → perm_at (start_pieces setup p) a ≡ Some q → (1 ≤ q) × (q ≤ 3)
start-perm setup ok p e =
    perm-each (λ q. (1 ≤ q) × (q ≤ 3)) (start_pieces setup p)
    (each_append _ (program_segments p) (bss_segment (program_bss p) ∷ stack setup ∷ []) (each p.segments 0 e.read.loads) ((omega arith, omega arith), ((omega arith, omega arith), tt)))
  where
    each : (gs : List Segment) (end : ℕ) → AllLoad end gs → Each (λ g. (1 ≤ g.perm) × (g.perm ≤ 3)) (kept (program_bss p) gs)
    each [] end l = tt
    each (g ∷ gs) end l =
        let more = each gs (page_up (g.vaddr + g.memsz)) l.1 in
        split (non_empty (user_segment (program_bss p) g)) (λ q. rw q (l.0.perm, more)) (λ q. rw q more)

module _ (setup : Setup) (ok : SetupOk setup) where
  -- they are aligned and disjoint
  pub start-apart : (p : Program) → Accepted setup p → Pieces (start_pieces setup p)
  start-apart p e =
      let r = program-recorded setup ok p e in
      let end : ℕ = image_end setup.utzero (program_segments p) in
      image-apart setup setup.utzero (program_segments p) (bss_segment (program_bss p) ∷ stack setup ∷ []) r.ascends (bss-stack-apart setup ok end (program_bss p) r.bss-ok) (bss-stack-low setup ok end (program_bss p) r.bss-ok)

  -- the pages in the order of a start, and of the record that it leaves, give every address the same
  pub start-pieces : (p : Program) (name : List ℕ) → Accepted setup p → (a : ℕ) → perm_at (start_pieces setup p) a ≡ perm_at (pieces_of (proc_of setup p name)) a
  start-pieces p name e a =
      let r = program-recorded setup ok p e in
      tail-same (program_segments p) (bss_segment (program_bss p) ∷ stack setup ∷ []) (stack setup ∷ bss_segment (program_bss p) ∷ []) a (swap-stack setup ok (image_end setup.utzero (program_segments p)) (program_bss p) r.bss-ok a)
      ∙ ap (λ (x : List UserSegment). perm_at x a) (sym (shape_pieces setup (proc_of setup p name) (program_segments p) (program-shape setup ok p name e)))

  -- they lie in user memory
  pub start_between : (p : Program) → Accepted setup p → (a q : ℕ) → perm_at (start_pieces setup p) a ≡ Some q → (setup.utzero ≤ a) × (a < setup.uaddrtop)
  start_between p e a q f =
      shape-between setup ok (proc_of setup p []) (program_segments p) (program-shape setup ok p [] e) a q (sym (start-pieces p [] e a) ∙ f)

-- what lies above the limit is data: the pages that a start pushes its arguments to
pub start-data : (setup : Setup) → SetupOk setup → (p : Program) → Accepted setup p → (a q : ℕ) → limit setup ≤ a → perm_at (start_pieces setup p) a ≡ Some q → q ≡ 3
start-data setup ok p e a q l f =
    let r = proc_of setup p [] in
    let h = program-shape setup ok p [] e in
    let b = shape-bss setup r (program_segments p) h in
    let none-there = image-high setup setup.utzero (program_segments p) (shape-image setup r (program_segments p) h) a (omega (arith, b.past, b.order, b.aligned, b.low)) in
    let pieces = shape_pieces setup r (program_segments p) h in
    perm-each (λ x. x ≡ 3) (stack setup ∷ bss_segment (program_bss p) ∷ []) (refl, (refl, tt)) a q
    (sym (start-pieces setup ok p [] e a ∙ ap (λ (x : List UserSegment). perm_at x a) pieces ∙ perm-past (program_segments p) (stack setup ∷ bss_segment (program_bss p) ∷ []) a none-there) ∙ f)
