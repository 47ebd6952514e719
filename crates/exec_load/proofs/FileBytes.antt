-- Which segment an address's file byte comes from, and where there is none.
use Prim.Native.Nat.{ℕ, ◌+◌, ◌-◌, ◌≤◌, ◌<◌}
use native.Mathlib.Omega.{arith}
use mathlib.Core.Path.{◌≡◌, refl}
use mathlib.Core.Bool.{Bool, true, false}
use mathlib.Core.List.{List, [], ◌∷◌}
use lib.ListN.{length, get_or}
use Rattle.spec.specs.Tests.{◌is◌, ◌⇒◌else◌}
use Rattle.spec.specs.Numbers.{page_up}
use Rattle.spec.specs.Program.{Segment, in_file}
use Rattle.spec.specs.Exec.{file_byte, bss_of}
use Rattle.spec.proofs.Bools.{split, within-not}
use Rattle.pagealloc.specs.Contents.{file_at}
use Rattle.spec_laws.proofs.Loads.{Loads, AllLoad}

-- below all segments there is no file byte
file-low : (e : ℕ) (gs : List Segment) → AllLoad e gs → (x : ℕ) → x < e → file_byte gs x ≡ 0
file-low e [] l x h = refl
file-low e (g ∷ gs) l x h =
    let o = l.0.ordered in
    rw (within-not g.vaddr (g.vaddr + length g.file) x (λ p q. omega arith))
    (file-low (page_up (g.vaddr + g.memsz)) gs l.1 x (omega arith))

-- in a segment's pages it is the segment's
pub file-head : (e : ℕ) (g : Segment) (gs : List Segment) → AllLoad e (g ∷ gs) → (x : ℕ) → x < page_up (g.vaddr + g.memsz) → file_byte (g ∷ gs) x ≡ file_at g.vaddr g.file x
file-head e g gs l x h = go (in_file x g) refl
  where
    go : (b : Bool) → in_file x g ≡ b → (b ⇒ get_or g.file (x - g.vaddr) 0 else file_byte gs x) ≡ (b ⇒ get_or g.file (x - g.vaddr) 0 else 0)
    go true q = refl
    go false q = file-low (page_up (g.vaddr + g.memsz)) gs l.1 x h

-- past a segment's pages it is a later one's
pub file-tail : (e : ℕ) (g : Segment) (gs : List Segment) → Loads e g → (x : ℕ) → page_up (g.vaddr + g.memsz) ≤ x → file_byte (g ∷ gs) x ≡ file_byte gs x
file-tail e g gs l x h =
    let f = l.file in
    rw (within-not g.vaddr (g.vaddr + length g.file) x (λ p q. omega arith))

-- from the bss's start on there is none
pub file-high : (e : ℕ) (gs : List Segment) → AllLoad e gs → (x : ℕ) → (bss_of gs).start ≤ x → file_byte gs x ≡ 0
file-high e [] l x h = refl
file-high e (g ∷ []) l x h =
    let f = l.0.file in
    split (g.perm is 3)
    (λ q. let s : g.vaddr + length g.file ≤ x = rw q at h in rw (within-not g.vaddr (g.vaddr + length g.file) x (λ p r. omega arith)))
    (λ q. let s : page_up (g.vaddr + g.memsz) ≤ x = rw q at h in rw (within-not g.vaddr (g.vaddr + length g.file) x (λ p r. omega arith)))
file-high e (g ∷ k ∷ gs) l x h =
    let f = l.0.file in
    let low = start-low (page_up (g.vaddr + g.memsz)) k gs l.1 in
    rw (within-not g.vaddr (g.vaddr + length g.file) x (λ p r. omega arith)) (file-high (page_up (g.vaddr + g.memsz)) (k ∷ gs) l.1 x h)
  where
    -- the bss starts behind all segments
    start-low : (c : ℕ) (u : Segment) (us : List Segment) → AllLoad c (u ∷ us) → c ≤ (bss_of (u ∷ us)).start
    start-low c u [] m =
        let o = m.0.ordered in
        split (u.perm is 3) (λ q. rw q (omega arith)) (λ q. rw q (omega arith))
    start-low c u (w ∷ us) m =
        let o = m.0.ordered in
        let r = start-low (page_up (u.vaddr + u.memsz)) w us m.1 in omega arith
