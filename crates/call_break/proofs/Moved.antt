-- A break: what moves, and its answer.
use Prim.Native.Nat.{ℕ, zero, suc, ◌-◌, ◌/◌, ◌^◌, ◌≤◌, ◌<◌}
use native.Mathlib.Omega.{arith}
use mathlib.Core.Path.{◌≡◌, refl, sym, ap, ap₂, ◌∙◌}
use mathlib.Core.Bool.{Bool, false, ◌&&◌, and-false}
use Rattle.std.specs.Prelude.{Some}
use mathlib.Core.List.{List, [], ◌∷◌}
use borrow.Author.Tests.{eq-eqb, ne_eqb}
use Rattle.spec.specs.Tests.{◌is◌, ◌isnt◌, within, ◌⇒◌else◌}
use Rattle.spec.specs.Numbers.{page_up, zero_page}
use Rattle.spec.specs.Book.{range, page_of, frame_count, mapping, holders, segment, proc_at}
use Rattle.spec.specs.Frames.{Store, enter, sweep, pages_of, place, let_go, release}
use Rattle.spec.specs.Segment.{Break, ibrk}
use Rattle.spec.specs.Machine.{weigh_break}
use Rattle.spec.specs.World.{State, brk}
use Rattle.spec.specs.declared.Setup.{Setup}
use Rattle.spec.specs.declared.VirtRange.{VirtRange}
use Rattle.spec.specs.declared.Answer.TheVariants.{Value, Refused}
use Rattle.spec.proofs.Bools.{within-not}
use Rattle.spec_history.proofs.Accepted.{Moves}
use Rattle.segment.proofs.Cases.{moves}
use Rattle.spec.proofs.Chain.{isnt-holds, isnt-fails}

-- ---- pages

-- mappings of pages that no test takes stay
none-taken : (n : ℕ) (t : ℕ → Bool) → ((page : ℕ) → t page ≡ false) → (book : List ℕ) (c : ℕ) → sweep (let_go n t) book c ≡ book
none-taken n t h book zero = refl
none-taken n t h book (suc c) =
    ap (λ (b : List ℕ). let_go n t b c) (none-taken n t h book c)
    ∙ ap (λ (b : Bool). b ⇒ enter book c n 0 (holders book c - 1) else book) (ap (λ (b : Bool). (mapping book c n isnt 0) && b) (h (page_of (mapping book c n))) ∙ and-false (mapping book c n isnt 0))

-- a bss that grows frees nothing
pub grows-free : (m : Store) (n old new : ℕ) → old ≤ new → release m n (within new old) ≡ m
unfolding release
grows-free m n old new h =
    ap (λ (b : List ℕ). record { frames = m.frames; book = b })
    (none-taken n (within new old) (λ page. within-not new old page (λ x y. omega arith)) m.book (frame_count m.book))

-- a bss that shrinks places nothing
pub shrinks-place : (m : Store) (n old new : ℕ) → new ≤ old → place m n (pages_of zero_page (segment old new 3 ∷ [])) ≡ m
unfolding place
shrinks-place m n old new h = let z : (new - old) / 4096 ≡ 0 = omega arith in rw z

-- ---- the answer

-- the rule over what the code found is the rule over what the process holds
pub break-rule : (setup : Setup) (b : Break) (bss bss' : VirtRange) (addr free free' : ℕ) → b ≡ ibrk setup (Some bss) addr free → bss ≡ bss' → free ≡ free' → b ≡ ibrk setup (Some bss') addr free'
break-rule setup b bss bss' addr free free' rule same count = rule ∙ ap₂ (λ (x : VirtRange) (f : ℕ). ibrk setup (Some x) addr f) same count

module _ (b x : Break) (rule : b ≡ x) where
  pub break-refused : (b.error ≡ 0 → ⊥) → weigh_break x ≡ Refused b.error
  break-refused ne = ap weigh_break (sym rule) ∙ rw (isnt-holds b.error 0 ne)

  pub break-accepted : b.error ≡ 0 → weigh_break x ≡ Value b.value
  break-accepted z = ap weigh_break (sym rule) ∙ rw (isnt-fails b.error 0 z)

-- an end that moves is the address, rounded up
pub break-ends : (setup : Setup) (bss : VirtRange) (addr free value : ℕ) (x : VirtRange) → record { error = 0; value = value; bss = Some x } ≡ ibrk setup (Some bss) addr free → (addr ≡ 0 → ⊥) → Moves setup bss addr free → page_up addr < 2 ^ 64 → x.end ≡ page_up addr
break-ends setup bss addr free value x rule ne m fits =
    let e = rule ∙ moves setup bss addr free ne m.above-start fits m.low (omega (arith, m.room)) in
    let s : Some x ≡ Some (range bss.start (page_up addr)) = ap (λ (y : Break). y.bss) e in
    let same : x ≡ range bss.start (page_up addr) = cc in
    ap (λ (r : VirtRange). r.end) same

-- ---- what it leaves

pub breaks-nothing : (s : State) (n addr : ℕ) → addr ≡ 0 → s ≡ (addr is 0 ⇒ s else brk s n (proc_at s.procs n) (page_up addr))
breaks-nothing s n addr z = rw (eq-eqb addr 0 z)

pub breaks-moved : (s t : State) (n addr : ℕ) → (addr ≡ 0 → ⊥) → t ≡ brk s n (proc_at s.procs n) (page_up addr) → t ≡ (addr is 0 ⇒ s else brk s n (proc_at s.procs n) (page_up addr))
breaks-moved s t n addr ne h = h ∙ rw (ne_eqb addr 0 ne)
