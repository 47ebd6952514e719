-- A refusal changes nothing; a setup that is not accepted is refused directly after 1; a start takes as many frames as its pages
-- count.
use Prim.Native.Nat.{ℕ, ◌+◌, ◌≤◌}
use native.Mathlib.Omega.{arith}
use mathlib.Core.Path.{◌≡◌, refl}
use mathlib.Core.Bool.{Bool, true, false, not, ◌&&◌}
use mathlib.Core.List.{List}
use lib.ListN.{length}
use borrow.Author.Tests.{ltb-false, ne_eqb}
use Rattle.spec.proofs.Bools.{un_not, within-means}
use Rattle.spec.proofs.Free.{free-place, length-pages, pokes-book}
use Rattle.spec.specs.Tests.{◌is◌, ◌isnt◌, ◌above◌, ◌⇒◌else◌, sum}
use Rattle.spec.specs.Book.{valid, free, page_count}
use Rattle.spec.specs.Numbers.{setup_error, page_bytes}
use Rattle.spec.specs.Program.{Program}
use Rattle.spec.specs.Image.{program_of}
use Rattle.spec.specs.Exec.{start_pieces, file_byte, args_of, args_error, image_error, registers}
use Rattle.spec.specs.Machine.{Ask, start, Call, accepted, refused, Reply, outcome, outcome_of, refuse, plainly, lengths_fit, judge}
use Rattle.spec.specs.World.{State, sound, taken, answer, after, load}
use Rattle.spec.specs.Frames.{sized, pages_of}
use Rattle.spec.specs.declared.Form.{Form}
use Rattle.spec.specs.declared.Answer.{Answer}
use Rattle.spec.specs.declared.Answer.TheVariants.{Regs, Refused}

pub refused-keeps : (s : State) (c : Call) → outcome (answer s c) ≡ refused → after s c ≡ s
unfolding after
refused-keeps s c e = rw e

pub bad-setup : (s : State) (c : Call) → sized s.store ≡ true → lengths_fit c.ask ≡ true → (setup_error s.setup ≡ 0 → ⊥) → answer s c ≡ refuse (setup_error s.setup) c.ask
unfolding answer
bad-setup s c p q r = rw (p, q, ne_eqb (setup_error s.setup) 0 r)

loaded-frames : (s : State) (n : ℕ) (program : Program) (name : List ℕ) (args : List (List ℕ)) → n ≤ 16 → page_count (start_pieces s.setup program) ≤ free s.store.book
    → free (load s n program name args).store.book + page_count (start_pieces s.setup program) ≡ free s.store.book
loaded-frames s n program name args h l =
    let f : ℕ → List ℕ = page_bytes (file_byte program.segments) in
    let e = length-pages f (start_pieces s.setup program) in
    let p = free-place s.store n (pages_of f (start_pieces s.setup program)) h (rw e l) in
    rw (pokes-book, pokes-book, ← e) p

-- ---- a start that is accepted

passed : (t : Bool) (k : ℕ) (q : Ask) (b : Reply) → outcome (t ⇒ refuse k q else b) ≡ accepted → (t ≡ false) × (outcome b ≡ accepted)
passed true k q b e = absurd (let z : ◌≡◌ {A = ℕ} 0 1 = cc in omega arith)
passed false k q b e = (refl, e)

passed-answer : (t : Bool) (k : ℕ) (b : Answer) → outcome_of (t ⇒ Refused k else b) ≡ accepted → (t ≡ false) × (outcome_of b ≡ accepted)
passed-answer true k b e = absurd (let z : ◌≡◌ {A = ℕ} 0 1 = cc in omega arith)
passed-answer false k b e = (refl, e)

pub start-takes : (s : State) (n : ℕ) (form : Form) (image name bytes lengths : List ℕ)
    → let c : Call = record { number = n; ask = start form image name bytes lengths } in
    outcome (answer s c) ≡ accepted → free (after s c).store.book + page_count (start_pieces s.setup (program_of s.setup form image)) ≡ free s.store.book
unfolding answer judge after
start-takes s n form image name bytes lengths e =
    let q : Ask = start form image name bytes lengths in
    let args : List (List ℕ) = args_of bytes lengths in
    let a8 : Answer = Regs (registers (program_of s.setup form image).entry s.setup.ustktop args) in
    let a7 : Answer = page_count (start_pieces s.setup (program_of s.setup form image)) above free s.store.book ⇒ Refused 33 else a8 in
    let a6 : Answer = image_error s.setup form image isnt 0 ⇒ Refused (image_error s.setup form image) else a7 in
    let a5 : Reply = plainly (args_error s.setup args isnt 0 ⇒ Refused (args_error s.setup args) else a6) in
    let a4 : Reply = not (not (taken s n)) ⇒ refuse 5 q else a5 in
    let a3 : Reply = not (valid n) ⇒ refuse 3 q else a4 in
    let a2 : Reply = not (sum lengths is length bytes) ⇒ refuse 1 q else a3 in
    let a1 : Reply = not (sound s) ⇒ refuse 2 q else a2 in
    let a0 : Reply = setup_error s.setup isnt 0 ⇒ refuse (setup_error s.setup) q else a1 in
    let p0 = passed (not (sized s.store && sum lengths is length bytes)) 1 q a0 e in
    let p1 = passed (setup_error s.setup isnt 0) (setup_error s.setup) q a1 p0.1 in
    let p2 = passed (not (sound s)) 2 q a2 p1.1 in
    let p3 = passed (not (sum lengths is length bytes)) 1 q a3 p2.1 in
    let p4 = passed (not (valid n)) 3 q a4 p3.1 in
    let p5 = passed (not (not (taken s n))) 5 q a5 p4.1 in
    let p6 = passed-answer (args_error s.setup args isnt 0) (args_error s.setup args) a6 p5.1 in
    let p7 = passed-answer (image_error s.setup form image isnt 0) (image_error s.setup form image) a7 p6.1 in
    let p8 = passed-answer (page_count (start_pieces s.setup (program_of s.setup form image)) above free s.store.book) 33 a8 p7.1 in
    let hi : n ≤ 16 = omega (arith, (within-means 1 17 n (un_not (valid n) p4.0)).1) in
    rw e (loaded-frames s n (program_of s.setup form image) name args hi (ltb-false _ _ p8.0))
