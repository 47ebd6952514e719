-- What an accepted call tells, for each of the calls that change something: who lives, and that its own tests passed.
use Rattle.std.specs.Prelude.{Ok, Err, Some}
use Prim.Native.Nat.{ℕ, ◌+◌, ◌*◌, ◌-◌, ◌%◌, ◌^◌, ◌≤◌}
use native.Mathlib.Omega.{arith}
use mathlib.Core.Path.{◌≡◌, refl, sym, ap, ◌∙◌}
use mathlib.Core.Bool.{Bool, true, false, not}
use mathlib.Core.List.{List}
use lib.ListN.{length}
use borrow.Author.Tests.{eqb-true, ltb-true, ltb-false, ne_eqb}
use Rattle.spec.proofs.Bools.{split, both, not-true, un_not}
use Rattle.spec.specs.Tests.{◌is◌, ◌isnt◌, ◌below◌, ◌above◌, ◌⇒◌else◌}
use Rattle.spec.specs.Numbers.{limit, page_up}
use Rattle.spec.specs.Book.{valid, free, alone, page_count}
use Rattle.spec.specs.Access.{◌names◌else◌, access, Checked}
use Rattle.spec.specs.Program.{Program}
use Rattle.spec.specs.Image.{program_of}
use Rattle.spec.specs.Exec.{image_error, start_pieces, args_of, args_error, registers, push_access, Argv, bad, over, read, args_read, copy_argv}
use Rattle.spec.specs.Segment.{Break, refused_by, ends_at, ibrk}
use Rattle.spec.specs.Machine.{Ask, start, replace, push, break, fork, end, copy-to-user, Call, Outcome, accepted, refused, ended, outcome, outcome_of, copied, weigh_read}
use Rattle.spec.specs.World.{State, taken, view, alone_for, answer}
use Rattle.spec.specs.declared.VirtRange.{VirtRange}
use Rattle.spec.specs.declared.UserSegment.{UserSegment}
use Rattle.spec.specs.declared.UserRegs.{UserRegs}
use Rattle.spec.specs.declared.Answer.{Answer}
use Rattle.spec.specs.declared.Answer.TheVariants.{Regs, Value, Done, Refused, Ended, EndedAt}
use Rattle.spec.specs.declared.Setup.{Setup}
use Rattle.spec.specs.declared.Form.{Form}
use Rattle.spec_laws.proofs.Accepted.{Accepted, accepted-means}
use Rattle.spec_laws.proofs.Argv.{Fits, argv-fits}
use Rattle.spec_history.proofs.Passed.{Good, good-setup, answered, accepted≢, Passed, passed}

-- ---- any call

-- a call that is not refused has passed 1 to 5
pub not-refused : (s : State) → Good s → (c : Call) (o : Outcome) → outcome (answer s c) ≡ o → (o ≡ refused → ⊥) → Passed (view s c.number) (free s.store.book) (alone_for s c) (taken s) c (λ r. outcome r ≡ o)
not-refused s g c o e h = passed (view s c.number) (free s.store.book) (alone_for s c) (taken s) c o (ap outcome (sym (answered s g c)) ∙ e) h

abbrev Accepts : State → ℕ → Ask → Type 0
Accepts s n q = outcome (answer s (record { number = n; ask = q })) ≡ accepted

went : (s : State) → Good s → (n : ℕ) (q : Ask) → Accepts s n q → Passed (view s n) (free s.store.book) (alone_for s (record { number = n; ask = q })) (taken s) (record { number = n; ask = q }) (λ r. outcome r ≡ accepted)
went s g n q e = not-refused s g (record { number = n; ask = q }) accepted e accepted≢

-- a choice that comes to what its first answer isn't
pub past : {A : Type 0} (P : A → Type 0) (t : Bool) (x y : A) → P (t ⇒ x else y) → (P x → ⊥) → (t ≡ false) × P y
past P true x y e h = absurd (h e)
past P false x y e h = (refl, e)

-- a check that comes to what no bad address is answered with
pub past-check : {A : Type 0} (P : A → Type 0) (t : Checked) (f : ℕ → A) (y : A) → P (t names f else y) → ((a : ℕ) → P (f a) → ⊥) → (t ≡ Ok tt) × P y
past-check P (Err a) f y e h = absurd (h a e)
past-check P (Ok _) f y e h = (refl, e)

abbrev Goes : Answer → Type 0
Goes a = outcome_of a ≡ accepted

refused-not : refused ≡ accepted → ⊥
refused-not e = let z : ◌≡◌ {A = ℕ} 0 1 = cc in omega arith

ended-not : ended ≡ accepted → ⊥
ended-not e = let z : ◌≡◌ {A = ℕ} 0 1 = cc in omega arith

zero_is : (k : ℕ) → (k isnt 0) ≡ false → k ≡ 0
zero_is k e = eqb-true k 0 (un_not (k is 0) e)

-- ---- start

pub record Starts (s : State) (n : ℕ) (program : Program) (args : List (List ℕ)) : Type 0 where
  pub number : valid n ≡ true
  pub dead : taken s n ≡ false
  pub args_fit : args_error s.setup args ≡ 0
  pub program-fits : Accepted s.setup program
  pub room : page_count (start_pieces s.setup program) ≤ free s.store.book

pub starts : (s : State) → Good s → (n : ℕ) (form : Form) (image name bytes lengths : List ℕ) → Accepts s n (start form image name bytes lengths) → Starts s n (program_of s.setup form image) (args_of bytes lengths)
starts s g n form image name bytes lengths e =
    let program : Program = program_of s.setup form image in
    let args : List (List ℕ) = args_of bytes lengths in
    let w = went s g n (start form image name bytes lengths) e in
    let a₃ : Answer = Regs (registers program.entry s.setup.ustktop args) in
    let a₂ : Answer = page_count (start_pieces s.setup program) above free s.store.book ⇒ Refused 33 else a₃ in
    let a₁ : Answer = image_error s.setup form image isnt 0 ⇒ Refused (image_error s.setup form image) else a₂ in
    let p₁ = past Goes (args_error s.setup args isnt 0) (Refused (args_error s.setup args)) a₁ w.weighed refused-not in
    let p₂ = past Goes (image_error s.setup form image isnt 0) (Refused (image_error s.setup form image)) a₂ p₁.1 refused-not in
    let p₃ = past Goes (page_count (start_pieces s.setup program) above free s.store.book) (Refused 33) a₃ p₂.1 refused-not in
    record { number = w.number; dead = not-true (taken s n) w.new; args_fit = zero_is _ p₁.0; program-fits = accepted-means s.setup (good-setup s g) form image (zero_is _ p₂.0); room = ltb-false _ _ p₃.0 }

-- a start ends nobody
never-ended : (a b c : Bool) (x y z : ℕ) (r : UserRegs) → outcome_of (a ⇒ Refused x else b ⇒ Refused y else c ⇒ Refused z else Regs r) ≡ ended → ⊥
never-ended true b c x y z r e = let u : ◌≡◌ {A = ℕ} 0 1 = cc in omega arith
never-ended false true c x y z r e = let u : ◌≡◌ {A = ℕ} 0 1 = cc in omega arith
never-ended false false true x y z r e = let u : ◌≡◌ {A = ℕ} 0 1 = cc in omega arith
never-ended false false false x y z r e = let u : ◌≡◌ {A = ℕ} 0 1 = cc in omega arith

pub start-ends-nobody : (s : State) → Good s → (n : ℕ) (form : Form) (image name bytes lengths : List ℕ) → outcome (answer s (record { number = n; ask = start form image name bytes lengths })) ≡ ended → ⊥
start-ends-nobody s g n form image name bytes lengths e =
    let program : Program = program_of s.setup form image in
    let args : List (List ℕ) = args_of bytes lengths in
    let w = not-refused s g (record { number = n; ask = start form image name bytes lengths }) ended e (λ z. let u : ◌≡◌ {A = ℕ} 0 1 = cc in omega arith) in
    never-ended (args_error s.setup args isnt 0) (image_error s.setup form image isnt 0) (page_count (start_pieces s.setup program) above free s.store.book) (args_error s.setup args) (image_error s.setup form image) 33 (registers program.entry s.setup.ustktop args) w.weighed

-- ---- replace

pub record Replaces (s : State) (n : ℕ) (program : Program) (argv : ℕ) : Type 0 where
  pub number : valid n ≡ true
  pub living : taken s n ≡ true
  pub program-fits : Accepted s.setup program
  pub args_fit : args_error s.setup (args_read (copy_argv s.setup (view s n).mem argv)) ≡ 0
  pub room : page_count (start_pieces s.setup program) ≤ alone s.store.book n + free s.store.book

-- arguments that were read, and frames for the new pages
read-on : (setup : Setup) (free alone : ℕ) (program : Program) (r : Argv) → Fits setup r → Goes (weigh_read setup free alone program r)
    → (args_error setup (args_read r) ≡ 0) × (page_count (start_pieces setup program) ≤ alone + free)
read-on setup free alone program (bad address) fits e = absurd (ended-not e)
read-on setup free alone program over fits e = absurd (refused-not e)
read-on setup free alone program (read args) fits e =
    let p = past Goes (page_count (start_pieces setup program) above alone + free) (Ended 33) (Regs (registers program.entry setup.ustktop args)) e ended-not in
    (fits, ltb-false _ _ p.0)

pub replaces : (s : State) → Good s → (n : ℕ) (form : Form) (image name : List ℕ) (argv : ℕ) → Accepts s n (replace form image name argv) → Replaces s n (program_of s.setup form image) argv
replaces s g n form image name argv e =
    let program : Program = program_of s.setup form image in
    let w = went s g n (replace form image name argv) e in
    let r : Argv = copy_argv s.setup (view s n).mem argv in
    let a₁ : Answer = weigh_read s.setup (free s.store.book) (alone s.store.book n) program r in
    let p₁ = past Goes (image_error s.setup form image isnt 0) (Refused (image_error s.setup form image)) a₁ w.weighed refused-not in
    let p₂ = read-on s.setup (free s.store.book) (alone s.store.book n) program r (argv-fits s.setup (good-setup s g) (view s n).mem argv r refl) p₁.1 in
    record { number = w.number; living = w.lives; program-fits = accepted-means s.setup (good-setup s g) form image (zero_is _ p₁.0); args_fit = p₂.0; room = p₂.1 }

-- ---- push

pub record Pushes (s : State) (n top : ℕ) (args : List (List ℕ)) : Type 0 where
  pub number : valid n ≡ true
  pub living : taken s n ≡ true
  pub aligned : top % 16 ≡ 0
  pub args_fit : args_error s.setup args ≡ 0
  pub writable : push_access s.setup (view s n).mem top args ≡ Ok tt

pub pushes : (s : State) → Good s → (n pc top : ℕ) (bytes lengths : List ℕ) → Accepts s n (push pc top bytes lengths) → Pushes s n top (args_of bytes lengths)
pushes s g n pc top bytes lengths e =
    let args : List (List ℕ) = args_of bytes lengths in
    let w = went s g n (push pc top bytes lengths) e in
    let a₃ : Answer = Regs (registers pc top args) in
    let a₂ : Answer = push_access s.setup (view s n).mem top args names EndedAt else a₃ in
    let a₁ : Answer = args_error s.setup args isnt 0 ⇒ Refused (args_error s.setup args) else a₂ in
    let p₁ = past Goes (top % 16 isnt 0) (Refused 36) a₁ w.weighed refused-not in
    let p₂ = past Goes (args_error s.setup args isnt 0) (Refused (args_error s.setup args)) a₂ p₁.1 refused-not in
    let p₃ = past-check Goes (push_access s.setup (view s n).mem top args) EndedAt a₃ p₂.1 (λ a. ended-not) in
    record { number = w.number; living = w.lives; aligned = zero_is _ p₁.0; args_fit = zero_is _ p₂.0; writable = p₃.0 }

-- ---- break

-- a break that moves the end of a bss
pub record Moves (setup : Setup) (b : VirtRange) (addr free : ℕ) : Type 0 where
  pub above-start : b.start ≤ addr
  pub low : page_up addr ≤ limit setup
  pub room : page_up addr - b.end ≤ 4096 * free

pub ibrk-moves : (setup : Setup) (b : VirtRange) (addr free : ℕ) → (ibrk setup (Some b) addr free).error ≡ 0 → (addr ≡ 0 → ⊥) → Moves setup b addr free
unfolding ibrk
ibrk-moves setup b addr free e nz =
    let Free : Break → Type 0 = λ x. x.error ≡ 0 in
    let b₆ : Break = ends_at (page_up addr) b in
    let b₅ : Break = page_up addr - b.end above 4096 * free ⇒ refused_by 33 b else b₆ in
    let b₄ : Break = page_up addr below b.end ⇒ ends_at (page_up addr) b else b₅ in
    let b₃ : Break = page_up addr above limit setup ⇒ refused_by 34 b else b₄ in
    let b₂ : Break = not (page_up addr below 2 ^ 64) ⇒ refused_by 33 b else b₃ in
    let b₁ : Break = addr below b.start ⇒ refused_by 33 b else b₂ in
    let e₁ : Free b₁ = rw (ne_eqb addr 0 nz) at e in
    let p₁ = past Free (addr below b.start) (refused_by 33 b) b₂ e₁ (λ z. omega arith) in
    let p₂ = past Free (not (page_up addr below 2 ^ 64)) (refused_by 33 b) b₃ p₁.1 (λ z. omega arith) in
    let p₃ = past Free (page_up addr above limit setup) (refused_by 34 b) b₄ p₂.1 (λ z. omega arith) in
    record {
      above-start = ltb-false _ _ p₁.0;
      low = ltb-false _ _ p₃.0;
      room = split (page_up addr below b.end) (λ q. let l = ltb-true (page_up addr) b.end q in omega arith)
          (λ q. ltb-false _ _ (past Free (page_up addr - b.end above 4096 * free) (refused_by 33 b) b₆ (rw q at p₃.1) (λ z. omega arith)).0);
    }

pub record Breaks (s : State) (n addr : ℕ) : Type 0 where
  pub number : valid n ≡ true
  pub living : taken s n ≡ true
  pub moves : (addr ≡ 0 → ⊥) → Moves s.setup (view s n).bss addr (free s.store.book)

pub breaks : (s : State) → Good s → (n addr : ℕ) → Accepts s n (break addr) → Breaks s n addr
breaks s g n addr e =
    let w = went s g n (break addr) e in
    let b : Break = ibrk s.setup (Some (view s n).bss) addr (free s.store.book) in
    let p = past Goes (b.error isnt 0) (Refused b.error) (Value b.value) w.weighed refused-not in
    record { number = w.number; living = w.lives; moves = ibrk-moves s.setup (view s n).bss addr (free s.store.book) (zero_is _ p.0) }

-- ---- fork

pub record Forks (s : State) (n child : ℕ) : Type 0 where
  pub number : valid n ≡ true
  pub child-number : valid child ≡ true
  pub living : taken s n ≡ true
  pub dead : taken s child ≡ false
  pub room : copied (view s n) ≤ free s.store.book

pub forks-child : (s : State) → Good s → (n child : ℕ) (segments : List UserSegment) → Accepts s n (fork child segments) → Forks s n child
forks-child s g n child segments e =
    let w = went s g n (fork child segments) e in
    let v = both (valid n) (valid child) w.number in
    let p = past Goes (copied (view s n) above free s.store.book) (Refused 33) Done w.weighed refused-not in
    record { number = v.0; child-number = v.1; living = w.lives; dead = not-true (taken s child) w.new; room = ltb-false _ _ p.0 }

-- ---- end, copy_to_user

pub record Ends (s : State) (n : ℕ) : Type 0 where
  pub number : valid n ≡ true
  pub living : taken s n ≡ true

pub ends : (s : State) → Good s → (n : ℕ) → Accepts s n end → Ends s n
ends s g n e = let w = went s g n end e in record { number = w.number; living = w.lives }

pub record Writes (s : State) (n dst : ℕ) (bytes : List ℕ) : Type 0 where
  pub number : valid n ≡ true
  pub living : taken s n ≡ true
  pub writable : access s.setup (view s n).mem true dst (length bytes) ≡ Ok tt

pub writes : (s : State) → Good s → (n dst : ℕ) (bytes : List ℕ) → Accepts s n (copy-to-user dst bytes) → Writes s n dst bytes
writes s g n dst bytes e =
    let w = went s g n (copy-to-user dst bytes) e in
    let p = past-check Goes (access s.setup (view s n).mem true dst (length bytes)) EndedAt Done w.weighed (λ a. ended-not) in
    record { number = w.number; living = w.lives; writable = p.0 }
