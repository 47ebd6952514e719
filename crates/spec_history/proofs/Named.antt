-- Bad addresses (request 4): which answers name one, what check of the process's own memory it comes from, and that it can't be accessed.
use Rattle.std.specs.Prelude.{Ok, Err, Option, None, Some}
use Prim.Native.Nat.{ℕ, zero, suc, ◌+◌, ◌*◌, ◌-◌, ◌%◌, ◌^◌}
use native.Mathlib.Omega.{arith}
use mathlib.Core.Path.{◌≡◌, refl, sym, ap, ap₂, ◌∙◌}
use mathlib.Core.Bool.{Bool, true, false, not, ◌&&◌}
use mathlib.Core.List.{List, [], ◌∷◌, ◌++◌, map}
use lib.ListN.{length, take}
use Rattle.spec.proofs.Bools.{split, clash}
use Rattle.spec.proofs.Ranges.{access-means, either, one-bad}
use Rattle.spec.proofs.Setups.{setup-numbers}
use Rattle.spec.specs.Tests.{◌is◌, ◌isnt◌, ◌below◌, ◌above◌, ◌⇒◌else◌, any, has}
use Rattle.spec.specs.Numbers.{limit, arg_limit, page_up, page_down, le, setup_error}
use Rattle.spec.specs.Book.{valid, free, frame_of, page_count}
use Rattle.spec.specs.Frames.{Mem, cell_in, sized}
use Rattle.spec.specs.Access.{◌names◌else◌, cell_ok, access, byte_of, bytes_at, Str, copy_str, Reached, Checked}
use Rattle.spec.specs.Program.{Program}
use Rattle.spec.specs.Image.{read_error, program_of}
use Rattle.spec.specs.Exec.{layout_ok, program_segments, image_error, start_pieces, args_of, strings, stack_size, strings_at, argv_at, args_error, below_zero, copies, first_bad, registers, push_access, Argv, bad, over, read, arg_buffer, argv_from, copy_argv}
use Rattle.spec.specs.Segment.{Break, ibrk}
use Rattle.spec.specs.Machine.{Ask, start, replace, push, break, fork, end, user-range-ok, copy-from-user, copy-to-user, try-copy-str-from-user, Call, plain, kind, Outcome, outcome, Reply, number_of, value_of, refuse, Machine, feed, copied, weigh_read, weigh_replace, weigh, lengths_fit, list_fits, numbered, living, unclaimed, judge}
use Rattle.spec.specs.World.{State, sound, taken, view, alone_for, answer}
use Rattle.spec.specs.History.{Entry, machine}
use Rattle.spec.specs.declared.Setup.{Setup}
use Rattle.spec.specs.declared.Form.{Form}
use Rattle.spec.specs.declared.VirtRange.{VirtRange}
use Rattle.spec.specs.declared.Answer.{Answer}
use Rattle.spec.specs.declared.Answer.TheVariants.{Regs, Value, Done, No, Refused, Ended, RefusedAt, EndedAt}
use Rattle.spec_laws.proofs.Argv.{turn}
use Rattle.spec_laws.proofs.Facts.{found_between}
use Rattle.spec_history.proofs.Passed.{Good, good-setup, answered, Passed, passed-by}
use Rattle.spec_history.proofs.OneState.{known}

-- the address that an answer names
abbrev pub named : Answer → Option ℕ
named (Regs regs) = None
named (Value value) = None
named Done = None
named (No address) = Some address
named (Refused number) = None
named (Ended number) = None
named (RefusedAt address) = Some address
named (EndedAt address) = Some address

-- what reading arguments comes to, as a check
abbrev pub reading_args : Argv → Checked
reading_args (bad address) = Err address
reading_args over = Ok tt
reading_args (read args) = Ok tt

-- what each call checks of its own process's memory, and what that comes to; start, break, fork and end check none
abbrev pub check : Machine → Ask → Checked
check m (start form image name bytes lengths) = Ok tt
check m (replace form image name argv) = reading_args (copy_argv m.setup m.mem argv)
check m (push pc top bytes lengths) = push_access m.setup m.mem top (args_of bytes lengths)
check m (break addr) = Ok tt
check m (fork child segments) = Ok tt
check m end = Ok tt
check m (user-range-ok addr len write) = access m.setup m.mem write addr len
check m (copy-from-user buffer src) = access m.setup m.mem false src (length buffer)
check m (copy-to-user dst bytes) = access m.setup m.mem true dst (length bytes)
check m (try-copy-str-from-user buffer src) = (copy_str m.setup m.mem buffer src).access

-- whether it asks to write
abbrev pub to_write : Ask → Bool
to_write (start form image name bytes lengths) = false
to_write (replace form image name argv) = false
to_write (push pc top bytes lengths) = true
to_write (break addr) = false
to_write (fork child segments) = false
to_write end = false
to_write (user-range-ok addr len write) = write
to_write (copy-from-user buffer src) = false
to_write (copy-to-user dst bytes) = true
to_write (try-copy-str-from-user buffer src) = false

-- what a machine is fed of a line: the calls, and whether each was accepted, refused or ended the process
abbrev pub fed : Entry → Ask × Outcome
fed e = (e.asked.call.ask, outcome e.answered)

pub fed-same : (setup : Setup) (k l : List Entry) → map fed k ≡ map fed l → machine setup k ≡ machine setup l
fed-same setup [] [] e = refl
fed-same setup [] (d ∷ l) e = cc
fed-same setup (c ∷ k) [] e = cc
fed-same setup (c ∷ k) (d ∷ l) e =
    let head : fed c ≡ fed d = cc in
    let more : map fed k ≡ map fed l = cc in
    ap₂ (λ (m : Machine) (x : Ask × Outcome). feed m x.0 x.1) (fed-same setup k l more) head

-- ---- an address that is named is the check's, whatever frames are free

none_named : {P : Type 0} (a : ℕ) → ◌≡◌ {A = Option ℕ} None (Some a) → P
none_named a e = absurd (let z : ◌≡◌ {A = ℕ} 0 1 = cc in omega arith)

past : (t : Bool) (x y : Answer) (a : ℕ) → named x ≡ None → named (t ⇒ x else y) ≡ Some a → named y ≡ Some a
past true x y a n e = none_named a (sym n ∙ e)
past false x y a n e = e

checked : {A : Type 0} (says : A → Answer) (t : Checked) (f : ℕ → A) (y : A) (a : ℕ) → ((b : ℕ) → named (says (f b)) ≡ Some b) → named (says y) ≡ None → named (says (t names f else y)) ≡ Some a → t ≡ Err a
checked says (Ok _) f y a h n e = none_named a (sym n ∙ e)
checked says (Err b) f y a h n e = let z : Some b ≡ Some a = sym (h b) ∙ e in let w : b ≡ a = cc in ap Err w

-- what a call that names an address asks and answers
pub record Names (m : Machine) (f al : ℕ) (q : Ask) (a : ℕ) : Type 0 where
  pub own : kind q ≡ plain
  pub by : check m q ≡ Err a
  pub whatever-is-free : (g bl : ℕ) → weigh m g bl q ≡ weigh m f al q

replace-names : (setup : Setup) (f al error : ℕ) (program : Program) (r : Argv) (a : ℕ) → named (weigh_replace setup f al error program r) ≡ Some a
    → (reading_args r ≡ Err a) × ((g bl : ℕ) → weigh_replace setup g bl error program r ≡ weigh_replace setup f al error program r)
replace-names setup f al error program r a e = go r (past (error isnt 0) (Refused error) (weigh_read setup f al program r) a refl e)
  where
    go : (r : Argv) → named (weigh_read setup f al program r) ≡ Some a
        → (reading_args r ≡ Err a) × ((g bl : ℕ) → weigh_replace setup g bl error program r ≡ weigh_replace setup f al error program r)
    go (bad b) e = let z : b ≡ a = cc in (ap Err z, λ g bl. refl)
    go over e = none_named a e
    go (read args) e = none_named a (past (page_count (start_pieces setup program) above al + f) (Ended 33) (Regs (registers program.entry setup.ustktop args)) a refl e)

pub weigh-names : (m : Machine) (f al : ℕ) (q : Ask) (a : ℕ) → named (weigh m f al q).says ≡ Some a → Names m f al q a
weigh-names m f al (start form image name bytes lengths) a e =
    let program : Program = program_of m.setup form image in
    let args : List (List ℕ) = args_of bytes lengths in
    let a₃ : Answer = Regs (registers program.entry m.setup.ustktop args) in
    let a₂ : Answer = page_count (start_pieces m.setup program) above f ⇒ Refused 33 else a₃ in
    let a₁ : Answer = image_error m.setup form image isnt 0 ⇒ Refused (image_error m.setup form image) else a₂ in
    let e₁ = past (args_error m.setup args isnt 0) (Refused (args_error m.setup args)) a₁ a refl e in
    let e₂ = past (image_error m.setup form image isnt 0) (Refused (image_error m.setup form image)) a₂ a refl e₁ in
    none_named a (past (page_count (start_pieces m.setup program) above f) (Refused 33) a₃ a refl e₂)
weigh-names m f al (replace form image name argv) a e =
    let r = replace-names m.setup f al (image_error m.setup form image) (program_of m.setup form image) (copy_argv m.setup m.mem argv) a e in
    record { own = refl; by = r.0; whatever-is-free = λ g bl. ap (λ (x : Answer). record { says = x; buffer = [] }) (r.1 g bl) }
weigh-names m f al (push pc top bytes lengths) a e =
    let args : List (List ℕ) = args_of bytes lengths in
    let a₂ : Answer = push_access m.setup m.mem top args names EndedAt else Regs (registers pc top args) in
    let a₁ : Answer = args_error m.setup args isnt 0 ⇒ Refused (args_error m.setup args) else a₂ in
    let e₁ = past (top % 16 isnt 0) (Refused 36) a₁ a refl e in
    let e₂ = past (args_error m.setup args isnt 0) (Refused (args_error m.setup args)) a₂ a refl e₁ in
    record { own = refl; by = checked (λ x. x) (push_access m.setup m.mem top args) EndedAt (Regs (registers pc top args)) a (λ b. refl) refl e₂; whatever-is-free = λ g bl. refl }
weigh-names m f al (break addr) a e =
    let b : Break = ibrk m.setup (Some m.bss) addr f in
    none_named a (past (b.error isnt 0) (Refused b.error) (Value b.value) a refl e)
weigh-names m f al (fork child segments) a e = none_named a (past (copied m above f) (Refused 33) Done a refl e)
weigh-names m f al end a e = none_named a e
weigh-names m f al (user-range-ok addr len write) a e =
    record { own = refl; by = checked (λ x. x) (access m.setup m.mem write addr len) No (Value 1) a (λ b. refl) refl e; whatever-is-free = λ g bl. refl }
weigh-names m f al (copy-from-user buffer src) a e = record {
  own = refl;
  by =
      checked (λ (r : Reply). r.says) (access m.setup m.mem false src (length buffer)) (λ b. record { says = EndedAt b; buffer = buffer })
      (record { says = Done; buffer = bytes_at m.mem src (length buffer) }) a (λ b. refl) refl e;
  whatever-is-free = λ g bl. refl;
}
weigh-names m f al (copy-to-user dst bytes) a e =
    record { own = refl; by = checked (λ x. x) (access m.setup m.mem true dst (length bytes)) EndedAt Done a (λ b. refl) refl e; whatever-is-free = λ g bl. refl }
weigh-names m f al (try-copy-str-from-user buffer src) a e =
    let str : Str = copy_str m.setup m.mem buffer src in
    record { own = refl; by = checked (λ x. x) str.access RefusedAt (Value str.size) a (λ b. refl) refl e; whatever-is-free = λ g bl. refl }

-- a call that names an address has passed 1 to 5
pub named-passed : (s : State) → Good s → (c : Call) (a : ℕ) → named (answer s c).says ≡ Some a
    → Passed (view s c.number) (free s.store.book) (alone_for s c) (taken s) c (λ r. named r.says ≡ Some a)
named-passed s g c a e =
    passed-by (λ r. named r.says ≡ Some a) (view s c.number) (free s.store.book) (alone_for s c) (taken s) c
    (ap (λ (r : Reply). named r.says) (sym (answered s g c)) ∙ e) (λ n z. none_named a z)

-- ---- and it can't be accessed

not-bad : {P : Type 0} (a : ℕ) → ◌≡◌ {A = Checked} (Ok tt) (Err a) → P
not-bad a e = absurd (let z : ◌≡◌ {A = ℕ} 0 1 = cc in omega arith)

bad-is : (a b : ℕ) → ◌≡◌ {A = Checked} (Err b) (Err a) → b ≡ a
bad-is a b e = cc

module _ (setup : Setup) (mem : Mem) where
  abbrev Unreached : Bool → ℕ → Type 0
  Unreached w a = Reached setup mem w a → ⊥

  range-unreached : (w : Bool) (addr len a : ℕ) → access setup mem w addr len ≡ Err a → Unreached w a
  range-unreached w addr len a e = (access-means.named setup mem w addr len a e).unreached

  string-unreached : (dst : List ℕ) (p a : ℕ) → (copy_str setup mem dst p).access ≡ Err a → Unreached false a
  string-unreached [] p a e = not-bad a e
  string-unreached (d ∷ dst) p a e =
      either (access setup mem false p 1)
      (λ q. split (byte_of (mem p) is 0) (λ z. not-bad a (rw (q, z) at e)) (λ z. string-unreached dst (p + 1) a (rw (q, z) at e)))
      (λ b q. range-unreached false p 1 a (q ∙ (rw q at e)))

  copies-unreached : (l : List (ℕ × ℕ)) (a : ℕ) → first_bad setup mem l ≡ Err a → Unreached true a
  copies-unreached [] a e = not-bad a e
  copies-unreached ((at, len) ∷ l) a e =
      either (access setup mem true at len) (λ q. copies-unreached l a (rw q at e)) (λ b q. range-unreached true at len a (q ∙ (rw q at e)))

  turn-unreached : (t : Checked) (z : Bool) (w : Checked) (f g : Bool) (before : List (List ℕ)) (more : Argv) (a : ℕ) → (t ≡ Err a → Unreached false a) → (w ≡ Err a → Unreached false a)
      → (reading_args more ≡ Err a → Unreached false a) → reading_args (turn t z w f g before more) ≡ Err a → Unreached false a
  turn-unreached (Err b) z w f g before more a p s m e = p e
  turn-unreached (Ok _) true w f g before more a p s m e = not-bad a e
  turn-unreached (Ok _) false (Err b) f g before more a p s m e = s e
  turn-unreached (Ok _) false (Ok _) true g before more a p s m e = not-bad a e
  turn-unreached (Ok _) false (Ok _) false true before more a p s m e = not-bad a e
  turn-unreached (Ok _) false (Ok _) false false before more a p s m e = m e

  args-unreached : (argv turns : ℕ) (before : List (List ℕ)) (a : ℕ) → reading_args (argv_from setup mem argv before turns) ≡ Err a → Unreached false a
  args-unreached argv zero before a e = not-bad a e
  args-unreached argv (suc turns) before a e =
      let at : ℕ = argv + 8 * length before in
      let p : ℕ = le 8 (bytes_at mem at 8) 0 in
      let str : Str = copy_str setup mem (arg_buffer setup) p in
      let args : List (List ℕ) = before ++ take str.size str.buffer ∷ [] in
      turn-unreached (access setup mem false at 8) (p is 0) str.access (str.size is arg_limit setup) (stack_size (length (strings args)) (length args) above arg_limit setup) before (argv_from setup mem argv args turns) a
      (range-unreached false at 8 a) (string-unreached (arg_buffer setup) p a) (args-unreached argv turns args a) e

  -- of one byte the check names it
  pub one-no : (w : Bool) (a : ℕ) → Unreached w a → access setup mem w a 1 ≡ Err a
  one-no w a h =
      either (access setup mem w a 1)
      (λ q. absurd (h ((access-means.passed setup mem w a 1 q).each a (omega arith) (omega arith))))
      (λ b q. q ∙ ap Err (one-bad setup mem w a b q))

-- where no page is at 0, which a push below 0 names
pub check-unreached : (m : Machine) (q : Ask) (a : ℕ) → m.mem 0 ≡ None → check m q ≡ Err a → Unreached m.setup m.mem (to_write q) a
unfolding copy_argv
check-unreached m (start form image name bytes lengths) a z e = not-bad a e
check-unreached m (replace form image name argv) a z e = args-unreached m.setup m.mem argv (arg_limit m.setup) [] a e
check-unreached m (push pc top bytes lengths) a z e =
    let args : List (List ℕ) = args_of bytes lengths in
    split (below_zero top args)
    (λ q r.
    let zero-named : 0 ≡ a = bad-is a 0 (rw q at e) in
    clash false (sym (ap (cell_ok true) z) ∙ ap (λ (x : ℕ). cell_ok true (m.mem x)) zero-named ∙ r.1) refl)
    (λ q. copies-unreached m.setup m.mem (copies (strings_at top args) (argv_at top args) args) a (rw q at e))
check-unreached m (break addr) a z e = not-bad a e
check-unreached m (fork child segments) a z e = not-bad a e
check-unreached m end a z e = not-bad a e
check-unreached m (user-range-ok addr len write) a z e = range-unreached m.setup m.mem write addr len a e
check-unreached m (copy-from-user buffer src) a z e = range-unreached m.setup m.mem false src (length buffer) a e
check-unreached m (copy-to-user dst bytes) a z e = range-unreached m.setup m.mem true dst (length bytes) a e
check-unreached m (try-copy-str-from-user buffer src) a z e = string-unreached m.setup m.mem buffer src a e

-- no process has a page there
pub no-page-0 : (s : State) → Good s → (n : ℕ) → valid n ≡ true → (view s n).mem 0 ≡ None
no-page-0 s g n v = go (frame_of s.store.book n (page_down 0)) refl
  where
    go : (o : Option ℕ) → frame_of s.store.book n (page_down 0) ≡ o → cell_in s.store n 0 o ≡ None
    go None e = refl
    go (Some k) e = absurd (omega (arith, (found_between s.setup s.store.book s.procs (known s g).facts n 0 k v e).0, good-setup s g))

-- ---- 35 always comes with an address

abbrev Other : ℕ → Type 0
Other k = k ≡ 35 → ⊥

abbrev Tells : Answer → Type 0
Tells x = number_of x ≡ 35 → named x ≡ Some (value_of x)

choose : {A : Type 0} (P : A → Type 0) (t : Bool) (x y : A) → P x → P y → P (t ⇒ x else y)
choose P true x y p q = p
choose P false x y p q = q

choose-check : {A : Type 0} (P : A → Type 0) (t : Checked) (f : ℕ → A) (y : A) → ((a : ℕ) → P (f a)) → P y → P (t names f else y)
choose-check P (Err a) f y p q = p a
choose-check P (Ok _) f y p q = q

quiet : (k : ℕ) → Other k → Tells (Refused k)
quiet k o e = absurd (o e)

args-other : (setup : Setup) (args : List (List ℕ)) → Other (args_error setup args)
args-other setup args = choose Other (any (has 0) args) 32 _ (λ z. omega arith) (choose Other (stack_size (length (strings args)) (length args) above arg_limit setup) 33 0 (λ z. omega arith) (λ z. omega arith))

image-other : (setup : Setup) (form : Form) (image : List ℕ) → Other (image_error setup form image)
image-other setup form image =
    let p : Program = program_of setup form image in
    choose Other (read_error setup form image isnt 0) 30 _ (λ z. omega arith)
    (choose Other (not (layout_ok setup p.segments)) 30 _ (λ z. omega arith) (choose Other (length (program_segments p) above 15) 31 0 (λ z. omega arith) (λ z. omega arith)))

break-other : (setup : Setup) (b : VirtRange) (addr free : ℕ) → Other (ibrk setup (Some b) addr free).error
unfolding ibrk
break-other setup b addr free =
    let P : Break → Type 0 = λ x. Other x.error in
    choose P (addr is 0) _ _ (λ z. omega arith)
    (choose P (addr below b.start) _ _ (λ z. omega arith)
    (choose P (not (page_up addr below 2 ^ 64)) _ _ (λ z. omega arith)
    (choose P (page_up addr above limit setup) _ _ (λ z. omega arith)
    (choose P (page_up addr below b.end) _ _ (λ z. omega arith)
    (choose P (page_up addr - b.end above 4096 * free) _ _ (λ z. omega arith) (λ z. omega arith))))))

read-tells : (setup : Setup) (f al : ℕ) (program : Program) (r : Argv) → Tells (weigh_read setup f al program r)
read-tells setup f al program (bad address) = λ e. refl
read-tells setup f al program over = quiet 33 (λ z. omega arith)
read-tells setup f al program (read args) =
    choose Tells (page_count (start_pieces setup program) above al + f) (Ended 33) (Regs (registers program.entry setup.ustktop args)) (λ z. absurd (omega arith)) (λ z. absurd (omega arith))

weigh-tells : (m : Machine) (f al : ℕ) (q : Ask) → Tells (weigh m f al q).says
weigh-tells m f al (start form image name bytes lengths) =
    let setup : Setup = m.setup in
    let program : Program = program_of setup form image in
    let args : List (List ℕ) = args_of bytes lengths in
    choose Tells (args_error setup args isnt 0) (Refused (args_error setup args)) _ (quiet _ (args-other setup args))
    (choose Tells (image_error setup form image isnt 0) (Refused (image_error setup form image)) _ (quiet _ (image-other setup form image))
    (choose Tells (page_count (start_pieces setup program) above f) (Refused 33) (Regs (registers program.entry setup.ustktop args)) (λ z. absurd (omega arith)) (λ z. absurd (omega arith))))
weigh-tells m f al (replace form image name argv) =
    choose Tells (image_error m.setup form image isnt 0) (Refused (image_error m.setup form image)) _ (quiet _ (image-other m.setup form image))
    (read-tells m.setup f al (program_of m.setup form image) (copy_argv m.setup m.mem argv))
weigh-tells m f al (push pc top bytes lengths) =
    let args : List (List ℕ) = args_of bytes lengths in
    choose Tells (top % 16 isnt 0) (Refused 36) _ (λ z. absurd (omega arith))
    (choose Tells (args_error m.setup args isnt 0) (Refused (args_error m.setup args)) _ (quiet _ (args-other m.setup args))
    (choose-check Tells (push_access m.setup m.mem top args) EndedAt (Regs (registers pc top args)) (λ a z. refl) (λ z. absurd (omega arith))))
weigh-tells m f al (break addr) =
    let b : Break = ibrk m.setup (Some m.bss) addr f in
    choose Tells (b.error isnt 0) (Refused b.error) (Value b.value) (quiet _ (break-other m.setup m.bss addr f)) (λ z. absurd (omega arith))
weigh-tells m f al (fork child segments) = choose Tells (copied m above f) (Refused 33) Done (λ z. absurd (omega arith)) (λ z. absurd (omega arith))
weigh-tells m f al end = λ z. absurd (omega arith)
weigh-tells m f al (user-range-ok addr len write) = choose-check Tells (access m.setup m.mem write addr len) No (Value 1) (λ a z. absurd (omega arith)) (λ z. absurd (omega arith))
weigh-tells m f al (copy-from-user buffer src) =
    choose-check (λ (r : Reply). Tells r.says) (access m.setup m.mem false src (length buffer)) (λ a. record { says = EndedAt a; buffer = buffer })
    (record { says = Done; buffer = bytes_at m.mem src (length buffer) }) (λ a z. refl) (λ z. let y : ◌≡◌ {A = ℕ} 0 35 = z in absurd (omega arith))
weigh-tells m f al (copy-to-user dst bytes) = choose-check Tells (access m.setup m.mem true dst (length bytes)) EndedAt Done (λ a z. refl) (λ z. absurd (omega arith))
weigh-tells m f al (try-copy-str-from-user buffer src) =
    let str : Str = copy_str m.setup m.mem buffer src in
    choose-check Tells str.access RefusedAt (Value str.size) (λ a z. refl) (λ z. absurd (omega arith))

pub answer-tells : (s : State) (c : Call) → Tells (answer s c).says
unfolding answer judge
answer-tells s c =
    let P : Reply → Type 0 = λ r. Tells r.says in
    let q : Ask = c.ask in
    let m : Machine = view s c.number in
    choose P (not (sized s.store && lengths_fit q)) (refuse 1 q) _ (quiet 1 (λ z. omega arith))
    (choose P (setup_error s.setup isnt 0) (refuse (setup_error s.setup) q) _ (quiet _ (λ z. let b = setup-numbers s.setup (λ y. omega arith) in omega arith))
    (choose P (not (sound s)) (refuse 2 q) _ (quiet 2 (λ z. omega arith))
    (choose P (not (lengths_fit q)) (refuse 1 q) _ (quiet 1 (λ z. omega arith))
    (choose P (not (list_fits m c.number (kind q))) (refuse 2 q) _ (quiet 2 (λ z. omega arith))
    (choose P (not (numbered c.number (kind q))) (refuse 3 q) _ (quiet 3 (λ z. omega arith))
    (choose P (not (living (taken s) c.number (kind q))) (refuse 4 q) _ (quiet 4 (λ z. omega arith))
    (choose P (not (unclaimed (taken s) c.number (kind q))) (refuse 5 q) _ (quiet 5 (λ z. omega arith))
    (weigh-tells m (free s.store.book) (alone_for s c) q))))))))
