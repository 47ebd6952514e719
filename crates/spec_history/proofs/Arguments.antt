-- Demand 2's last sentence: registers that a call answers tell of its arguments, of any good state.
use Rattle.std.specs.Prelude.{Ok, Err, Option, Some}
use Prim.Native.Nat.{ℕ, ◌+◌, ◌*◌, ◌-◌, ◌%◌, ◌≤◌, ◌<◌}
use native.Mathlib.Omega.{arith}
use mathlib.Core.Path.{◌≡◌, refl, sym, ap, subst, ◌∙◌}
use mathlib.Core.Bool.{Bool, true, false}
use mathlib.Core.List.{List, [], ◌∷◌, ◌++◌}
use lib.ListN.{length}
use borrow.Author.Tests.{eq-eqb}
use Rattle.spec.proofs.Args.{args-means}
use Rattle.spec.proofs.Bools.{within-test}
use Rattle.spec.proofs.Pushes.{Writable, push-fine}
use Rattle.spec.proofs.ReadBack.{Stacked, start-args, replace-args, push-args}
use Rattle.spec.specs.Tests.{◌isnt◌, ◌above◌, ◌⇒◌else◌}
use Rattle.spec.specs.Numbers.{SetupOk}
use Rattle.spec.specs.Book.{free, alone, stack, bss_segment, perm_at, page_count}
use Rattle.spec.specs.Access.{cell_ok, ◌names◌else◌, access, bytes_at, Str, copy_str, Checked}
use Rattle.spec.specs.Program.{Program}
use Rattle.spec.specs.Image.{program_of}
use Rattle.spec.specs.Exec.{image_error, program_segments, program_bss, start_pieces, file_byte, cell_of, loaded, args_of, strings, args_error, strings_at, argv_at, registers, push_access, Argv, bad, over, read, args_read, copy_argv}
use Rattle.spec.specs.Segment.{Break, ibrk}
use Rattle.spec.specs.Machine.{Ask, start, replace, push, break, fork, end, user-range-ok, copy-from-user, copy-to-user, try-copy-str-from-user, Call, begins, plain, Outcome, accepted, Reply, outcome, outcome_of, Machine, copied, weigh_read, weigh, run}
use Rattle.spec.specs.World.{State, taken, view, alone_for, answer, after}
use Rattle.spec.specs.History.{put, ArgsRead}
use Rattle.spec.specs.declared.Setup.{Setup}
use Rattle.spec.specs.declared.Form.{Form}
use Rattle.spec.specs.declared.UserSegment.{UserSegment}
use Rattle.spec.specs.declared.UserRegs.{UserRegs}
use Rattle.spec.specs.declared.Answer.{Answer}
use Rattle.spec.specs.declared.Answer.TheVariants.{Regs, Value, Done, No, Refused, Ended, RefusedAt, EndedAt}
use Rattle.spec_laws.proofs.Accepted.{Accepted}
use Rattle.spec_laws.proofs.Pieces.{Pieces, perm-tail, perm-here}
use Rattle.spec_laws.proofs.Started.{start-apart}
use Rattle.spec_history.proofs.Passed.{Good, good-setup, answered, accepted≢, weighs}
use Rattle.spec_history.proofs.Whole.{effect}
use Rattle.spec_history.proofs.Accepted.{not-refused, starts, replaces, pushes}
use Rattle.spec_history.proofs.EachCall.{each-call}

-- ---- the stack of a loaded program may be written

-- an address of a later piece is of no earlier one
behind : (gs hs : List UserSegment) (a q : ℕ) → Pieces (gs ++ hs) → perm_at hs a ≡ Some q → perm_at (gs ++ hs) a ≡ Some q
behind [] hs a q p e = e
behind (g ∷ gs) hs a q p e = perm-tail g (gs ++ hs) a q p.0 (behind gs hs a q p.1 e)

later_pieces : (gs hs : List UserSegment) → Pieces (gs ++ hs) → Pieces hs
later_pieces [] hs p = p
later_pieces (g ∷ gs) hs p = later_pieces gs hs p.1

module _ (setup : Setup) (set : SetupOk setup) (program : Program) (ok : Accepted setup program) where
  stack-perm : (a : ℕ) → setup.ustktop - setup.ustksize ≤ a → a < setup.ustktop → perm_at (start_pieces setup program) a ≡ Some 3
  stack-perm a l h =
      let p = start-apart setup set program ok in
      let q = later_pieces (program_segments program) (bss_segment (program_bss program) ∷ stack setup ∷ []) p in
      behind (program_segments program) (bss_segment (program_bss program) ∷ stack setup ∷ []) a 3 p
      (perm-tail (bss_segment (program_bss program)) (stack setup ∷ []) a 3 q.0 (perm-here (stack setup) [] a (within-test (setup.ustktop - setup.ustksize) setup.ustktop a l h)))

  writable : (b : ℕ) (o : Option ℕ) → o ≡ Some 3 → cell_ok true (cell_of b o) ≡ true
  writable b o e = rw e refl

  stack-range : (addr len : ℕ) → setup.ustktop - setup.ustksize ≤ addr → addr + len ≤ setup.ustktop → Writable setup (loaded setup program) addr len
  stack-range addr len l h a x y = (omega arith, writable (file_byte program.segments a) (perm_at (start_pieces setup program) a) (stack-perm a (omega arith) (omega arith)))

  stacked : (args : List (List ℕ)) → args_error setup args ≡ 0 → Stacked setup program args
  stacked args e = record {
    accepted = set;
    fit = e;
    room =
        let small = (args-means setup args e).1 in
        push-fine setup (loaded setup program) setup.ustktop args (record {
          low = omega arith;
          strings-at = stack-range (strings_at setup.ustktop args) (length (strings args)) (omega arith) (omega arith);
          pointers-at = stack-range (argv_at setup.ustktop args) (8 * (length args + 1)) (omega arith) (omega arith);
        });
  }

-- ---- answers with registers

-- 1 for registers
abbrev shows : Answer → ℕ
shows (Regs regs) = 1
shows (Value value) = 0
shows Done = 0
shows (No address) = 0
shows (Refused number) = 0
shows (Ended number) = 0
shows (RefusedAt address) = 0
shows (EndedAt address) = 0

-- of an answer with registers only the last of a chain is left
past-regs : (t : Bool) (x y : Answer) (regs : UserRegs) → shows x ≡ 0 → (t ⇒ x else y) ≡ Regs regs → y ≡ Regs regs
past-regs true x y regs n e = absurd (let z : shows x ≡ 1 = ap shows e in omega arith)
past-regs false x y regs n e = e

no_regs : (t : Bool) (x y : Answer) (regs : UserRegs) → shows x ≡ 0 → shows y ≡ 0 → (t ⇒ x else y) ≡ Regs regs → ⊥
no_regs t x y regs m n e = let z : shows y ≡ 1 = ap shows (past-regs t x y regs m e) in omega arith

-- nor of one that a check gives
past-check : (t : Checked) (f : ℕ → Answer) (y : Answer) (regs : UserRegs) → ((a : ℕ) → shows (f a) ≡ 0) → (t names f else y) ≡ Regs regs → y ≡ Regs regs
past-check (Err a) f y regs n e = absurd (let z : shows (f a) ≡ 1 = ap shows e in omega (arith, n a))
past-check (Ok _) f y regs n e = e

no-regs-check : (t : Checked) (f : ℕ → Answer) (y : Answer) (regs : UserRegs) → ((a : ℕ) → shows (f a) ≡ 0) → shows y ≡ 0 → (t names f else y) ≡ Regs regs → ⊥
no-regs-check t f y regs m n e = let z : shows y ≡ 1 = ap shows (past-check t f y regs m e) in omega arith

pick : (t : Checked) (f : ℕ → Reply) (y : Reply) → (t names f else y).says ≡ (t names (λ a. (f a).says) else y.says)
pick (Err a) f y = refl
pick (Ok _) f y = refl

-- a replace's registers tell of the arguments that were read
past-read : (setup : Setup) (free alone : ℕ) (program : Program) (r : Argv) (regs : UserRegs) → weigh_read setup free alone program r ≡ Regs regs
    → Regs (registers program.entry setup.ustktop (args_read r)) ≡ Regs regs
past-read setup free alone program (bad address) regs e = absurd (let z : ◌≡◌ {A = ℕ} 0 1 = ap shows e in omega arith)
past-read setup free alone program over regs e = absurd (let z : ◌≡◌ {A = ℕ} 0 1 = ap shows e in omega arith)
past-read setup free alone program (read args) regs e = past-regs (page_count (start_pieces setup program) above alone + free) (Ended 33) (Regs (registers program.entry setup.ustktop args)) regs refl e

regs_are : (x y : UserRegs) → Regs x ≡ Regs y → x ≡ y
regs_are x y e = cc

module _ (s : State) (g : Good s) (n : ℕ) (regs : UserRegs) where
  abbrev call : Ask → Call
  call q = record { number = n; ask = q }

  abbrev Answers : Ask → Type 0
  Answers q = (answer s (call q)).says ≡ Regs regs

  goes : (q : Ask) → Answers q → outcome (answer s (call q)) ≡ accepted
  goes q e = ap outcome_of e

  -- it is what the call's own numbers come to
  weighed : (q : Ask) → Answers q → (weigh (view s n) (free s.store.book) (alone_for s (call q)) q).says ≡ Regs regs
  weighed q e =
      let p = not-refused s g (call q) accepted (goes q e) accepted≢ in
      ap (λ (r : Reply). r.says) (sym (answered s g (call q) ∙ weighs (view s n) (free s.store.book) (alone_for s (call q)) (taken s) (call q) p.lengths p.list p.number p.lives p.new)) ∙ e

  put-here : {A : Type 0} (f : ℕ → A) (x : A) → put f n x n ≡ x
  put-here f x = rw (eq-eqb n n refl)

  -- what it told and left, by what the machine makes of the call
  finish : (q : Ask) (told : UserRegs) → view (after s (call q)) n ≡ run (view s n) q → told ≡ regs → ArgsRead (view s n) q (run (view s n) q).mem told
      → ArgsRead (view s n) q (view (after s (call q)) n).mem regs
  finish q told seen are r =
      subst (λ (m : Machine). ArgsRead (view s n) q m.mem regs) (sym seen) (subst (λ (x : UserRegs). ArgsRead (view s n) q (run (view s n) q).mem x) are r)

  of-start : (form : Form) (image name bytes lengths : List ℕ) → Answers (start form image name bytes lengths)
      → ArgsRead (view s n) (start form image name bytes lengths) (view (after s (call (start form image name bytes lengths))) n).mem regs
  unfolding effect
  of-start form image name bytes lengths e =
      let q : Ask = start form image name bytes lengths in
      let program : Program = program_of s.setup form image in
      let args : List (List ℕ) = args_of bytes lengths in
      let p = starts s g n form image name bytes lengths (goes q e) in
      let a₃ : Answer = Regs (registers program.entry s.setup.ustktop args) in
      let a₂ : Answer = page_count (start_pieces s.setup program) above free s.store.book ⇒ Refused 33 else a₃ in
      let a₁ : Answer = image_error s.setup form image isnt 0 ⇒ Refused (image_error s.setup form image) else a₂ in
      finish q (registers program.entry s.setup.ustktop args)
      ((each-call s g (call q)).each n p.number ∙ ap (λ (o : Outcome). effect s.setup (view s) (call q) begins o n) (goes q e) ∙ put-here (view s) _)
      (regs_are _ regs
      (past-regs (page_count (start_pieces s.setup program) above free s.store.book) (Refused 33) a₃ regs refl
      (past-regs (image_error s.setup form image isnt 0) (Refused (image_error s.setup form image)) a₂ regs refl (past-regs (args_error s.setup args isnt 0) (Refused (args_error s.setup args)) a₁ regs refl (weighed q e)))))
      (start-args (view s n) program.entry form image name bytes lengths (stacked s.setup (good-setup s g) program p.program-fits args p.args_fit))

  of-replace : (form : Form) (image name : List ℕ) (argv : ℕ) → Answers (replace form image name argv) → ArgsRead (view s n) (replace form image name argv) (view (after s (call (replace form image name argv))) n).mem regs
  unfolding effect
  of-replace form image name argv e =
      let q : Ask = replace form image name argv in
      let program : Program = program_of s.setup form image in
      let r : Argv = copy_argv s.setup (view s n).mem argv in
      let p = replaces s g n form image name argv (goes q e) in
      let a₁ : Answer = weigh_read s.setup (free s.store.book) (alone s.store.book n) program r in
      finish q (registers program.entry s.setup.ustktop (args_read r))
      ((each-call s g (call q)).each n p.number ∙ ap (λ (o : Outcome). effect s.setup (view s) (call q) plain o n) (goes q e) ∙ put-here (view s) _)
      (regs_are _ regs
      (past-read s.setup (free s.store.book) (alone s.store.book n) program r regs
      (past-regs (image_error s.setup form image isnt 0) (Refused (image_error s.setup form image)) a₁ regs refl (weighed q e))))
      (replace-args (view s n) program.entry form image name argv (stacked s.setup (good-setup s g) program p.program-fits (args_read r) p.args_fit))

  of-push : (pc top : ℕ) (bytes lengths : List ℕ) → Answers (push pc top bytes lengths) → ArgsRead (view s n) (push pc top bytes lengths) (view (after s (call (push pc top bytes lengths))) n).mem regs
  unfolding effect
  of-push pc top bytes lengths e =
      let q : Ask = push pc top bytes lengths in
      let args : List (List ℕ) = args_of bytes lengths in
      let p = pushes s g n pc top bytes lengths (goes q e) in
      let a₃ : Answer = Regs (registers pc top args) in
      let a₂ : Answer = push_access s.setup (view s n).mem top args names EndedAt else a₃ in
      let a₁ : Answer = args_error s.setup args isnt 0 ⇒ Refused (args_error s.setup args) else a₂ in
      finish q (registers pc top args)
      ((each-call s g (call q)).each n p.number ∙ ap (λ (o : Outcome). effect s.setup (view s) (call q) plain o n) (goes q e) ∙ put-here (view s) _)
      (regs_are _ regs
      (past-check (push_access s.setup (view s n).mem top args) EndedAt a₃ regs (λ a. refl)
      (past-regs (args_error s.setup args isnt 0) (Refused (args_error s.setup args)) a₂ regs refl (past-regs (top % 16 isnt 0) (Refused 36) a₁ regs refl (weighed q e)))))
      (push-args (view s n) pc (good-setup s g) top bytes lengths p.aligned p.args_fit p.writable)

  of-each : (q : Ask) → Answers q → ArgsRead (view s n) q (view (after s (call q)) n).mem regs
  of-each (start form image name bytes lengths) e = of-start form image name bytes lengths e
  of-each (replace form image name argv) e = of-replace form image name argv e
  of-each (push pc top bytes lengths) e = of-push pc top bytes lengths e
  of-each (break addr) e =
      let b : Break = ibrk s.setup (Some (view s n).bss) addr (free s.store.book) in
      no_regs (b.error isnt 0) (Refused b.error) (Value b.value) regs refl refl (weighed (break addr) e)
  of-each (fork child segments) e = no_regs (copied (view s n) above free s.store.book) (Refused 33) Done regs refl refl (weighed (fork child segments) e)
  of-each end e = no_regs false Done Done regs refl refl (weighed end e)
  of-each (user-range-ok addr len write) e = no-regs-check (access s.setup (view s n).mem write addr len) No (Value 1) regs (λ a. refl) refl (weighed (user-range-ok addr len write) e)
  of-each (copy-from-user buffer src) e =
      let t : Checked = access s.setup (view s n).mem false src (length buffer) in
      no-regs-check t EndedAt Done regs (λ a. refl) refl (sym (pick t (λ a. record { says = EndedAt a; buffer = buffer }) (record { says = Done; buffer = bytes_at (view s n).mem src (length buffer) })) ∙ weighed (copy-from-user buffer src) e)
  of-each (copy-to-user dst bytes) e = no-regs-check (access s.setup (view s n).mem true dst (length bytes)) EndedAt Done regs (λ a. refl) refl (weighed (copy-to-user dst bytes) e)
  of-each (try-copy-str-from-user buffer src) e =
      let str : Str = copy_str s.setup (view s n).mem buffer src in
      no-regs-check str.access RefusedAt (Value str.size) regs (λ a. refl) refl (weighed (try-copy-str-from-user buffer src) e)

pub args_read_lem : (s : State) → Good s → (c : Call) (regs : UserRegs) → (answer s c).says ≡ Regs regs → ArgsRead (view s c.number) c.ask (view (after s c) c.number).mem regs
args_read_lem s g c regs e = of-each s g c.number regs c.ask e
