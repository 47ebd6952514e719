-- Each of the ten calls keeps a state good, and moves what each process sees as the machine says.
use Prim.Native.Nat.{ℕ}
use native.Mathlib.Omega.{arith}
use mathlib.Core.Path.{◌≡◌, refl, sym, ◌∙◌}
use mathlib.Core.Bool.{Bool, true, false}
use mathlib.Core.List.{List}
use lib.Dec.{eqb}
use borrow.Author.Tests.{eqb-false}
use Rattle.spec.proofs.Bools.{split}
use Rattle.spec.specs.Tests.{◌⇒◌else◌}
use Rattle.spec.specs.Numbers.{page_up}
use Rattle.spec.specs.Book.{valid, proc_at}
use Rattle.spec.specs.Program.{Program}
use Rattle.spec.specs.Image.{program_of}
use Rattle.spec.specs.Exec.{args_of, args_read, copy_argv}
use Rattle.spec.specs.Machine.{Ask, start, replace, push, break, fork, end, user-range-ok, copy-from-user, copy-to-user, try-copy-str-from-user, Call, kind, Outcome, accepted, refused, ended, outcome, Machine, off, begun, moved_to}
use Rattle.spec.specs.World.{State, view, answer, forget, load, brk, settle, leave, after}
use Rattle.spec.specs.History.{put}
use Rattle.spec.specs.declared.Form.{Form}
use Rattle.spec.proofs.Args.{args-means}
use Rattle.spec_history.proofs.Passed.{Good, ended≢, valid-number}
use Rattle.spec_history.proofs.Whole.{put_self, effect, effect-refused}
use Rattle.spec_history.proofs.Accepted.{not-refused, starts, start-ends-nobody, replaces, pushes, breaks, forks-child, ends, writes}
use Rattle.spec_history.proofs.Change.{Change, change-view, change-good}
use Rattle.spec_history.proofs.Ended.{forget-change, forget-free, forget-dead}
use Rattle.spec_history.proofs.Written.{copy-change, push-change}
use Rattle.spec_history.proofs.Forked.{fork-change}
use Rattle.spec_history.proofs.Moved.{break-change}
use Rattle.spec_history.proofs.Loaded.{load-change}

-- a good state in which each process sees what a rule says
pub record Sees (t : State) (ms : ℕ → Machine) : Type 0 where
  pub good : Good t
  pub each : (q : ℕ) → valid q ≡ true → view t q ≡ ms q

changed : (s t : State) → Good s → (n : ℕ) (m : Machine) → Change s t n m → Sees t (put (view s) n m)
changed s t g n m c = record { good = change-good s t g n m c; each = change-view s t n m c }

idle : (s : State) → Good s → (n : ℕ) → Sees s (put (view s) n (view s n))
idle s g n = record { good = g; each = λ q v. sym (put_self (view s) n q (view s n) refl) }

-- ---- replace: the old pages go first

replaced : (s : State) → Good s → (n : ℕ) (form : Form) (image name : List ℕ) (argv : ℕ) → outcome (answer s (record { number = n; ask = replace form image name argv })) ≡ accepted
    → Sees (settle s n (replace form image name argv)) (put (view s) n (begun s.setup (program_of s.setup form image) (args_read (copy_argv s.setup (view s n).mem argv))))
replaced s g n form image name argv e =
    let h = replaces s g n form image name argv e in
    let program : Program = program_of s.setup form image in
    let args : List (List ℕ) = args_read (copy_argv s.setup (view s n).mem argv) in
    let m : Machine = begun s.setup program args in
    let c = forget-change s g n h.number in
    let g₁ = change-good s (forget s n) g n (off s.setup) c in
    let d =
    load-change (forget s n) g₁ n program name args h.number (forget-dead s g n h.number) h.program-fits
    (omega (arith, h.room, forget-free s g n h.number)) (args-means s.setup args h.args_fit).1 in
    record { good = change-good (forget s n) (load (forget s n) n program name args) g₁ n m d; each = λ q v. change-view (forget s n) (load (forget s n) n program name args) n m d q v ∙ twice q (eqb q n) refl (change-view s (forget s n) n (off s.setup) c q v) m }
  where
    twice : (q : ℕ) (b : Bool) → eqb q n ≡ b → view (forget s n) q ≡ put (view s) n (off s.setup) q → (m : Machine) → (b ⇒ m else view (forget s n) q) ≡ (b ⇒ m else view s q)
    twice q true x y m = refl
    twice q false x y m = rw x at y

-- ---- accepted

settles : (s : State) → Good s → (n : ℕ) (q : Ask) → outcome (answer s (record { number = n; ask = q })) ≡ accepted
    → Sees (settle s n q) (effect s.setup (view s) (record { number = n; ask = q }) (kind q) accepted)
unfolding effect
settles s g n (start form image name bytes lengths) e =
    let h = starts s g n form image name bytes lengths e in
    let program : Program = program_of s.setup form image in
    changed s (load s n program name (args_of bytes lengths)) g n (begun s.setup program (args_of bytes lengths)) (load-change s g n program name (args_of bytes lengths) h.number h.dead h.program-fits h.room (args-means s.setup (args_of bytes lengths) h.args_fit).1)
settles s g n (replace form image name argv) e = replaced s g n form image name argv e
settles s g n (push pc top bytes lengths) e = let h = pushes s g n pc top bytes lengths e in changed s _ g n _ (push-change s g n h.number top (args_of bytes lengths) h.writable)
settles s g n (break addr) e =
    let h = breaks s g n addr e in
    split (eqb addr 0)
    (λ q. rw q (idle s g n))
    (λ q. rw q (changed s (brk s n (proc_at s.procs n) (page_up addr)) g n (moved_to (page_up addr) (view s n)) (break-change s g n addr h.number h.living (h.moves (eqb-false addr 0 q)))))
settles s g n (fork child segments) e = changed s _ g child (view s n) (fork-change s g n child (forks-child s g n child segments e))
settles s g n end e = changed s (forget s n) g n (off s.setup) (forget-change s g n (ends s g n e).number)
settles s g n (user-range-ok addr len write) e = idle s g n
settles s g n (copy-from-user buffer src) e = idle s g n
settles s g n (copy-to-user dst bytes) e = let h = writes s g n dst bytes e in changed s _ g n _ (copy-change s g n h.number dst bytes h.writable)
settles s g n (try-copy-str-from-user buffer src) e = idle s g n

-- ---- ended

ended-sees : (s : State) → Good s → (n : ℕ) (q : Ask) → outcome (answer s (record { number = n; ask = q })) ≡ ended → Sees (forget s n) (put (view s) n (off s.setup))
ended-sees s g n q e =
    let h = not-refused s g (record { number = n; ask = q }) ended e ended≢ in
    changed s (forget s n) g n (off s.setup) (forget-change s g n (valid-number n (kind q) h.number))

ending : (s : State) → Good s → (n : ℕ) (q : Ask) → outcome (answer s (record { number = n; ask = q })) ≡ ended → Sees (forget s n) (effect s.setup (view s) (record { number = n; ask = q }) (kind q) ended)
unfolding effect
ending s g n (start form image name bytes lengths) e = absurd (start-ends-nobody s g n form image name bytes lengths e)
ending s g n (replace form image name argv) e = ended-sees s g n (replace form image name argv) e
ending s g n (push pc top bytes lengths) e = ended-sees s g n (push pc top bytes lengths) e
ending s g n (break addr) e = ended-sees s g n (break addr) e
ending s g n (fork child segments) e = ended-sees s g n (fork child segments) e
ending s g n end e = ended-sees s g n end e
ending s g n (user-range-ok addr len write) e = ended-sees s g n (user-range-ok addr len write) e
ending s g n (copy-from-user buffer src) e = ended-sees s g n (copy-from-user buffer src) e
ending s g n (copy-to-user dst bytes) e = ended-sees s g n (copy-to-user dst bytes) e
ending s g n (try-copy-str-from-user buffer src) e = ended-sees s g n (try-copy-str-from-user buffer src) e

-- ---- any call, any outcome

pub each-call : (s : State) → Good s → (c : Call) → Sees (after s c) (effect s.setup (view s) c (kind c.ask) (outcome (answer s c)))
unfolding after
each-call s g c = go (outcome (answer s c)) refl
  where
    go : (o : Outcome) → outcome (answer s c) ≡ o → Sees (leave s c o) (effect s.setup (view s) c (kind c.ask) o)
    go accepted e = settles s g c.number c.ask e
    go refused e = record { good = g; each = λ q v. sym (effect-refused s.setup (view s) c (kind c.ask) q) }
    go ended e = ending s g c.number c.ask e
