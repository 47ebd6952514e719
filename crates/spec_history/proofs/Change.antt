-- A call that changes one process and leaves all others: the state stays good, and each process sees what the machine says.
use Prim.Native.Nat.{ℕ, ◌-◌, ◌%◌}
use native.Mathlib.Omega.{arith}
use mathlib.Core.Path.{◌≡◌, refl, sym, ap, ◌∙◌, subst}
use mathlib.Core.Bool.{true}
use lib.Dec.{eqb}
use lib.Seq.{get_or-set_same, get_or-set_other}
use borrow.Author.Tests.{eqb-true, eqb-false}
use Rattle.spec.proofs.Bools.{split}
use Rattle.spec.specs.Book.{valid, book_perm, zero_proc, lives, used, perm_at, pieces, pieces_of, proc_at}
use Rattle.spec.specs.Frames.{Store, Mem, mem_of}
use Rattle.spec.specs.Machine.{Machine, with_mem}
use Rattle.spec.specs.World.{State, view, set_proc, with_store}
use Rattle.spec.specs.History.{put, held_perm}
use Rattle.spec.specs.declared.Proc.{Proc}
use Rattle.spec.specs.declared.Procs.{Procs}
use Rattle.spec.specs.declared.Setup.{Setup}
use Rattle.spec_laws.proofs.Frame.{page-perm}
use Rattle.spec_laws.proofs.Record.{WholeProc, Whole, whole_typed, whole_set}
use Rattle.spec_laws.proofs.Owned.{valid-means}
use Rattle.spec_laws.proofs.Facts.{Shaped, facts-sound}
use Rattle.spec_history.proofs.Passed.{Good, good-setup}
use Rattle.spec_history.proofs.Whole.{put-split}
use Rattle.spec_history.proofs.OneState.{known, pages}
use Rattle.spec_history.proofs.Stored.{Stored}

-- a machine holds bytes for exactly its pieces' addresses, with their permissions
abbrev pub Exact : Machine → Type 0
Exact m = (a : ℕ) → held_perm m a ≡ perm_at (pieces m.segments m.bss) a

-- from s to t process n comes to see m, and no other process sees a change
pub record Change (s t : State) (n : ℕ) (m : Machine) : Type 0 where
  pub setup : t.setup ≡ s.setup
  pub setup-here : s.setup ≡ m.setup
  pub stored : Stored s.setup s.store t.store n m.mem
  pub whole : Whole t.procs
  pub shape : lives (proc_at t.procs n) ≡ true → Shaped s.setup (proc_at t.procs n)
  pub segments : used (proc_at t.procs n).segments ≡ m.segments
  pub bss : (proc_at t.procs n).bss ≡ m.bss
  pub exact : Exact m
  pub proc-else : (q : ℕ) → valid q ≡ true → (q ≡ n → ⊥) → proc_at t.procs q ≡ proc_at s.procs q

-- ---- what follows

view-eq : (s t : State) (q : ℕ) → t.setup ≡ s.setup → proc_at t.procs q ≡ proc_at s.procs q → mem_of t.store q ≡ mem_of s.store q → view t q ≡ view s q
view-eq s t q u e f = λ i. record { setup = u i; segments = used (e i).segments; bss = (e i).bss; mem = f i }

pub change-here : (s t : State) (n : ℕ) (m : Machine) → Change s t n m → view t n ≡ m
change-here s t n m c = let u = c.setup ∙ c.setup-here in let x = c.segments in let y = c.bss in let z = c.stored.here in λ i. record { setup = u i; segments = x i; bss = y i; mem = z i }

pub change-view : (s t : State) (n : ℕ) (m : Machine) → Change s t n m → (q : ℕ) → valid q ≡ true → view t q ≡ put (view s) n m q
change-view s t n m c q v =
    put-split (λ x. view t q ≡ x) (view s) n m q (λ e. ap (view t) e ∙ change-here s t n m c) (λ ne. view-eq s t q c.setup (c.proc-else q v ne) (c.stored.other q v ne))

pub change-good : (s t : State) → Good s → (n : ℕ) (m : Machine) → Change s t n m → Good t
change-good s t g n m c = record {
  types = whole_typed t c.whole;
  sizes = c.stored.sizes;
  setup = rw c.setup g.setup;
  book =
      rw c.setup (facts-sound s.setup t.store.book t.procs c.whole
      (record { accepted = good-setup s g; mappings = c.stored.mappings; shape = shape; exact = exact }));
}
  where
    shape : (q : ℕ) → valid q ≡ true → lives (proc_at t.procs q) ≡ true → Shaped s.setup (proc_at t.procs q)
    shape q v l =
        split (eqb q n)
        (λ e. let z = eqb-true q n e in rw z (c.shape (rw z at l)))
        (λ e. let z = c.proc-else q v (eqb-false q n e) in rw z ((known s g).facts.shape q v (rw z at l)))

    exact : (q page : ℕ) → valid q ≡ true → page % 4096 ≡ 0 → book_perm t.store.book q page ≡ perm_at (pieces_of (proc_at t.procs q)) page
    exact q page v z =
        let all : Exact (view t q) = subst Exact (sym (change-view s t n m c q v)) (put-split Exact (view s) n m q (λ e. c.exact) (λ ne a. pages s g q a v)) in
        page-perm t.store q page z ∙ all page

-- ---- a call that sets a record, and one that sets none

-- frames and book as they are
pub stored-self : (s : State) → Good s → (n : ℕ) → Stored s.setup s.store s.store n (view s n).mem
stored-self s g n = record { sizes = g.sizes; mappings = (known s g).facts.mappings; here = refl; other = λ q v ne. refl }

proc-same : (ps : Procs) (n : ℕ) (p : Proc) → Whole ps → valid n ≡ true → proc_at (set_proc ps n p) n ≡ p
proc-same ps n p w v = let i = valid-means n v in get_or-set_same ps.all (n - 1) p zero_proc (omega (arith, i.0, i.1, w.records))

proc-other : (ps : Procs) (n q : ℕ) (p : Proc) → valid n ≡ true → valid q ≡ true → (q ≡ n → ⊥) → proc_at (set_proc ps n p) q ≡ proc_at ps q
proc-other ps n q p v u ne = let i = valid-means n v in let j = valid-means q u in get_or-set_other ps.all (n - 1) (q - 1) p zero_proc (λ z. ne (omega (arith, i.0, j.0)))

-- what a record and a memory hold
abbrev pub holds : Setup → Proc → Mem → Machine
holds setup p mem = record { setup = setup; segments = used p.segments; bss = p.bss; mem = mem }

pub change-set : (s : State) → Good s → (n : ℕ) → valid n ≡ true → (m : Store) (p : Proc) (mem : Mem) → Stored s.setup s.store m n mem → WholeProc p → (lives p ≡ true → Shaped s.setup p) → Exact (holds s.setup p mem)
    → Change s (record { setup = s.setup; store = m; procs = set_proc s.procs n p }) n (holds s.setup p mem)
change-set s g n v m p mem h w shape exact =
    let k = (known s g).whole in
    let e = proc-same s.procs n p k v in
    record {
      setup = refl;
      setup-here = refl;
      stored = h;
      whole = whole_set s.procs n p k w;
      shape = rw e shape;
      segments = ap (λ (x : Proc). used x.segments) e;
      bss = ap (λ (x : Proc). x.bss) e;
      exact = exact;
      proc-else = λ q u ne. proc-other s.procs n q p v u ne;
    }

pub change-store : (s : State) → Good s → (n : ℕ) → valid n ≡ true → (m : Store) (mem : Mem) → Stored s.setup s.store m n mem → Exact (with_mem (view s n) mem) → Change s (with_store s m) n (with_mem (view s n) mem)
change-store s g n v m mem h exact =
    let k = known s g in
    record { setup = refl; setup-here = refl; stored = h; whole = k.whole; shape = k.facts.shape n v; segments = refl; bss = refl; exact = exact; proc-else = λ q u ne. refl }
