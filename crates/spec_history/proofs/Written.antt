-- Push and copy_to_user: bytes of one process written over.
use Rattle.std.specs.Prelude.{Ok, Option, None, Some}
use Prim.Native.Nat.{ℕ, ◌+◌, ◌*◌, ◌-◌}
use mathlib.Core.Path.{◌≡◌, refl, sym, ◌∙◌}
use mathlib.Core.Bool.{Bool, true, false}
use mathlib.Core.List.{List}
use lib.ListN.{length, get_or}
use Rattle.spec.specs.Tests.{within, ◌⇒◌else◌}
use Rattle.spec.specs.Book.{valid}
use Rattle.spec.specs.Frames.{Cell, Mem, Store, pokes}
use Rattle.spec.specs.Access.{access, rewrite, write}
use Rattle.spec.specs.Exec.{strings, strings_at, argv_at, pointers, push_access, pushed}
use Rattle.spec.specs.Machine.{Machine, with_mem}
use Rattle.spec.specs.World.{State, view, push_in, with_store}
use Rattle.spec.specs.History.{perm_in}
use Rattle.spec.specs.declared.Setup.{Setup}
use Rattle.spec.proofs.Ranges.{access-passed}
use Rattle.spec.proofs.Pushes.{push-means}
use Rattle.spec.proofs.Args.{length-pointers}
use Rattle.spec_laws.proofs.Pokes.{DataAt, data-range}
use Rattle.spec_history.proofs.Passed.{Good}
use Rattle.spec_history.proofs.OneState.{pages}
use Rattle.spec_history.proofs.Stored.{Stored, stored-pokes}
use Rattle.spec_history.proofs.Change.{Exact, Change, stored-self, change-store}

-- a byte written over keeps its page's permission
perm-write : (a : ℕ) (bs : List ℕ) (mem : Mem) (x : ℕ) → perm_in (write a bs mem x) ≡ perm_in (mem x)
perm-write a bs mem x = go (within a (a + length bs) x)
  where
    over : (c : Option Cell) → perm_in (rewrite (get_or bs (x - a) 0) c) ≡ perm_in c
    over None = refl
    over (Some c) = refl

    go : (b : Bool) → perm_in (b ⇒ rewrite (get_or bs (x - a) 0) (mem x) else mem x) ≡ perm_in (mem x)
    go true = over (mem x)
    go false = refl

exact-write : (m : Machine) → Exact m → (a : ℕ) (bs : List ℕ) → Exact (with_mem m (write a bs m.mem))
exact-write m e a bs x = perm-write a bs m.mem x ∙ e x

pub copy-change : (s : State) → Good s → (n : ℕ) → valid n ≡ true → (dst : ℕ) (bytes : List ℕ) → access s.setup (view s n).mem true dst (length bytes) ≡ Ok tt → Change s (with_store s (pokes s.store n dst bytes)) n (with_mem (view s n) (write dst bytes (view s n).mem))
copy-change s g n v dst bytes ok =
    change-store s g n v (pokes s.store n dst bytes) (write dst bytes (view s n).mem) (stored-pokes s.setup s.store s.store n (view s n).mem (stored-self s g n) v dst bytes (data-range s.setup s.store n dst (length bytes) (access-passed s.setup (view s n).mem true dst (length bytes) ok).each))
    (exact-write (view s n) (λ a. pages s g n a v) dst bytes)

-- strings, then pointers
pub exact-pushed : (m : Machine) → Exact m → (top : ℕ) (args : List (List ℕ)) → Exact (with_mem m (pushed top args m.mem))
exact-pushed m e top args =
    exact-write (with_mem m (write (strings_at top args) (strings args) m.mem)) (exact-write m e (strings_at top args) (strings args)) (argv_at top args) (pointers (strings_at top args) args)

-- bytes written over leave data where it was
data-write : (a : ℕ) (bs : List ℕ) (mem : Mem) (x len : ℕ) → DataAt mem x len → DataAt (write a bs mem) x len
data-write a bs mem x len h y q l u e = h y q l u (sym (perm-write a bs mem y) ∙ e)

pub stored-pushed : (setup : Setup) (b m : Store) (n : ℕ) (mem : Mem) → Stored setup b m n mem → valid n ≡ true → (top : ℕ) (args : List (List ℕ)) → DataAt mem (strings_at top args) (length (strings args))
    → DataAt mem (argv_at top args) (8 * (length args + 1)) → Stored setup b (push_in m n top args) n (pushed top args mem)
stored-pushed setup b m n mem h v top args d₁ d₂ =
    stored-pokes setup b (pokes m n (strings_at top args) (strings args)) n (write (strings_at top args) (strings args) mem)
    (stored-pokes setup b m n mem h v (strings_at top args) (strings args) d₁) v (argv_at top args) (pointers (strings_at top args) args)
    (rw (length-pointers args (strings_at top args)) (data-write (strings_at top args) (strings args) mem (argv_at top args) (8 * (length args + 1)) d₂))

pub push-change : (s : State) → Good s → (n : ℕ) → valid n ≡ true → (top : ℕ) (args : List (List ℕ)) → push_access s.setup (view s n).mem top args ≡ Ok tt
    → Change s (with_store s (push_in s.store n top args)) n (with_mem (view s n) (pushed top args (view s n).mem))
push-change s g n v top args ok =
    let may = push-means s.setup (view s n).mem top args ok in
    change-store s g n v (push_in s.store n top args) (pushed top args (view s n).mem)
    (stored-pushed s.setup s.store s.store n (view s n).mem (stored-self s g n) v top args (data-range s.setup s.store n (strings_at top args) (length (strings args)) may.strings-at) (data-range s.setup s.store n (argv_at top args) (8 * (length args + 1)) may.pointers-at))
    (exact-pushed (view s n) (λ a. pages s g n a v) top args)
