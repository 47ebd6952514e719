-- Start and replace: a program's pages placed for a number that is free, then its arguments pushed.
use Prim.Native.Nat.{ℕ, ◌%◌, ◌≤◌}
use native.Mathlib.Omega.{arith}
use mathlib.Core.Path.{◌≡◌, refl, sym, ap, ap₂, ◌∙◌, subst, fun_ext}
use mathlib.Core.Bool.{true, false}
use Rattle.std.specs.Prelude.{Option, None, Some}
use mathlib.Core.List.{List}
use lib.ListN.{length, get_or}
use Rattle.spec.specs.Numbers.{limit, arg_limit, page_down, page_bytes}
use Rattle.spec.specs.Book.{valid, free, perm_at, page_count}
use Rattle.spec.specs.Frames.{Store, pages_of, place}
use Rattle.spec.specs.Program.{Program}
use Rattle.spec.specs.Exec.{strings, stack_size, program_segments, start_pieces, file_byte, cell_of, loaded, pushed}
use Rattle.spec.specs.Machine.{Machine, begun}
use Rattle.spec.specs.World.{State, taken, view, push_in, proc_of, load}
use Rattle.spec.specs.History.{perm_in}
use Rattle.spec.specs.declared.Proc.{Proc}
use Rattle.spec_laws.proofs.Shape.{shape-used}
use Rattle.spec_laws.proofs.Pages.{cell_or}
use Rattle.spec_laws.proofs.Contents.{length-page, page-byte}
use Rattle.spec_laws.proofs.Accepted.{Accepted, program-shape}
use Rattle.spec_laws.proofs.Started.{proc-whole, start-perm, start_between, start-apart, start-pieces, start-data}
use Rattle.spec_history.proofs.Passed.{Good, good-setup}
use Rattle.spec_history.proofs.OneState.{dead-view}
use Rattle.spec_history.proofs.Stored.{Stored, stored-place}
use Rattle.spec_history.proofs.Change.{holds, Change, stored-self, change-set}
use Rattle.spec_history.proofs.Written.{exact-pushed, stored-pushed}

cell_same : (o : Option ℕ) (b : ℕ) → cell_or o b None ≡ cell_of b o
cell_same None b = refl
cell_same (Some q) b = refl

cell-perm : (o : Option ℕ) (b : ℕ) → perm_in (cell_of b o) ≡ o
cell-perm None b = refl
cell-perm (Some q) b = refl

pub load-change : (s : State) → Good s → (n : ℕ) (program : Program) (name : List ℕ) (args : List (List ℕ)) → valid n ≡ true → taken s n ≡ false → Accepted s.setup program → page_count (start_pieces s.setup program) ≤ free s.store.book → stack_size (length (strings args)) (length args) ≤ arg_limit s.setup
    → Change s (load s n program name args) n (begun s.setup program args)
load-change s g n program name args v t e room fit =
    subst (Change s (load s n program name args) n) begun-is
    (change-set s g n v (push_in m n s.setup.ustktop args) p (pushed s.setup.ustktop args (loaded s.setup program))
    (stored-pushed s.setup s.store m n (loaded s.setup program)
    (subst (Stored s.setup s.store m n) (fun_ext seen)
    (stored-place s.setup s.store s.store n (view s n).mem (stored-self s g n) v f (start_pieces s.setup program) (start-apart s.setup (good-setup s g) program e)
    (λ a q h. let x = start-perm s.setup (good-setup s g) program e a q h in let y = start_between s.setup (good-setup s g) program e a q h in (x.0, x.1, y.0, y.1)) (λ a q z h. length-page (file_byte program.segments) a) (λ a q z h. empty a) room))
    v s.setup.ustktop args (λ x q l u. data-here x q (omega arith)) (λ x q l u. data-here x q (omega arith)))
    (proc-whole s.setup program name e) (λ l. (program_segments program, program-shape s.setup (good-setup s g) program name e))
    (exact-pushed (holds s.setup p (loaded s.setup program)) (λ a. cell-perm (perm_at (start_pieces s.setup program) a) (file_byte program.segments a) ∙ start-pieces s.setup (good-setup s g) program name e a) s.setup.ustktop args))
  where
    p : Proc
    p = proc_of s.setup program name

    f : ℕ → List ℕ
    f = page_bytes (file_byte program.segments)

    m : Store
    m = place s.store n (pages_of f (start_pieces s.setup program))

    data-here : (x q : ℕ) → limit s.setup ≤ x → perm_in (loaded s.setup program x) ≡ Some q → q ≡ 3
    data-here x q l f = start-data s.setup (good-setup s g) program e x q l (sym (cell-perm (perm_at (start_pieces s.setup program) x) (file_byte program.segments x)) ∙ f)

    begun-is : holds s.setup p (pushed s.setup.ustktop args (loaded s.setup program)) ≡ begun s.setup program args
    begun-is = let x = shape-used s.setup p (program_segments program) (program-shape s.setup (good-setup s g) program name e) in λ i. record { setup = s.setup; segments = x i; bss = p.bss; mem = pushed s.setup.ustktop args (loaded s.setup program) }

    empty : (a : ℕ) → (view s n).mem a ≡ None
    empty a = ap (λ (x : Machine). x.mem a) (dead-view s g n v t)

    seen : (a : ℕ) → cell_or (perm_at (start_pieces s.setup program) a) (get_or (f (page_down a)) (a % 4096) 0) ((view s n).mem a) ≡ loaded s.setup program a
    seen a =
        ap₂ (cell_or (perm_at (start_pieces s.setup program) a)) (page-byte (file_byte program.segments) a) (empty a)
        ∙ cell_same (perm_at (start_pieces s.setup program) a) (file_byte program.segments a)
