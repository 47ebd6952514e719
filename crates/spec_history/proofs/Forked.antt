-- Fork: the child comes to see what its parent sees.
use Prim.Native.Nat.{ℕ, ◌-◌, ◌%◌}
use mathlib.Core.Path.{◌≡◌, refl, sym, ap, ap₂, ◌∙◌, subst, fun_ext}
use mathlib.Core.Bool.{true}
use Rattle.std.specs.Prelude.{Option, None, Some}
use mathlib.Core.List.{List}
use lib.ListN.{get_or}
use borrow.Author.Tests.{eq-eqb}
use Rattle.spec.proofs.Bools.{split, clash}
use Rattle.spec.specs.Tests.{◌is◌}
use Rattle.spec.specs.Numbers.{page_down}
use Rattle.spec.specs.Book.{valid, frame_of, data_only, perm_at, pieces_of, proc_at}
use Rattle.spec.specs.Frames.{Cell, frame_bytes, pages_of, place, share}
use Rattle.spec.specs.Access.{byte_of}
use Rattle.spec.specs.Machine.{Machine}
use Rattle.spec.specs.World.{State, taken, view, copy}
use Rattle.spec.specs.History.{perm_in}
use Rattle.spec.specs.declared.Proc.{Proc}
use Rattle.spec_laws.proofs.Pages.{cell_or}
use Rattle.spec_laws.proofs.Contents.{frame_byte, length-frame}
use Rattle.spec_laws.proofs.Facts.{Shaped, sound-between}
use Rattle.spec_laws.proofs.Share.{text_of, free-share}
use Rattle.spec_laws.proofs.Pieces.{Pieces}
use Rattle.spec_laws.proofs.Data.{only_data, data-perm, data-was, data-pieces}
use Rattle.spec_laws.proofs.OwnPieces.{shape-between, own-pieces}
use Rattle.spec_history.proofs.Passed.{Good, good-setup}
use Rattle.spec_history.proofs.Accepted.{Forks}
use Rattle.spec_history.proofs.OneState.{Known, known, living-shape, dead-view, pages}
use Rattle.spec_history.proofs.Stored.{Stored, Proper, stored-share, stored-place}
use Rattle.spec_history.proofs.Change.{Change, stored-self, change-set}

-- a cell is its permission and its byte
cell-again : (c : Option Cell) → cell_or (only_data (perm_in c)) (byte_of c) (text_of c) ≡ c
cell-again None = refl
cell-again (Some c) = split (c.perm is 3) (λ q. rw q) (λ q. rw q)

no_text : (c : Option Cell) (q : ℕ) → perm_in c ≡ Some q → q ≡ 3 → text_of c ≡ None
no_text None q e z = refl
no_text (Some c) q e z = let w : c.perm ≡ q = cc in rw (eq-eqb c.perm 3 (w ∙ z))

-- the pages of a living process
proper-own : (s : State) → Good s → (n : ℕ) → valid n ≡ true → taken s n ≡ true → Proper s.setup (pieces_of (proc_at s.procs n))
proper-own s g n v t a q e =
    let k = known s g in
    let x = living-shape s g n v t in
    let b = sound-between s.setup s.store.book s.procs k.whole k.facts n a q v e in
    let r = shape-between s.setup (good-setup s g) (proc_at s.procs n) x.0 x.1 a q e in
    (b.0, b.1, r.0, r.1)

pub fork-change : (s : State) → Good s → (n child : ℕ) → Forks s n child → Change s (copy s n child (proc_at s.procs n)) child (view s n)
fork-change s g n child h =
    change-set s g child h.child-number (place (share s.store n child) child (pages_of f (data_only (pieces_of p)))) p (view s n).mem
    (subst (Stored s.setup s.store (place (share s.store n child) child (pages_of f (data_only (pieces_of p)))) child) (fun_ext same)
    (stored-place s.setup s.store (share s.store n child) child (λ a. text_of ((view s n).mem a)) shared h.child-number f (data_only (pieces_of p))
    (data-pieces (pieces_of p) own) (λ a q e. proper-own s g n h.number h.living a q (data-was (pieces_of p) own a q e).0)
    (λ a q z e. length-frame s.store n a q k.fits (k.facts.exact n a h.number z ∙ (data-was (pieces_of p) own a q e).0))
    (λ a q z e. let w = data-was (pieces_of p) own a q e in no_text ((view s n).mem a) q (pages s g n a h.number ∙ w.0) w.1)
    (rw (free-share s.store n child h.number h.child-number apart k.facts.mappings) h.room)))
    (k.whole.each (n - 1)) (λ l. x) (λ a. pages s g n a h.number)
  where
    k : Known s
    k = known s g

    p : Proc
    p = proc_at s.procs n

    f : ℕ → List ℕ
    f a = frame_bytes s.store.frames (frame_of s.store.book n a)

    x : Shaped s.setup (proc_at s.procs n)
    x = living-shape s g n h.number h.living

    own : Pieces (pieces_of (proc_at s.procs n))
    own = own-pieces s.setup (good-setup s g) p x.0 x.1

    apart : child ≡ n → ⊥
    apart e = clash (taken s n) h.living (ap (taken s) (sym e) ∙ h.dead)

    empty : Stored s.setup s.store s.store child (λ a. None)
    empty = subst (Stored s.setup s.store s.store child) (ap (λ (m : Machine). m.mem) (dead-view s g child h.child-number h.dead)) (stored-self s g child)

    shared : Stored s.setup s.store (share s.store n child) child (λ a. text_of ((view s n).mem a))
    shared = stored-share s.setup s.store s.store n child empty h.number h.child-number apart

    same : (a : ℕ) → cell_or (perm_at (data_only (pieces_of (proc_at s.procs n))) a) (get_or (frame_bytes s.store.frames (frame_of s.store.book n (page_down a))) (a % 4096) 0) (text_of ((view s n).mem a)) ≡ (view s n).mem a
    same a =
        ap₂ (λ (o : Option ℕ) (b : ℕ). cell_or o b (text_of ((view s n).mem a))) (data-perm (pieces_of p) own a ∙ ap only_data (sym (pages s g n a h.number))) (frame_byte s.store n a)
        ∙ cell-again ((view s n).mem a)
