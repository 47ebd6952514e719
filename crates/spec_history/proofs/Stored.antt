-- Frames and book in which one process's memory changes: the four ways, bytes written over, pages released, shared, placed.
use Prim.Native.Nat.{ℕ, ◌%◌, ◌≤◌, ◌<◌}
use mathlib.Core.Path.{◌≡◌, refl, sym, ap, ◌∙◌, subst, fun_ext}
use mathlib.Core.Bool.{Bool, true}
use Rattle.std.specs.Prelude.{None, Some}
use mathlib.Core.List.{List}
use lib.ListN.{length, get_or}
use borrow.Author.Tests.{eq-eqb, ne_eqb}
use Rattle.spec.specs.Tests.{◌⇒◌else◌}
use Rattle.spec.specs.Numbers.{page_down}
use Rattle.spec.specs.Book.{valid, free, perm_at, page_count}
use Rattle.spec.specs.Sound.{Mappings}
use Rattle.spec.specs.Frames.{Store, sized, Mem, mem_of, pages_of, place, share, release, pokes}
use Rattle.spec.specs.Access.{write}
use Rattle.spec.specs.History as history
use Rattle.spec.specs.declared.UserSegment.{UserSegment}
use Rattle.spec.proofs.Free.{pokes-book}
use Rattle.spec.specs.declared.Setup.{Setup}
use Rattle.spec_laws.proofs.Frame.{sized-fits, page-perm}
use Rattle.spec_laws.proofs.Pokes.{sized-pokes, mem-pokes, mem-pokes-other, DataAt, sole-data}
use Rattle.spec_laws.proofs.Release.{sized-release, mappings-release, mem-release}
use Rattle.spec_laws.proofs.Share.{text_of, unseen, sized-share, mappings-share, mem-share, mem-share-other}
use Rattle.spec_laws.proofs.Pieces.{Pieces}
use Rattle.spec_laws.proofs.Pages.{cell_or}
use Rattle.spec_laws.proofs.Placed.{Whole, Room, sized-placed, mem-placed, mem-placed-other, mappings-placed}

module _ (setup : Setup) where
  -- from b to m process n comes to see mem, and no other process sees a change; m's mappings are in order
  pub record Stored (b m : Store) (n : ℕ) (mem : Mem) : Type 0 where
    pub sizes : sized m ≡ true
    pub mappings : Mappings setup m.book
    pub here : mem_of m n ≡ mem
    pub other : (q : ℕ) → valid q ≡ true → (q ≡ n → ⊥) → mem_of m q ≡ mem_of b q

  -- ---- bytes written over

  pub stored-pokes : (b m : Store) (n : ℕ) (mem : Mem) → Stored b m n mem → valid n ≡ true → (a : ℕ) (bs : List ℕ) → DataAt mem a (length bs) → Stored b (pokes m n a bs) n (write a bs mem)
  stored-pokes b m n mem h v a bs is-data =
      let fits = sized-fits m h.sizes in
      let book = pokes-book m n a bs in
      let sole = sole-data m n a (length bs) h.mappings v (subst (λ (x : Mem). DataAt x a (length bs)) (sym h.here) is-data) in
      record {
        sizes = sized-pokes m n a bs ∙ h.sizes;
        mappings = rw book h.mappings;
        here = mem-pokes m n a bs fits ∙ ap (write a bs) h.here;
        other = λ q w ne. mem-pokes-other m n a bs fits q w ne sole ∙ h.other q w ne;
      }

  -- ---- pages released

  pub stored-release : (b m : Store) (n : ℕ) (mem : Mem) → Stored b m n mem → valid n ≡ true → (t : ℕ → Bool) → Stored b (release m n t) n (λ a. t (page_down a) ⇒ None else mem a)
  stored-release b m n mem h v t = record {
    sizes = sized-release m n t v ∙ h.sizes;
    mappings = mappings-release m n t v h.mappings;
    here = fun_ext (λ a. mem-release m n t v n a v ∙ rw (eq-eqb n n refl) (ap (λ (x : Mem). t (page_down a) ⇒ None else x a) h.here));
    other = λ q w ne. fun_ext (λ a. mem-release m n t v q a w ∙ rw (ne_eqb q n ne)) ∙ h.other q w ne;
  }

  -- ---- pages shared

  -- for a child that sees nothing yet: it sees the text and rodata of n
  pub stored-share : (b m : Store) (n child : ℕ) → Stored b m child (λ a. None) → valid n ≡ true → valid child ≡ true → (child ≡ n → ⊥)
      → Stored b (share m n child) child (λ a. text_of (mem_of m n a))
  stored-share b m n child h v u ne =
      let new = unseen m child h.mappings u h.here in
      record {
        sizes = sized-share m n child v u ne ∙ h.sizes;
        mappings = mappings-share m n child v u ne h.mappings new;
        here = fun_ext (mem-share m n child v u ne h.mappings new);
        other = λ q w out. mem-share-other m n child v u ne h.mappings new q w out ∙ h.other q w out;
      }

  -- ---- pages placed

  -- pieces whose pages a book may have
  abbrev pub Proper : List UserSegment → Type 0
  Proper gs = (a q : ℕ) → perm_at gs a ≡ Some q → (1 ≤ q) × (q ≤ 3) × (setup.utzero ≤ a) × (a < setup.uaddrtop)

  pub stored-place : (b m : Store) (n : ℕ) (mem : Mem) → Stored b m n mem → valid n ≡ true → (f : ℕ → List ℕ) (gs : List UserSegment) → Pieces gs → Proper gs
      → ((a q : ℕ) → a % 4096 ≡ 0 → perm_at gs a ≡ Some q → length (f a) ≡ 4096) → ((a q : ℕ) → a % 4096 ≡ 0 → perm_at gs a ≡ Some q → mem a ≡ None) → page_count gs ≤ free m.book
      → Stored b (place m n (pages_of f gs)) n (λ a. cell_or (perm_at gs a) (get_or (f (page_down a)) (a % 4096) 0) (mem a))
  stored-place b m n mem h v f gs pieces proper bytes new enough =
      let fits = sized-fits m h.sizes in
      let whole : Whole setup n f gs = record { owner = v; pieces = pieces; proper = proper; bytes = bytes } in
      let room : Room setup m n gs = record {
        mappings = h.mappings;
        fresh = λ a q z e. page-perm m n a z ∙ ap history.perm_in (ap (λ (x : Mem). x a) h.here ∙ new a q z e);
        enough = enough;
      } in
      record {
        sizes = sized-placed m n f gs fits whole ∙ h.sizes;
        mappings = mappings-placed m n f gs fits whole room;
        here = fun_ext (λ a. mem-placed m n f gs fits whole room a ∙ ap (λ (x : Mem). cell_or (perm_at gs a) (get_or (f (page_down a)) (a % 4096) 0) (x a)) h.here);
        other = λ q w ne. mem-placed-other m n f gs fits whole room q w ne ∙ h.other q w ne;
      }
