-- Each placed page takes a free frame; bytes written take none. How many pages pieces have.
use Prim.Native.Nat.{ℕ, zero, suc, ◌+◌, ◌-◌, ◌/◌, ◌≤◌, ◌<◌}
use native.Mathlib.Omega.{arith}
use native.Mathlib.Nat.{add_assoc}
use mathlib.Core.Path.{◌≡◌, refl, sym, ap, ap₂, ◌∙◌}
use Rattle.std.specs.Prelude.{Option, None, Some}
use mathlib.Core.List.{List, [], ◌∷◌, ◌++◌}
use lib.ListN.{length, length-append}
use borrow.Author.Tests.{eqb-true, ne_eqb, eq-eqb}
use Rattle.spec.proofs.Search.{hit, miss}
use Rattle.spec.proofs.Counts.{count_none, count-flip}
use Rattle.spec.proofs.Enter.{enter-count, holders-here, holders-else}
use Rattle.spec.specs.Tests.{◌is◌}
use Rattle.spec.specs.Numbers.{page_down}
use Rattle.spec.specs.Book.{word_of, frame_count, holders, count_below, is_free, free_frame, frame_of, free, page_count}
use Rattle.spec.specs.Frames.{Store, Page, pages_from, pages_of, enter, hold, place, poke, pokes}
use Rattle.spec.specs.declared.UserSegment.{UserSegment}

-- the frame that a search finds is free, and one is found while one is free
pub free-frame : (book : List ℕ) (k : ℕ) → free_frame book ≡ Some k → (k < frame_count book) × (holders book k ≡ 0)
free-frame book k e = let r = hit (is_free book) (frame_count book) k e in (r.0, eqb-true (holders book k) 0 r.1)

pub none_free : (book : List ℕ) → free_frame book ≡ None → free book ≡ 0
none_free book e = count_none (is_free book) (frame_count book) (miss (is_free book) (frame_count book) e)

-- a free frame that is entered with a holder is taken
pub free-enter : (book : List ℕ) (k n w c : ℕ) → k < frame_count book → n ≤ 16 → holders book k ≡ 0 → (c ≡ 0 → ⊥) → free (enter book k n w c) + 1 ≡ free book
free-enter book k n w c low hi z ne =
    ap (λ (x : ℕ). count_below (is_free (enter book k n w c)) x + 1) (enter-count book k n w c)
    ∙ sym (count-flip (is_free (enter book k n w c)) (is_free book) (frame_count book) k low
    (rw (holders-here book k n w c low hi) (ne_eqb c 0 ne)) (eq-eqb (holders book k) 0 z)
    (λ j l other. ap (λ (x : ℕ). x is 0) (holders-else book k n w c low hi j other)))

-- each page takes a free frame
pub free-place : (m : Store) (n : ℕ) (ps : List Page) → n ≤ 16 → length ps ≤ free m.book → free (place m n ps).book + length ps ≡ free m.book
unfolding place
free-place m n [] hi room = omega arith
free-place m n (p ∷ ps) hi room = go (free_frame m.book) refl (λ t. free-place t n ps hi)
  where
    go : (o : Option ℕ) → free_frame m.book ≡ o → ((t : Store) → length ps ≤ free t.book → free (place t n ps).book + length ps ≡ free t.book)
        → free (place (hold m n p o) n ps).book + length (p ∷ ps) ≡ free m.book
    go None e more = absurd (omega (arith, none_free m.book e))
    go (Some k) e more =
        let r = free-frame m.book k e in
        let f = free-enter m.book k n (word_of p.page n p.perm) 1 r.0 hi r.1 (λ z. omega arith) in
        let ih = more (hold m n p (Some k)) (omega arith) in
        omega arith

-- there are as many pages as pieces count
length_from : (f : ℕ → List ℕ) (perm a k : ℕ) → length (pages_from f perm a k) ≡ k
length_from f perm a zero = refl
length_from f perm a (suc k) = ap suc (length_from f perm (a + 4096) k)

pub length-pages : (f : ℕ → List ℕ) (gs : List UserSegment) → length (pages_of f gs) ≡ page_count gs
length-pages f [] = refl
length-pages f (g ∷ gs) =
    let k : ℕ = (g.range.end - g.range.start) / 4096 in
    length-append (pages_from f g.perm g.range.start k) (pages_of f gs) ∙ ap₂ ◌+◌ (length_from f g.perm g.range.start k) (length-pages f gs)

-- pieces behind others, and one piece more
pub count-append : (gs hs : List UserSegment) → page_count (gs ++ hs) ≡ page_count gs + page_count hs
count-append [] hs = omega arith
count-append (g ∷ gs) hs = ap (λ (k : ℕ). (g.range.end - g.range.start) / 4096 + k) (count-append gs hs) ∙ sym (add_assoc ((g.range.end - g.range.start) / 4096) (page_count gs) (page_count hs))

-- bytes written over change no word
pub poke-book : (m : Store) (a b : ℕ) (o : Option ℕ) → (poke m a b o).book ≡ m.book
poke-book m a b None = refl
poke-book m a b (Some k) = refl

pub pokes-book : (m : Store) (n a : ℕ) (bs : List ℕ) → (pokes m n a bs).book ≡ m.book
unfolding pokes
pokes-book m n a [] = refl
pokes-book m n a (b ∷ bs) = pokes-book (poke m a b (frame_of m.book n (page_down a))) n (a + 1) bs ∙ poke-book m a b (frame_of m.book n (page_down a))
