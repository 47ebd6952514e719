-- The pages of pieces placed for a process: one record of what a caller shows, and what follows.
use Prim.Native.Nat.{ℕ, ◌%◌, ◌≤◌, ◌<◌}
use native.Mathlib.Omega.{arith}
use mathlib.Core.Path.{◌≡◌, refl, sym, ap, ◌∙◌}
use mathlib.Core.Bool.{true}
use Rattle.std.specs.Prelude.{Option, None, Some}
use mathlib.Core.List.{List}
use lib.ListN.{length, get_or}
use Rattle.spec.specs.Numbers.{page_down}
use Rattle.spec.specs.Book.{word_of, valid, book_perm, free, perm_at, page_count}
use Rattle.spec.specs.Sound.{Word, Mappings}
use Rattle.spec.specs.Frames.{Store, sized, mem_of, pages_of, place}
use Rattle.spec.specs.History as history
use Rattle.spec.specs.declared.UserSegment.{UserSegment}
use Rattle.spec.specs.declared.Setup.{Setup}
use Rattle.spec.proofs.Words.{unpack}
use Rattle.spec.proofs.Free.{length-pages}
use Rattle.spec_laws.proofs.Frame.{Fits, frame-unmapped, page-perm}
use Rattle.spec_laws.proofs.Held.{valid-low, valid-high}
use Rattle.spec_laws.proofs.Place.{Ready, WholePages, sized-place, Comes, mem-place-other, mem-place, mappings-place}
use Rattle.spec_laws.proofs.Pages.{each-pages, distinct-pages, cell_or, over-pages}
use Rattle.spec_laws.proofs.Pieces.{Pieces, or_perm}

-- pages of pieces that may be placed for process n: each is whole, and has a permission and an address that a book may have
pub record Whole (setup : Setup) (n : ℕ) (f : ℕ → List ℕ) (gs : List UserSegment) : Type 0 where
  pub owner : valid n ≡ true
  pub pieces : Pieces gs
  pub proper : (a q : ℕ) → perm_at gs a ≡ Some q → (1 ≤ q) × (q ≤ 3) × (setup.utzero ≤ a) × (a < setup.uaddrtop)
  pub bytes : (a q : ℕ) → a % 4096 ≡ 0 → perm_at gs a ≡ Some q → length (f a) ≡ 4096

-- in a book in order, which has none of them, with free frames enough
pub record Room (setup : Setup) (m : Store) (n : ℕ) (gs : List UserSegment) : Type 0 where
  pub mappings : Mappings setup m.book
  pub fresh : (a q : ℕ) → a % 4096 ≡ 0 → perm_at gs a ≡ Some q → book_perm m.book n a ≡ None
  pub enough : page_count gs ≤ free m.book

module _ {setup : Setup} (m : Store) (n : ℕ) (f : ℕ → List ℕ) (gs : List UserSegment) (fits : Fits m) (whole : Whole setup n f gs) where
  full : WholePages (pages_of f gs)
  full = each-pages f gs (λ p. length p.bytes ≡ 4096) whole.pieces (λ a q e s. whole.bytes a q e s)

  -- sizes stay
  pub sized-placed : sized (place m n (pages_of f gs)) ≡ sized m
  sized-placed = sized-place m n (pages_of f gs) fits full

  module _ (room : Room setup m n gs) where
    comes : Comes setup m n (pages_of f gs)
    comes = record {
      low = valid-low n whole.owner;
      high = valid-high n whole.owner;
      ready = each-pages f gs Ready whole.pieces (λ a q e s. record { aligned = e; perm = omega (arith, (whole.proper a q s).1); whole = whole.bytes a q e s });
      worded = each-pages f gs (λ p. Word setup n (word_of p.page n p.perm)) whole.pieces word;
      distinct = distinct-pages f gs whole.pieces;
      fresh = each-pages f gs (λ p. _) whole.pieces (λ a q e s. frame-unmapped m.book n a (room.fresh a q e s));
      room = rw (length-pages f gs) room.enough;
    }
      where
        word : (a q : ℕ) → a % 4096 ≡ 0 → perm_at gs a ≡ Some q → Word setup n (word_of a n q)
        word a q z s =
            let p = whole.proper a q s in
            let u = unpack a n q z (omega (arith, valid-high n whole.owner)) (omega (arith, p.1)) in
            record { owner = u.1; perm = rw u.2 (p.0, p.1); page = rw u.0 (p.2, p.3) }

    -- other processes see what they saw
    pub mem-placed-other : (p : ℕ) → valid p ≡ true → (p ≡ n → ⊥) → mem_of (place m n (pages_of f gs)) p ≡ mem_of m p
    mem-placed-other p v ne = mem-place-other m n (pages_of f gs) fits room.mappings comes p v ne

    -- the process sees each page's bytes with the piece's permission, and elsewhere what it saw
    pub mem-placed : (a : ℕ) → mem_of (place m n (pages_of f gs)) n a ≡ cell_or (perm_at gs a) (get_or (f (page_down a)) (a % 4096) 0) (mem_of m n a)
    mem-placed a =
        mem-place m n (pages_of f gs) fits room.mappings comes a
        ∙ over-pages f gs whole.pieces a (mem_of m n a)

    -- the book's rules hold
    pub mappings-placed : Mappings setup (place m n (pages_of f gs)).book
    mappings-placed = mappings-place m n (pages_of f gs) fits room.mappings comes

    -- the book gives the new pages the pieces' permissions
    pub perm-placed : (page : ℕ) → page % 4096 ≡ 0 → book_perm (place m n (pages_of f gs)).book n page ≡ or_perm (perm_at gs page) (book_perm m.book n page)
    perm-placed page h = page-perm (place m n (pages_of f gs)) n page h ∙ ap history.perm_in (mem-placed page) ∙ go (perm_at gs page)
      where
        go : (o : Option ℕ) → history.perm_in (cell_or o (get_or (f (page_down page)) (page % 4096) 0) (mem_of m n page)) ≡ or_perm o (book_perm m.book n page)
        go None = sym (page-perm m n page h)
        go (Some q) = refl
