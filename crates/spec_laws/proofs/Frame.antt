-- The frame of an owner's page: what a search for it says, and what a process sees in it.
use Prim.Native.Nat.{ℕ, ◌*◌, ◌%◌, ◌<◌}
use native.Mathlib.Omega.{arith}
use mathlib.Core.Path.{◌≡◌, refl, sym, ap, ◌∙◌}
use mathlib.Core.Bool.{true, false, ◌&&◌}
use Rattle.std.specs.Prelude.{Option, None, Some}
use mathlib.Core.List.{List}
use lib.ListN.{length}
use borrow.Author.Tests.{eqb-true, eqb-false, eq-eqb, ne_eqb}
use Rattle.spec.specs.Tests.{◌is◌, ◌isnt◌, within}
use Rattle.spec.specs.Numbers.{page_down}
use Rattle.spec.specs.Book.{page_of, owner_of, valid, frame_count, mapping, highest, owns, frame_of, perm_in, book_perm}
use Rattle.spec.specs.Sound.{Mappings}
use Rattle.spec.specs.Frames.{Store, sized, Cell, mem_of}
use Rattle.spec.specs.History as history
use Rattle.spec.specs.declared.Setup.{Setup}
use Rattle.spec.proofs.Bools.{split, both, clash, not-true}
use Rattle.spec.proofs.Search.{hit, miss, highest-ext}

-- as many bytes and words as the book has frames
pub record Fits (m : Store) : Type 0 where
  pub bytes : length m.frames ≡ 4096 * frame_count m.book
  pub words : length m.book ≡ 17 * frame_count m.book

pub sized-fits : (m : Store) → sized m ≡ true → Fits m
sized-fits m e =
    let p = both (length m.frames is 4096 * frame_count m.book && length m.book is 17 * frame_count m.book) (within 1 1025 (frame_count m.book)) e in
    let q = both (length m.frames is 4096 * frame_count m.book) (length m.book is 17 * frame_count m.book) p.0 in
    record { bytes = eqb-true _ _ q.0; words = eqb-true _ _ q.1 }

-- sizes are judged by lengths alone
pub sized_same : (m t : Store) → length m.frames ≡ length t.frames → length m.book ≡ length t.book → sized m ≡ sized t
sized_same m t e f = rw (e, f)

pub fits-same : (m t : Store) → length m.frames ≡ length t.frames → length m.book ≡ length t.book → Fits t → Fits m
fits-same m t e f h = record { bytes = rw (e, f) h.bytes; words = rw f h.words }

-- ---- a word's owner and page

-- a word that is not 0 names one owner's page
pub record Owns (n q w : ℕ) : Type 0 where
  pub used : ¬ (w ≡ 0)
  pub owner : owner_of w ≡ n
  pub page : page_of w ≡ q

pub owns-means : (n page w : ℕ) → owns n page w ≡ true → Owns n page w
owns-means n page w e =
    let p = both (w isnt 0 && owner_of w is n) (page_of w is page) e in
    let q = both (w isnt 0) (owner_of w is n) p.0 in
    record { used = eqb-false w 0 (not-true (w is 0) q.0); owner = eqb-true (owner_of w) n q.1; page = eqb-true (page_of w) page p.1 }

pub owns-test : (n page w : ℕ) → Owns n page w → owns n page w ≡ true
owns-test n page w o = rw (ne_eqb w 0 o.used, eq-eqb (owner_of w) n o.owner, eq-eqb (page_of w) page o.page)

pub owns_not : (n page w : ℕ) → (Owns n page w → ⊥) → owns n page w ≡ false
owns_not n page w h = split (owns n page w) (λ q. absurd (h (owns-means n page w q))) (λ q. q)

-- ---- the search

-- what is found is a frame in which the owner's place has its page
pub frame_found : (book : List ℕ) (n page k : ℕ) → frame_of book n page ≡ Some k → (k < frame_count book) × Owns n page (mapping book k n)
frame_found book n page k e =
    let r = hit (λ j. owns n page (mapping book j n)) (frame_count book) k e in
    (r.0, owns-means n page (mapping book k n) r.1)

-- where nothing is found, no frame has it
pub frame-none : (book : List ℕ) (n page : ℕ) → frame_of book n page ≡ None → (k : ℕ) → k < frame_count book → Owns n page (mapping book k n) → ⊥
frame-none book n page e k l o = clash (owns n page (mapping book k n)) (owns-test n page (mapping book k n) o) (miss (λ j. owns n page (mapping book j n)) (frame_count book) e k l)

-- where a frame has it, something is found
pub frame-some : (book : List ℕ) (n page k : ℕ) → k < frame_count book → Owns n page (mapping book k n) → (j : ℕ) × (frame_of book n page ≡ Some j)
frame-some book n page k l o = go (frame_of book n page) refl
  where
    go : (r : Option ℕ) → frame_of book n page ≡ r → (j : ℕ) × (frame_of book n page ≡ Some j)
    go None e = absurd (frame-none book n page e k l o)
    go (Some j) e = (j, e)

-- the same places, the same frame
pub frame-ext : (book now : List ℕ) (n page : ℕ) → frame_count now ≡ frame_count book → ((k : ℕ) → k < frame_count book → owns n page (mapping now k n) ≡ owns n page (mapping book k n))
    → frame_of now n page ≡ frame_of book n page
frame-ext book now n page e h = ap (highest (λ k. owns n page (mapping now k n))) e ∙ highest-ext (λ k. owns n page (mapping now k n)) (λ k. owns n page (mapping book k n)) (frame_count book) h

-- a page that the book gives a permission has a frame, and one that it gives none has none
pub frame-perm : (book : List ℕ) (n page q : ℕ) → book_perm book n page ≡ Some q → (k : ℕ) × (frame_of book n page ≡ Some k)
frame-perm book n page q e = go (frame_of book n page) refl e
  where
    go : (o : Option ℕ) → frame_of book n page ≡ o → perm_in book n o ≡ Some q → (k : ℕ) × (frame_of book n page ≡ Some k)
    go None f e = absurd (let z : ◌≡◌ {A = ℕ} 0 1 = cc in omega arith)
    go (Some k) f e = (k, f)

pub frame-unmapped : (book : List ℕ) (n page : ℕ) → book_perm book n page ≡ None → frame_of book n page ≡ None
frame-unmapped book n page e = go (frame_of book n page) refl e
  where
    go : (o : Option ℕ) → frame_of book n page ≡ o → perm_in book n o ≡ None → frame_of book n page ≡ None
    go None f e = f
    go (Some k) f e = absurd (let z : ◌≡◌ {A = ℕ} 0 1 = cc in omega arith)

-- ---- no owner has a page twice

abbrev pub Once : List ℕ → ℕ → Type 0
Once book n = (page j k : ℕ) → j < frame_count book → k < frame_count book → Owns n page (mapping book j n) → Owns n page (mapping book k n) → j ≡ k

-- as the record of a sound book says it
pub once-means : {setup : Setup} (book : List ℕ) → Mappings setup book → (n : ℕ) → valid n ≡ true → Once book n
once-means book h n v page j k a b x y = h.once n j k v a b x.used y.used (x.page ∙ sym y.page)

-- the frame found is the one frame
pub frame_is : (book : List ℕ) (n page k : ℕ) → Once book n → k < frame_count book → Owns n page (mapping book k n) → frame_of book n page ≡ Some k
frame_is book n page k once l o =
    let r = frame-some book n page k l o in
    let f = frame_found book n page r.0 r.1 in
    r.1 ∙ ap Some (once page r.0 k f.0 l f.1 o)

-- ---- cells

pub cell-eq : (p q a b : ℕ) → p ≡ q → a ≡ b → ◌≡◌ {A = Option Cell} (Some (record { perm = p; byte = a })) (Some (record { perm = q; byte = b }))
cell-eq p q a b e h = λ i. Some (record { perm = e i; byte = h i })

-- a cell's permission is its page's in the book
pub mem-perm : (m : Store) (n a : ℕ) → history.perm_in (mem_of m n a) ≡ book_perm m.book n (page_down a)
mem-perm m n a = go (frame_of m.book n (page_down a)) refl
  where
    go : (o : Option ℕ) → frame_of m.book n (page_down a) ≡ o → history.perm_in (mem_of m n a) ≡ book_perm m.book n (page_down a)
    go None e = rw e
    go (Some k) e = rw e

pub page-perm : (m : Store) (n page : ℕ) → page % 4096 ≡ 0 → book_perm m.book n page ≡ history.perm_in (mem_of m n page)
page-perm m n page h = let e : page_down page ≡ page = omega arith in ap (book_perm m.book n) (sym e) ∙ sym (mem-perm m n page)
