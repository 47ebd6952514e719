-- Pages placed: what every process sees, which mappings stand in the book.
use Prim.Native.Nat.{ℕ, ◌+◌, ◌*◌, ◌%◌, ◌≤◌, ◌<◌}
use native.Mathlib.Omega.{arith}
use mathlib.Core.Path.{◌≡◌, refl, sym, ap, ◌∙◌}
use mathlib.Core.Bool.{Bool, true, false}
use Rattle.std.specs.Prelude.{Option, None, Some}
use mathlib.Core.List.{List, [], ◌∷◌, ◌++◌}
use lib.Dec.{eqb}
use lib.ListN.{length, get_or}
use borrow.Author.Tests.{eqb-true, eqb-false, ne_eqb}
use Rattle.spec.specs.Tests.{◌is◌, ◌⇒◌else◌}
use Rattle.spec.specs.Numbers.{page_down}
use Rattle.spec.specs.Book.{word_of, page_of, perm_of, valid, frame_count, mapping, holders, free_frame, owns, frame_of, free}
use Rattle.spec.specs.Sound.{Word, Mappings}
use Rattle.spec.specs.Frames.{Store, sized, Cell, cell_in, mem_of, enter, put, Page, hold, place}
use Rattle.spec.specs.declared.Setup.{Setup}
use Rattle.spec.proofs.Bools.{split, within-means, within-test}
use Rattle.spec.proofs.Words.{unpack, used-word}
use Rattle.spec.proofs.Enter.{enter-length, enter-count, mapping-here, mapping-else}
use Rattle.spec.proofs.Free.{free-frame, none_free, free-enter}
use Rattle.spec_laws.proofs.Lists.{Each, length-put, put_in, put-outside}
use Rattle.spec_laws.proofs.Frame.{Fits, sized_same, fits-same, Owns, owns_not, frame_found, frame-none, frame-some, frame-ext, cell-eq}
use Rattle.spec_laws.proofs.Held.{unheld, frame-other, mappings-add}

-- ---- a book with one mapping more

-- frame k's place of n, which was empty, has w
module _ (book : List ℕ) (k n w c : ℕ) (low : k < frame_count book) (lo : 1 ≤ n) (hi : n ≤ 16) (was : mapping book k n ≡ 0) where
  -- a page that w doesn't name has its frame as before
  pub frame-else : (page : ℕ) → (Owns n page w → ⊥) → frame_of (enter book k n w c) n page ≡ frame_of book n page
  frame-else page out = frame-ext book (enter book k n w c) n page (enter-count book k n w c) (λ j l. same j)
    where
      same : (j : ℕ) → owns n page (mapping (enter book k n w c) j n) ≡ owns n page (mapping book j n)
      same j =
          split (eqb j k)
          (λ q.
          let e : j ≡ k = eqb-true j k q in
          rw e (ap (owns n page) (mapping-here book k n w c low hi) ∙ owns_not n page w out ∙ sym (ap (owns n page) was)))
          (λ q. ap (owns n page) (mapping-else book k n w c low hi j n lo lo hi (λ e z. eqb-false j k q e)))

  -- a page that w names, and no frame before, has frame k
  pub frame_here : (page : ℕ) → Owns n page w → frame_of book n page ≡ None → frame_of (enter book k n w c) n page ≡ Some k
  frame_here page o new =
      let r = frame-some (enter book k n w c) n page k (rw (enter-count book k n w c) low) (rw (mapping-here book k n w c low hi) o) in
      let f = frame_found (enter book k n w c) n page r.0 r.1 in
      let l : r.0 < frame_count book = rw (enter-count book k n w c) at f.0 in
      let u = f.1 in
      r.1 ∙ split (eqb r.0 k) (λ q. ap Some (eqb-true r.0 k q))
      (λ q. absurd (frame-none book n page new r.0 l (rw (mapping-else book k n w c low hi r.0 n lo lo hi (λ e z. eqb-false r.0 k q e)) at u)))

-- ---- one page in a free frame

-- a page that a word can name and that fills a frame
pub record Ready (p : Page) : Type 0 where
  pub aligned : p.page % 4096 ≡ 0
  pub perm : p.perm < 16
  pub whole : length p.bytes ≡ 4096

-- the cell that a page has at an address
abbrev cell_on : Page → ℕ → Option Cell
cell_on p x = Some (record { perm = p.perm; byte = get_or p.bytes (x % 4096) 0 })

-- the word of a page names that page alone
word-owns : (n : ℕ) (p : Page) → 1 ≤ n → n ≤ 16 → Ready p → Owns n p.page (word_of p.page n p.perm)
word-owns n p lo hi r =
    let u = unpack p.page n p.perm r.aligned (omega arith) r.perm in
    record { used = used-word p.page n p.perm lo; owner = u.1; page = u.0 }

module _ {setup : Setup} (m : Store) (n : ℕ) (p : Page) (k : ℕ) (fits : Fits m) (mappings : Mappings setup m.book) (low : k < frame_count m.book) (was : holders m.book k ≡ 0) (lo : 1 ≤ n) (hi : n ≤ 16) (r : Ready p) where
  abbrev word : ℕ
  word = word_of p.page n p.perm

  empty : (q : ℕ) → 1 ≤ q → q ≤ 16 → mapping m.book k q ≡ 0
  empty q a b = unheld m.book mappings.counts k low was q a b

  -- what is seen in another frame
  cell-else : (q x : ℕ) → 1 ≤ q → q ≤ 16 → (o : Option ℕ) → (o ≡ Some k → ⊥) → cell_in (hold m n p (Some k)) q x o ≡ cell_in m q x o
  cell-else q x a b None ne = refl
  cell-else q x a b (Some j) ne =
      let away : j ≡ k → ⊥ = λ e. ne (ap Some e) in
      cell-eq _ _ _ _ (ap perm_of (mapping-else m.book k n word 1 low hi j q lo a b (λ e z. away e)))
      (put-outside m.frames p.bytes (4096 * k) (4096 * j + x % 4096) (omega (arith, fits.bytes)) (λ l u. away (omega (arith, r.whole))))

  mem-hold-else : (q x : ℕ) → 1 ≤ q → q ≤ 16 → (q ≡ n → page_down x ≡ p.page → ⊥) → mem_of (hold m n p (Some k)) q x ≡ mem_of m q x
  mem-hold-else q x a b out =
      ap (cell_in (hold m n p (Some k)) q x) (frame (eqb q n) refl)
      ∙ cell-else q x a b (frame_of m.book q (page_down x)) (λ e. (frame_found m.book q (page_down x) k e).1.used (empty q a b))
    where
      frame : (s : Bool) → eqb q n ≡ s → frame_of (enter m.book k n word 1) q (page_down x) ≡ frame_of m.book q (page_down x)
      frame false e = frame-other m.book k n word 1 low lo hi q (page_down x) a b (eqb-false q n e)
      frame true e =
          let z = eqb-true q n e in
          let u = unpack p.page n p.perm r.aligned (omega arith) r.perm in
          rw z (frame-else m.book k n word 1 low lo hi (empty n lo hi) (page_down x) (λ o. out z (sym o.page ∙ u.0)))

  mem-hold : frame_of m.book n p.page ≡ None → (x : ℕ) → page_down x ≡ p.page → mem_of (hold m n p (Some k)) n x ≡ cell_on p x
  mem-hold new x e =
      let o = word-owns n p lo hi r in
      let u = unpack p.page n p.perm r.aligned (omega arith) r.perm in
      rw (e, frame_here m.book k n word 1 low lo hi (empty n lo hi) p.page o new)
      (cell-eq _ _ _ _ (ap perm_of (mapping-here m.book k n word 1 low hi) ∙ u.2)
      (put_in m.frames p.bytes (4096 * k) (4096 * k + x % 4096) (omega (arith, fits.bytes)) (omega arith) (omega (arith, r.whole))
      ∙ ap (λ (i : ℕ). get_or p.bytes i 0) (omega arith)))

  -- the mapping of a page that the process has nowhere
  mappings-hold : Word setup n word → frame_of m.book n p.page ≡ None → Mappings setup (enter m.book k n word 1)
  mappings-hold w new =
      let o = word-owns n p lo hi r in
      mappings-add m.book k n word 1 low (within-test 1 17 n lo (omega arith)) mappings w o.used (empty n lo hi)
      (λ j l nz e. frame-none m.book n p.page new j l (record { used = nz; owner = (mappings.words j n l (within-test 1 17 n lo (omega arith)) nz).owner; page = e ∙ o.page }))
      (λ q v ne nz. absurd (nz (empty q (within-means 1 17 q v).0 (omega (arith, (within-means 1 17 q v).1)))))
      (omega arith)

-- ---- a list of pages

-- pages one after the other
pub place-append : (m : Store) (n : ℕ) (ps qs : List Page) → place m n (ps ++ qs) ≡ place (place m n ps) n qs
unfolding place
place-append m n [] qs = refl
place-append m n (p ∷ ps) qs = place-append (hold m n p (free_frame m.book)) n ps qs

-- without a free frame nothing is placed
pub place_none : (m : Store) (n : ℕ) (ps : List Page) → free_frame m.book ≡ None → place m n ps ≡ m
unfolding place
place_none m n [] e = refl
place_none m n (p ∷ ps) e = rw e (place_none m n ps e)

pub place-length : (m : Store) (n : ℕ) (ps : List Page) → length (place m n ps).book ≡ length m.book
unfolding place
place-length m n [] = refl
place-length m n (p ∷ ps) = place-length (hold m n p (free_frame m.book)) n ps ∙ go (free_frame m.book)
  where
    go : (o : Option ℕ) → length (hold m n p o).book ≡ length m.book
    go None = refl
    go (Some k) = enter-length m.book k n (word_of p.page n p.perm) 1

-- pages that fill frames keep the frames' length
hold-fits : (m : Store) (n : ℕ) (p : Page) → Fits m → length p.bytes ≡ 4096 → (o : Option ℕ) → free_frame m.book ≡ o → (length (hold m n p o).frames ≡ length m.frames) × Fits (hold m n p o)
hold-fits m n p fits w None e = (refl, fits)
hold-fits m n p fits w (Some k) e =
    let l : length (put m.frames (4096 * k) p.bytes) ≡ length m.frames = length-put m.frames p.bytes (4096 * k) (omega (arith, (free-frame m.book k e).0, fits.bytes)) in
    (l, fits-same (hold m n p (Some k)) m l (enter-length m.book k n (word_of p.page n p.perm) 1) fits)

abbrev pub WholePages : List Page → Type 0
WholePages ps = Each (λ p. length p.bytes ≡ 4096) ps

place-frames : (m : Store) (n : ℕ) (ps : List Page) → Fits m → WholePages ps → length (place m n ps).frames ≡ length m.frames
unfolding place
place-frames m n [] fits w = refl
place-frames m n (p ∷ ps) fits w =
    let h = hold-fits m n p fits w.0 (free_frame m.book) refl in
    place-frames (hold m n p (free_frame m.book)) n ps h.1 w.1 ∙ h.0

pub sized-place : (m : Store) (n : ℕ) (ps : List Page) → Fits m → WholePages ps → sized (place m n ps) ≡ sized m
sized-place m n ps fits w = sized_same (place m n ps) m (place-frames m n ps fits w) (place-length m n ps)

-- ---- what a process sees

-- no page of the list twice, and none in the book
abbrev pub Distinct : List Page → Type 0
Distinct [] = Unit {0}
Distinct (p ∷ ps) = Each (λ q. ¬ (q.page ≡ p.page)) ps × Distinct ps

abbrev pub Fresh : List ℕ → ℕ → List Page → Type 0
Fresh book n ps = Each (λ p. frame_of book n p.page ≡ None) ps

-- pages whose words a book may have
abbrev pub Worded : Setup → ℕ → List Page → Type 0
Worded setup n ps = Each (λ p. Word setup n (word_of p.page n p.perm)) ps

-- the cell of the page at an address, or else what was there
abbrev pub over : List Page → ℕ → Option Cell → Option Cell
over [] x c = c
over (p ∷ ps) x c = p.page is page_down x ⇒ cell_on p x else over ps x c

-- one page placed leaves the others to come
record Left (setup : Setup) (m : Store) (n : ℕ) (p : Page) (ps : List Page) (t : Store) : Type 0 where
  fits : Fits t
  fresh : Fresh t.book n ps
  room : length ps ≤ free t.book
  here : (x : ℕ) → page_down x ≡ p.page → mem_of t n x ≡ cell_on p x
  other : (x : ℕ) → (page_down x ≡ p.page → ⊥) → mem_of t n x ≡ mem_of m n x
  others : (q : ℕ) → valid q ≡ true → (q ≡ n → ⊥) → (x : ℕ) → mem_of t q x ≡ mem_of m q x
  mappings : Mappings setup t.book

left : {setup : Setup} (m : Store) (n : ℕ) (p : Page) (ps : List Page) → Fits m → Mappings setup m.book → 1 ≤ n → n ≤ 16 → Ready p → Word setup n (word_of p.page n p.perm) → Distinct (p ∷ ps) → Fresh m.book n (p ∷ ps)
    → length (p ∷ ps) ≤ free m.book → Left setup m n p ps (hold m n p (free_frame m.book))
left {setup} m n p ps fits mp lo hi r wd d new room = go (free_frame m.book) refl
  where
    go : (o : Option ℕ) → free_frame m.book ≡ o → Left setup m n p ps (hold m n p o)
    go None e = absurd (omega (arith, none_free m.book e))
    go (Some k) e =
        let f = free-frame m.book k e in
        let w : ℕ = word_of p.page n p.perm in
        let o = word-owns n p lo hi r in
        record {
          fits = (hold-fits m n p fits r.whole (Some k) e).1;
          fresh = apart ps k f.0 (unheld m.book mp.counts k f.0 f.1 n lo hi) o.page d.0 new.1;
          room = omega (arith, free-enter m.book k n w 1 f.0 hi f.1 (λ z. omega arith));
          here = λ x h. mem-hold m n p k fits mp f.0 f.1 lo hi r new.0 x h;
          other = λ x h. mem-hold-else m n p k fits mp f.0 f.1 lo hi r n x lo hi (λ z y. h y);
          others = λ q v ne x. mem-hold-else m n p k fits mp f.0 f.1 lo hi r q x (within-means 1 17 q v).0 (omega (arith, (within-means 1 17 q v).1)) (λ z y. ne z);
          mappings = mappings-hold m n p k fits mp f.0 f.1 lo hi r wd new.0;
        }
      where
        apart : (qs : List Page) (k : ℕ) → k < frame_count m.book → mapping m.book k n ≡ 0 → page_of (word_of p.page n p.perm) ≡ p.page
            → Each (λ q. ¬ (q.page ≡ p.page)) qs → Fresh m.book n qs → Fresh (enter m.book k n (word_of p.page n p.perm) 1) n qs
        apart [] k l z u a b = tt
        apart (q ∷ qs) k l z u a b =
            (frame-else m.book k n (word_of p.page n p.perm) 1 l lo hi z q.page (λ o. a.0 (sym o.page ∙ u)) ∙ b.0, apart qs k l z u a.1 b.1)

over-else : (ps : List Page) (x page : ℕ) (c : Option Cell) → page_down x ≡ page → Each (λ q. ¬ (q.page ≡ page)) ps → over ps x c ≡ c
over-else [] x page c e d = refl
over-else (q ∷ qs) x page c e d = rw (ne_eqb q.page (page_down x) (λ z. d.0 (z ∙ e))) (over-else qs x page c e d.1)

-- pages that may be placed: whole, proper, none twice, none in the book, and free frames enough
pub record Comes (setup : Setup) (m : Store) (n : ℕ) (ps : List Page) : Type 0 where
  pub low : 1 ≤ n
  pub high : n ≤ 16
  pub ready : Each Ready ps
  pub worded : Worded setup n ps
  pub distinct : Distinct ps
  pub fresh : Fresh m.book n ps
  pub room : length ps ≤ free m.book

next : {setup : Setup} (m : Store) (n : ℕ) (p : Page) (ps : List Page) → Fits m → Mappings setup m.book → Comes setup m n (p ∷ ps) → Left setup m n p ps (hold m n p (free_frame m.book))
next m n p ps fits mp c = left m n p ps fits mp c.low c.high c.ready.0 c.worded.0 c.distinct c.fresh c.room

rest : {setup : Setup} (m t : Store) (n : ℕ) (p : Page) (ps : List Page) → Comes setup m n (p ∷ ps) → Left setup m n p ps t → Comes setup t n ps
rest m t n p ps c l = record { low = c.low; high = c.high; ready = c.ready.1; worded = c.worded.1; distinct = c.distinct.1; fresh = l.fresh; room = l.room }

-- the process itself sees each placed page, with its permission and bytes, and elsewhere what it saw
pub mem-place : {setup : Setup} (m : Store) (n : ℕ) (ps : List Page) → Fits m → Mappings setup m.book → Comes setup m n ps → (x : ℕ) → mem_of (place m n ps) n x ≡ over ps x (mem_of m n x)
unfolding place
mem-place m n [] fits mp c x = refl
mem-place m n (p ∷ ps) fits mp c x =
    let l = next m n p ps fits mp c in
    mem-place (hold m n p (free_frame m.book)) n ps l.fits l.mappings (rest m _ n p ps c l) x
    ∙ split (eqb p.page (page_down x))
    (λ q. let e = sym (eqb-true p.page (page_down x) q) in rw q (over-else ps x p.page _ e c.distinct.0 ∙ l.here x e))
    (λ q. rw q (ap (over ps x) (l.other x (λ z. eqb-false p.page (page_down x) q (sym z)))))

-- another process sees what it saw
mem-place-at : {setup : Setup} (m : Store) (n : ℕ) (ps : List Page) → Fits m → Mappings setup m.book → Comes setup m n ps → (q : ℕ) → valid q ≡ true → (q ≡ n → ⊥) → (x : ℕ) → mem_of (place m n ps) q x ≡ mem_of m q x
unfolding place
mem-place-at m n [] fits mp c q v ne x = refl
mem-place-at m n (p ∷ ps) fits mp c q v ne x =
    let l = next m n p ps fits mp c in
    mem-place-at (hold m n p (free_frame m.book)) n ps l.fits l.mappings (rest m _ n p ps c l) q v ne x ∙ l.others q v ne x

pub mem-place-other : {setup : Setup} (m : Store) (n : ℕ) (ps : List Page) → Fits m → Mappings setup m.book → Comes setup m n ps → (q : ℕ) → valid q ≡ true → (q ≡ n → ⊥) → mem_of (place m n ps) q ≡ mem_of m q
mem-place-other m n ps fits mp c q v ne = λ i x. mem-place-at m n ps fits mp c q v ne x i

-- and the book's rules hold
pub mappings-place : {setup : Setup} (m : Store) (n : ℕ) (ps : List Page) → Fits m → Mappings setup m.book → Comes setup m n ps → Mappings setup (place m n ps).book
unfolding place
mappings-place m n [] fits mp c = mp
mappings-place m n (p ∷ ps) fits mp c =
    let l = next m n p ps fits mp c in
    mappings-place (hold m n p (free_frame m.book)) n ps l.fits l.mappings (rest m _ n p ps c l)
