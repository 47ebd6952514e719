-- Soundness as a test and as facts: the one holds exactly where the other does.
use Prim.Native.Nat.{ℕ, ◌+◌, ◌-◌, ◌%◌, ◌≤◌, ◌<◌}
use native.Mathlib.Omega.{arith}
use mathlib.Core.Path.{◌≡◌, refl, sym, ap, ◌∙◌}
use mathlib.Core.Bool.{true, false, ◌&&◌}
use Rattle.std.specs.Prelude.{Option, None, Some}
use mathlib.Core.List.{List, []}
use Rattle.spec.proofs.Bools.{split, both, and-test, living-ok, dead-ok}
use Rattle.spec.specs.Tests.{all, all_below}
use Rattle.spec.specs.Numbers.{page_down, SetupOk}
use Rattle.spec.specs.Book.{perm_of, valid, frame_count, mapping, frame_of, perm_in, book_perm, lives, perm_at, proc_at, pieces_of}
use Rattle.spec.specs.Sound.{segments_ok, booked, recorded_all, frame_ok, proc_ok, sound_book, Shape, Mappings, Sound}
use Rattle.spec.specs.declared.UserSegment.{UserSegment}
use Rattle.spec.specs.declared.Proc.{Proc}
use Rattle.spec.specs.declared.Procs.{Procs}
use Rattle.spec.specs.declared.Setup.{Setup}
use Rattle.spec_laws.proofs.Record.{WholeProc, Whole, dead-zero}
use Rattle.spec_laws.proofs.Shape.{segments-shape, shape-segments}
use Rattle.spec_laws.proofs.Pieces.{Pieces, perm-page}
use Rattle.spec_laws.proofs.OwnPieces.{own-pieces, zero-apart, zero-pieces}
use Rattle.spec_laws.proofs.Frame.{frame_found}
use Rattle.spec_laws.proofs.Owned.{numbers-at, numbers-test, mappings-mean, mappings-test}
use Rattle.spec_laws.proofs.Exact.{some-none, exact-means, exact-recorded, exact-booked}

-- ---- one process

abbrev Exact : List ℕ → ℕ → Proc → Type 0
Exact book n p = (page : ℕ) → page % 4096 ≡ 0 → book_perm book n page ≡ perm_at (pieces_of p) page

module _ (setup : Setup) where
  abbrev pub Shaped : Proc → Type 0
  Shaped p = (image : List UserSegment) × Shape setup p image

  -- the tests of a living process, and of a dead one
  living-parts : (book : List ℕ) (n : ℕ) (p : Proc) → proc_ok setup book n p ≡ true → lives p ≡ true
      → (segments_ok setup setup.utzero p.bss p.segments ≡ true) × (all (booked book n) (pieces_of p) ≡ true) × (recorded_all book n (pieces_of p) ≡ true)
  living-parts book n p e l =
      let ok = living-ok (lives p) (segments_ok setup setup.utzero p.bss p.segments && all (booked book n) (pieces_of p) && recorded_all book n (pieces_of p)) (recorded_all book n []) e l in
      let x = both (segments_ok setup setup.utzero p.bss p.segments && all (booked book n) (pieces_of p)) (recorded_all book n (pieces_of p)) ok in
      let y = both (segments_ok setup setup.utzero p.bss p.segments) (all (booked book n) (pieces_of p)) x.0 in
      (y.0, y.1, x.1)

  dead-parts : (book : List ℕ) (n : ℕ) (p : Proc) → proc_ok setup book n p ≡ true → lives p ≡ false → recorded_all book n [] ≡ true
  dead-parts book n p e l = dead-ok (lives p) (segments_ok setup setup.utzero p.bss p.segments && all (booked book n) (pieces_of p) && recorded_all book n (pieces_of p)) (recorded_all book n []) e l

  proc-shape : (book : List ℕ) (n : ℕ) (p : Proc) → WholeProc p → proc_ok setup book n p ≡ true → lives p ≡ true → Shaped p
  proc-shape book n p w e l = segments-shape setup p w.segments (living-parts book n p e l).0

proc-exact : (setup : Setup) (ok : SetupOk setup) (book : List ℕ) (n : ℕ) (p : Proc) → WholeProc p → proc_ok setup book n p ≡ true → Exact book n p
proc-exact setup ok book n p w e page z =
    split (lives p)
    (λ l.
    let t = living-parts setup book n p e l in
    let s = proc-shape setup book n p w e l in
    exact-means book n (pieces_of p) (own-pieces setup ok p s.0 s.1) t.1 t.2 page z)
    (λ l. exact-means book n [] tt refl (dead-parts setup book n p e l) page z ∙ sym (zero-pieces page) ∙ ap (λ (x : Proc). perm_at (pieces_of x) page) (sym (dead-zero p w l)))

proc-test : (setup : Setup) (ok : SetupOk setup) (book : List ℕ) (n : ℕ) (p : Proc) → WholeProc p → Mappings setup book → valid n ≡ true → (lives p ≡ true → Shaped setup p) → Exact book n p → proc_ok setup book n p ≡ true
proc-test setup ok book n p w h v shape x =
    split (lives p)
    (λ l.
    let s = shape l in
    rw (l, shape-segments setup p s.0 s.1, exact-booked book n (pieces_of p) (own-pieces setup ok p s.0 s.1) x) (exact-recorded book n (pieces_of p) h v x))
    (λ l. rw l (exact-recorded book n [] h v (λ page z. x page z ∙ ap (λ (y : Proc). perm_at (pieces_of y) page) (dead-zero p w l) ∙ zero-pieces page)))

-- ---- the whole book

-- the two parts of the test
sound-parts : (setup : Setup) (book : List ℕ) (ps : Procs) → sound_book setup book ps ≡ true
    → (all_below (frame_count book) (frame_ok setup book) ≡ true) × ((n : ℕ) → valid n ≡ true → proc_ok setup book n (proc_at ps n) ≡ true)
unfolding sound_book
sound-parts setup book ps e =
    let p = both (all_below (frame_count book) (frame_ok setup book)) (all_below 16 (λ i. proc_ok setup book (i + 1) (proc_at ps (i + 1)))) e in
    (p.0, numbers-at (λ n. proc_ok setup book n (proc_at ps n)) p.1)

pub sound-test : (setup : Setup) (book : List ℕ) (ps : Procs) → all_below (frame_count book) (frame_ok setup book) ≡ true → ((n : ℕ) → valid n ≡ true → proc_ok setup book n (proc_at ps n) ≡ true) → sound_book setup book ps ≡ true
unfolding sound_book
sound-test setup book ps w f =
    and-test (all_below (frame_count book) (frame_ok setup book)) (all_below 16 (λ i. proc_ok setup book (i + 1) (proc_at ps (i + 1)))) w
    (numbers-test (λ n. proc_ok setup book n (proc_at ps n)) f)

-- a book that passes the test is sound
pub sound-facts : (setup : Setup) (ok : SetupOk setup) (book : List ℕ) (ps : Procs) → Whole ps → sound_book setup book ps ≡ true → Sound setup book ps
sound-facts setup ok book ps w e = record {
  accepted = ok;
  mappings = mappings-mean setup book parts.0;
  shape = λ n v. proc-shape setup book n (proc_at ps n) (w.each (n - 1)) (parts.1 n v);
  exact = λ n page v. proc-exact setup ok book n (proc_at ps n) (w.each (n - 1)) (parts.1 n v) page;
}
  where
    parts : (all_below (frame_count book) (frame_ok setup book) ≡ true) × ((n : ℕ) → valid n ≡ true → proc_ok setup book n (proc_at ps n) ≡ true)
    parts = sound-parts setup book ps e

module _ (setup : Setup) where
  -- and a sound book passes it
  pub facts-sound : (book : List ℕ) (ps : Procs) → Whole ps → Sound setup book ps → sound_book setup book ps ≡ true
  facts-sound book ps w s =
      sound-test setup book ps (mappings-test setup book s.mappings)
      (λ n v. proc-test setup s.accepted book n (proc_at ps n) (w.each (n - 1)) s.mappings v (s.shape n v) (λ page. s.exact n page v))

  -- ---- what a sound book says of one process

  -- a living process's pieces are aligned and disjoint, and so are a dead one's, which has none but an empty bss
  sound-pieces : (book : List ℕ) (ps : Procs) → Whole ps → Sound setup book ps → (n : ℕ) → valid n ≡ true → Pieces (pieces_of (proc_at ps n))
  sound-pieces book ps w s n v =
      split (lives (proc_at ps n))
      (λ l. let h = s.shape n v l in own-pieces setup s.accepted (proc_at ps n) h.0 h.1)
      (λ l. rw (dead-zero (proc_at ps n) (w.each (n - 1)) l) zero-apart)

  -- the book gives each address's page what the record gives the address
  pub sound-perm : (book : List ℕ) (ps : Procs) → Whole ps → Sound setup book ps → (n a : ℕ) → valid n ≡ true → book_perm book n (page_down a) ≡ perm_at (pieces_of (proc_at ps n)) a
  sound-perm book ps w s n a v = s.exact n (page_down a) v (omega arith) ∙ perm-page (pieces_of (proc_at ps n)) a (sound-pieces book ps w s n v)

  -- a dead process owns nothing
  pub dead-frame : (book : List ℕ) (ps : Procs) → Whole ps → Sound setup book ps → (n : ℕ) → valid n ≡ true → lives (proc_at ps n) ≡ false → (page : ℕ) → frame_of book n page ≡ None
  dead-frame book ps w s n v d page = go (frame_of book n page) refl
    where
      go : (o : Option ℕ) → frame_of book n page ≡ o → o ≡ None
      go None e = refl
      go (Some k) e =
          let aligned : page % 4096 ≡ 0 = omega (arith, (frame_found book n page k e).1.page) in
          some-none (book_perm book n page) (perm_of (mapping book k n)) (ap (perm_in book n) e)
          (s.exact n page v aligned ∙ ap (λ (p : Proc). perm_at (pieces_of p) page) (dead-zero (proc_at ps n) (w.each (n - 1)) d) ∙ zero-pieces page)

  -- an address whose page is found lies below UADDRTOP, from UTZERO on
  pub found_between : (book : List ℕ) (ps : Procs) → Sound setup book ps → (n a k : ℕ) → valid n ≡ true → frame_of book n (page_down a) ≡ Some k → (setup.utzero ≤ a) × (a < setup.uaddrtop)
  found_between book ps s n a k v e =
      let f = frame_found book n (page_down a) k e in
      let w = s.mappings.words k n f.0 v f.1.used in
      (omega (arith, f.1.page, w.page.0), omega (arith, f.1.page, w.page.1))

  -- and a record gives permissions 1 to 3
  pub sound-between : (book : List ℕ) (ps : Procs) → Whole ps → Sound setup book ps → (n a q : ℕ) → valid n ≡ true → perm_at (pieces_of (proc_at ps n)) a ≡ Some q → (1 ≤ q) × (q ≤ 3)
  sound-between book ps w s n a q v e = go (frame_of book n (page_down a)) refl
    where
      go : (o : Option ℕ) → frame_of book n (page_down a) ≡ o → (1 ≤ q) × (q ≤ 3)
      go None f = some-none (book_perm book n (page_down a)) q (sound-perm book ps w s n a v ∙ e) (ap (perm_in book n) f)
      go (Some k) f =
          let r : Some (perm_of (mapping book k n)) ≡ Some q = sym (ap (perm_in book n) f) ∙ sound-perm book ps w s n a v ∙ e in
          let same : perm_of (mapping book k n) ≡ q = cc in
          let x = frame_found book n (page_down a) k f in
          rw (← same) (s.mappings.words k n x.0 v x.1.used).perm
