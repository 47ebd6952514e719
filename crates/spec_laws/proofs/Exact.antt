-- The book has the pages of pieces with their permissions, and no others of an owner.
use Prim.Native.Nat.{ℕ, ◌+◌, ◌*◌, ◌-◌, ◌/◌, ◌%◌, ◌<◌}
use native.Mathlib.Omega.{arith}
use mathlib.Core.Path.{◌≡◌, refl, sym, ap, ◌∙◌}
use mathlib.Core.Bool.{true, false}
use Rattle.std.specs.Prelude.{Option, None, Some}
use mathlib.Core.List.{List, [], ◌∷◌}
use borrow.Author.Tests.{eqb-false, ne_eqb}
use Rattle.spec.proofs.Bools.{split, both, and-test, or-fact, or-test, within-means, within-test, below_at, below-test}
use Rattle.spec.specs.Tests.{◌is◌, all}
use Rattle.spec.specs.Book.{page_of, perm_of, valid, frame_count, mapping, frame_of, perm_in, book_perm, in_segment, perm_at}
use Rattle.spec.specs.Sound.{gives, booked, recorded, recorded_all, Mappings}
use Rattle.spec.specs.declared.UserSegment.{UserSegment}
use Rattle.spec.specs.declared.Setup.{Setup}
use Rattle.spec_laws.proofs.Pieces.{Pieces, perm-here, perm-there}
use Rattle.spec_laws.proofs.Frame.{once-means, frame_is, frame_found}
use Rattle.spec_laws.proofs.Owned.{gives-means, gives-test}

-- ---- the book has the pages of pieces, and no others

pub some-none : {P : Type 0} (o : Option ℕ) (q : ℕ) → o ≡ Some q → o ≡ None → P
some-none o q e f = absurd (let w : Some q ≡ None = sym e ∙ f in let z : ◌≡◌ {A = ℕ} 0 1 = cc in omega arith)

booked-at : (book : List ℕ) (n : ℕ) (g : UserSegment) (a : ℕ) → g.range.start % 4096 ≡ 0 → g.range.end % 4096 ≡ 0 → booked book n g ≡ true → in_segment a g ≡ true → a % 4096 ≡ 0 → book_perm book n a ≡ Some g.perm
booked-at book n g a start end bk i z =
    let w = within-means g.range.start g.range.end a i in
    let e : g.range.start + 4096 * ((a - g.range.start) / 4096) ≡ a = omega (arith, w.0) in
    let t = below_at ((g.range.end - g.range.start) / 4096) (λ j. gives (book_perm book n (g.range.start + 4096 * j)) g.perm) bk ((a - g.range.start) / 4096) (omega (arith, w.0, w.1)) in
    ap (book_perm book n) (sym e) ∙ gives-means _ g.perm t

-- the pages of pieces stand in the book, with their permissions
in-book : (book : List ℕ) (n : ℕ) (gs : List UserSegment) → Pieces gs → all (booked book n) gs ≡ true → (a q : ℕ) → a % 4096 ≡ 0 → perm_at gs a ≡ Some q → book_perm book n a ≡ Some q
in-book book n [] p bk a q z e = some-none None q e refl
in-book book n (g ∷ gs) p bk a q z e =
    let r = both (booked book n g) (all (booked book n) gs) bk in
    split (in_segment a g)
    (λ i. booked-at book n g a p.0.start p.0.end r.0 i z ∙ sym (perm-here g gs a i) ∙ e)
    (λ i. in-book book n gs p.1 r.1 a q z (sym (perm-there g gs a i) ∙ e))

booked-test : (book : List ℕ) (n : ℕ) (gs : List UserSegment) → Pieces gs → ((a q : ℕ) → a % 4096 ≡ 0 → perm_at gs a ≡ Some q → book_perm book n a ≡ Some q) → all (booked book n) gs ≡ true
booked-test book n [] p f = refl
booked-test book n (g ∷ gs) p f =
    and-test (booked book n g) (all (booked book n) gs)
    (below-test ((g.range.end - g.range.start) / 4096) (λ j. gives (book_perm book n (g.range.start + 4096 * j)) g.perm) (λ j l.
    let a : ℕ = g.range.start + 4096 * j in
    gives-test (book_perm book n a) g.perm (f a g.perm (omega (arith, p.0.start)) (perm-here g gs a (within-test g.range.start g.range.end a (omega arith) (omega (arith, p.0.start, p.0.end)))))))
    (booked-test book n gs p.1 (λ a q z e. f a q z (perm-there g gs a (elsewhere a q e) ∙ e)))
  where
    elsewhere : (a q : ℕ) → perm_at gs a ≡ Some q → in_segment a g ≡ false
    elsewhere a q e = split (in_segment a g) (λ i. some-none (perm_at gs a) q e (p.0.apart a i)) (λ i. i)

recorded-at : (book : List ℕ) (n : ℕ) (gs : List UserSegment) → recorded_all book n gs ≡ true → (k : ℕ) → k < frame_count book → ¬ (mapping book k n ≡ 0)
    → perm_at gs (page_of (mapping book k n)) ≡ Some (perm_of (mapping book k n))
recorded-at book n gs e k l nz =
    let w : ℕ = mapping book k n in
    gives-means _ (perm_of w) (or-fact (w is 0) (gives (perm_at gs (page_of w)) (perm_of w)) (below_at (frame_count book) (λ j. recorded gs (mapping book j n)) e k l) (ne_eqb w 0 nz))

pub recorded-test : (book : List ℕ) (n : ℕ) (gs : List UserSegment) → ((k : ℕ) → k < frame_count book → ¬ (mapping book k n ≡ 0) → perm_at gs (page_of (mapping book k n)) ≡ Some (perm_of (mapping book k n)))
    → recorded_all book n gs ≡ true
recorded-test book n gs f = below-test (frame_count book) (λ j. recorded gs (mapping book j n)) (λ k l. one (mapping book k n) (f k l))
  where
    one : (w : ℕ) → (¬ (w ≡ 0) → perm_at gs (page_of w) ≡ Some (perm_of w)) → recorded gs w ≡ true
    one w f = or-test (w is 0) (gives (perm_at gs (page_of w)) (perm_of w)) (λ q. gives-test (perm_at gs (page_of w)) (perm_of w) (f (eqb-false w 0 q)))

-- both: a process's pages are exactly those of its pieces, with those permissions
pub exact-means : (book : List ℕ) (n : ℕ) (gs : List UserSegment) → Pieces gs → all (booked book n) gs ≡ true → recorded_all book n gs ≡ true
    → (page : ℕ) → page % 4096 ≡ 0 → book_perm book n page ≡ perm_at gs page
exact-means book n gs p bk rc page z = go (frame_of book n page) refl (perm_at gs page) refl
  where
    go : (f : Option ℕ) → frame_of book n page ≡ f → (o : Option ℕ) → perm_at gs page ≡ o → book_perm book n page ≡ perm_at gs page
    go None e None h = ap (perm_in book n) e ∙ sym h
    go None e (Some q) h = in-book book n gs p bk page q z h ∙ sym h
    go (Some k) e r h =
        let f = frame_found book n page k e in
        ap (perm_in book n) e ∙ sym (recorded-at book n gs rc k f.0 f.1.used) ∙ ap (perm_at gs) f.1.page

pub exact-recorded : {setup : Setup} (book : List ℕ) (n : ℕ) (gs : List UserSegment) → Mappings setup book → valid n ≡ true → ((page : ℕ) → page % 4096 ≡ 0 → book_perm book n page ≡ perm_at gs page) → recorded_all book n gs ≡ true
exact-recorded book n gs h v x =
    recorded-test book n gs (λ k l nz.
    sym (x (page_of (mapping book k n)) (omega arith))
    ∙ ap (perm_in book n) (frame_is book n (page_of (mapping book k n)) k (once-means book h n v) l (record { used = nz; owner = (h.words k n l v nz).owner; page = refl })))

pub exact-booked : (book : List ℕ) (n : ℕ) (gs : List UserSegment) → Pieces gs → ((page : ℕ) → page % 4096 ≡ 0 → book_perm book n page ≡ perm_at gs page) → all (booked book n) gs ≡ true
exact-booked book n gs p x = booked-test book n gs p (λ a q z e. x a z ∙ e)
