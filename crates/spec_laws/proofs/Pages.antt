-- The pages of pieces: no page twice, and the cell that they give an address.
use Prim.Native.Nat.{ℕ, zero, suc, ◌+◌, ◌*◌, ◌-◌, ◌/◌, ◌%◌, ◌≤◌, ◌<◌}
use native.Mathlib.Omega.{arith}
use mathlib.Core.Path.{◌≡◌, refl, sym, ap, ◌∙◌}
use mathlib.Core.Bool.{Bool, true}
use Rattle.std.specs.Prelude.{Option, None, Some}
use mathlib.Core.List.{List, [], ◌∷◌, ◌++◌}
use lib.Dec.{eqb}
use lib.ListN.{get_or}
use borrow.Author.Tests.{eqb-true, eqb-false}
use Rattle.spec.specs.Tests.{◌is◌, within, ◌⇒◌else◌}
use Rattle.spec.specs.Numbers.{page_down}
use Rattle.spec.specs.Book.{in_segment, perm_at}
use Rattle.spec.specs.Frames.{Cell, Page, pages_from, pages_of}
use Rattle.spec.specs.declared.UserSegment.{UserSegment}
use Rattle.spec.proofs.Bools.{split, clash, within-means, within-test, within-not}
use Rattle.spec.proofs.Lists.{flat_append}
use Rattle.spec_laws.proofs.Lists.{Each, each_append}
use Rattle.spec_laws.proofs.Place.{Distinct, over}
use Rattle.spec_laws.proofs.Pieces.{Piece, Pieces, perm-tail}

-- how many pages a piece has
abbrev pages : UserSegment → ℕ
pages g = (g.range.end - g.range.start) / 4096

-- ---- lists of pages

pub pages-append : (f : ℕ → List ℕ) (gs hs : List UserSegment) → pages_of f (gs ++ hs) ≡ pages_of f gs ++ pages_of f hs
pages-append f gs hs = flat_append (λ g. pages_from f g.perm g.range.start (pages g)) (pages_of f) refl (λ g gs. refl) gs hs

-- ---- what holds of each page

each_from : (f : ℕ → List ℕ) (perm a k : ℕ) (P : Page → Type 0) → a % 4096 ≡ 0
    → ((x : ℕ) → x % 4096 ≡ 0 → a ≤ x → x < a + 4096 * k → P (record { page = x; perm = perm; bytes = f x })) → Each P (pages_from f perm a k)
each_from f perm a zero P z h = tt
each_from f perm a (suc k) P z h = (h a z (omega arith) (omega arith), each_from f perm (a + 4096) k P (omega arith) (λ x e l u. h x e (omega arith) (omega arith)))

each-piece : (f : ℕ → List ℕ) (g : UserSegment) (gs : List UserSegment) (P : Page → Type 0) → Piece g gs
    → ((x : ℕ) → x % 4096 ≡ 0 → in_segment x g ≡ true → P (record { page = x; perm = g.perm; bytes = f x })) → Each P (pages_from f g.perm g.range.start (pages g))
each-piece f g gs P p h =
    each_from f g.perm g.range.start (pages g) P p.start
    (λ x e l u. h x e (within-test g.range.start g.range.end x l (omega (arith, p.end, p.start))))

-- a fact of each page of pieces, from its permission
pub each-pages : (f : ℕ → List ℕ) (gs : List UserSegment) (P : Page → Type 0) → Pieces gs
    → ((a q : ℕ) → a % 4096 ≡ 0 → perm_at gs a ≡ Some q → P (record { page = a; perm = q; bytes = f a })) → Each P (pages_of f gs)
each-pages f [] P p h = tt
each-pages f (g ∷ gs) P p h =
    each_append P (pages_from f g.perm g.range.start (pages g)) (pages_of f gs)
    (each-piece f g gs P p.0 (λ x e s. h x g.perm e (rw s)))
    (each-pages f gs P p.1 (λ a q e s. h a q e (perm-tail g gs a q p.0 s)))

-- ---- no page twice

distinct_append : (ps qs : List Page) → Distinct ps → Distinct qs → Each (λ p. Each (λ q. ¬ (q.page ≡ p.page)) qs) ps → Distinct (ps ++ qs)
distinct_append [] qs a b c = b
distinct_append (p ∷ ps) qs a b c = (each_append (λ q. ¬ (q.page ≡ p.page)) ps qs a.0 c.0, distinct_append ps qs a.1 b c.1)

distinct_from : (f : ℕ → List ℕ) (perm a k : ℕ) → a % 4096 ≡ 0 → Distinct (pages_from f perm a k)
distinct_from f perm a zero z = tt
distinct_from f perm a (suc k) z = (each_from f perm (a + 4096) k (λ q. ¬ (q.page ≡ a)) (omega arith) (λ x e l u y. omega arith), distinct_from f perm (a + 4096) k (omega arith))

pub distinct-pages : (f : ℕ → List ℕ) (gs : List UserSegment) → Pieces gs → Distinct (pages_of f gs)
distinct-pages f [] p = tt
distinct-pages f (g ∷ gs) p =
    distinct_append (pages_from f g.perm g.range.start (pages g)) (pages_of f gs) (distinct_from f g.perm g.range.start (pages g) p.0.start) (distinct-pages f gs p.1)
    (each-piece f g gs (λ r. Each (λ q. ¬ (q.page ≡ r.page)) (pages_of f gs)) p.0
    (λ x e s. each-pages f gs (λ q. ¬ (q.page ≡ x)) p.1
    (λ a q z h y. let n : perm_at gs a ≡ None = ap (perm_at gs) y ∙ p.0.apart x s in absurd (let w : ◌≡◌ {A = ℕ} 0 1 = cc in omega arith))))

-- ---- the cell at an address

-- a permission with a byte, or else what was there
abbrev pub cell_or : Option ℕ → ℕ → Option Cell → Option Cell
cell_or None byte c = c
cell_or (Some perm) byte c = Some (record { perm = perm; byte = byte })

over-append : (ps qs : List Page) (x : ℕ) (c : Option Cell) → over (ps ++ qs) x c ≡ over ps x (over qs x c)
over-append [] qs x c = refl
over-append (p ∷ ps) qs x c = ap (λ (o : Option Cell). p.page is page_down x ⇒ Some (record { perm = p.perm; byte = get_or p.bytes (x % 4096) 0 }) else o) (over-append ps qs x c)

over-from : (f : ℕ → List ℕ) (perm a k x : ℕ) (c : Option Cell) → a % 4096 ≡ 0
    → over (pages_from f perm a k) x c ≡ (within a (a + 4096 * k) x ⇒ Some (record { perm = perm; byte = get_or (f (page_down x)) (x % 4096) 0 }) else c)
over-from f perm a zero x c z = sym (rw (within-not a (a + 4096 * 0) x (λ l u. omega arith)))
over-from f perm a (suc k) x c z =
    split (eqb a (page_down x))
    (λ q.
    let e : a ≡ page_down x = eqb-true a (page_down x) q in
    rw (q, within-test a (a + 4096 * suc k) x (omega arith) (omega arith))
    (ap (λ (y : ℕ). Some (record { perm = perm; byte = get_or (f y) (x % 4096) 0 })) e))
    (λ q.
    let ne : a ≡ page_down x → ⊥ = eqb-false a (page_down x) q in
    rw q (over-from f perm (a + 4096) k x c (omega arith)
    ∙ ap (λ (b : Bool). b ⇒ Some (record { perm = perm; byte = get_or (f (page_down x)) (x % 4096) 0 }) else c) (next ne)))
  where
    next : (a ≡ page_down x → ⊥) → within (a + 4096) (a + 4096 + 4096 * k) x ≡ within a (a + 4096 * suc k) x
    next ne =
        split (within a (a + 4096 * suc k) x)
        (λ q. let r = within-means a (a + 4096 * suc k) x q in within-test (a + 4096) (a + 4096 + 4096 * k) x (omega arith) (omega arith) ∙ sym q)
        (λ q. within-not (a + 4096) (a + 4096 + 4096 * k) x (λ l u. clash _ (within-test a (a + 4096 * suc k) x (omega arith) (omega arith)) q) ∙ sym q)

pub over-pages : (f : ℕ → List ℕ) (gs : List UserSegment) → Pieces gs → (x : ℕ) (c : Option Cell) → over (pages_of f gs) x c ≡ cell_or (perm_at gs x) (get_or (f (page_down x)) (x % 4096) 0) c
over-pages f [] p x c = refl
over-pages f (g ∷ gs) p x c =
    over-append (pages_from f g.perm g.range.start (pages g)) (pages_of f gs) x c
    ∙ over-from f g.perm g.range.start (pages g) x (over (pages_of f gs) x c) p.0.start
    ∙ split (in_segment x g)
    (λ q.
    let r = within-means g.range.start g.range.end x q in
    rw (q, within-test g.range.start (g.range.start + 4096 * pages g) x r.0 (omega (arith, p.0.start, p.0.end))))
    (λ q.
    rw (
      q,
      within-not g.range.start (g.range.start + 4096 * pages g) x
          (λ l u. clash (in_segment x g) (within-test g.range.start g.range.end x l (omega (arith, p.0.start, p.0.end))) q),
    )
    (over-pages f gs p.1 x c))
