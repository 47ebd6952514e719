-- Bytes of a process written over: only its own memory changes, as `write` says.
use Prim.Native.Nat.{ℕ, suc, ◌+◌, ◌*◌, ◌-◌, ◌%◌, ◌≤◌, ◌<◌}
use native.Mathlib.Omega.{arith}
use native.Mathlib.Nat.{add-zero}
use mathlib.Core.Path.{◌≡◌, refl, sym, ap, ◌∙◌}
use mathlib.Core.Bool.{true}
use Rattle.std.specs.Prelude.{Option, None, Some}
use mathlib.Core.List.{List, [], ◌∷◌, ◌++◌}
use lib.Dec.{eqb}
use lib.ListN.{length, get_or, set, length-set}
use lib.Seq.{sets, get_or-set_same, get_or-set_other}
use borrow.Author.Tests.{eqb-true, eqb-false}
use Rattle.spec.specs.Tests.{within}
use Rattle.spec.specs.Numbers.{page_down}
use Rattle.spec.specs.Book.{perm_of, valid, frame_count, mapping, frame_of}
use Rattle.spec.specs.Sound.{Mappings}
use Rattle.spec.specs.History as history
use Rattle.spec.specs.Frames.{Store, sized, Cell, Mem, cell_in, mem_of, put, poke, pokes}
use Rattle.spec.specs.Access.{cell_ok, rewrite, write}
use Rattle.spec.specs.declared.Setup.{Setup}
use Rattle.spec.proofs.Bools.{split, clash, within-means, within-test, within-not}
use Rattle.spec.proofs.Pushes.{Writable}
use Rattle.spec.proofs.Free.{poke-book, pokes-book}
use Rattle.spec_laws.proofs.Lists.{put-sets}
use Rattle.spec_laws.proofs.Frame.{Fits, sized_same, fits-same, frame_found, cell-eq}

-- ---- one byte

poke-frames : (m : Store) (a b : ℕ) (o : Option ℕ) → length (poke m a b o).frames ≡ length m.frames
poke-frames m a b None = refl
poke-frames m a b (Some k) = length-set m.frames (4096 * k + a % 4096) b

-- each frame in which process n has a page from a up to, but not including, a + len is no other's
abbrev pub Sole : List ℕ → ℕ → ℕ → ℕ → Type 0
Sole book n a len = (x k : ℕ) → a ≤ x → x < a + len → frame_of book n (page_down x) ≡ Some k → (q : ℕ) → valid q ≡ true → (q ≡ n → ⊥) → mapping book k q ≡ 0

-- what a process sees through a poked frame
module _ (m : Store) (n a b x : ℕ) (fits : Fits m) where
  poke-here : x ≡ a → mem_of (poke m a b (frame_of m.book n (page_down a))) n x ≡ rewrite b (mem_of m n x)
  poke-here ex = rw ex (go (frame_of m.book n (page_down a)) refl)
    where
      go : (o : Option ℕ) → frame_of m.book n (page_down a) ≡ o → cell_in (poke m a b o) n a (frame_of (poke m a b o).book n (page_down a)) ≡ rewrite b (cell_in m n a o)
      go None e = rw e
      go (Some k) e = let f = frame_found m.book n (page_down a) k e in
          rw e (cell-eq _ _ _ _ refl (get_or-set_same m.frames (4096 * k + a % 4096) b 0 (omega (arith, f.0, fits.bytes))))

  -- through the frame of another page, or through another place of the frame
  poke-else : (p : ℕ) → ((k : ℕ) → frame_of m.book n (page_down a) ≡ Some k → frame_of m.book p (page_down x) ≡ Some k → x ≡ a → ⊥)
      → ((k : ℕ) → frame_of m.book n (page_down a) ≡ Some k → frame_of m.book p (page_down x) ≡ Some k → page_down x ≡ page_down a)
      → mem_of (poke m a b (frame_of m.book n (page_down a))) p x ≡ mem_of m p x
  poke-else p out same = go (frame_of m.book n (page_down a)) refl (frame_of m.book p (page_down x)) refl
    where
      go : (o : Option ℕ) → frame_of m.book n (page_down a) ≡ o → (r : Option ℕ) → frame_of m.book p (page_down x) ≡ r
          → cell_in (poke m a b o) p x (frame_of (poke m a b o).book p (page_down x)) ≡ cell_in m p x r
      go None e r f = rw f
      go (Some k) e None f = rw f
      go (Some k) e (Some j) f =
          rw f (cell-eq _ _ _ _ refl (get_or-set_other m.frames (4096 * k + a % 4096) (4096 * j + x % 4096) b 0
          (λ z.
          let jk : j ≡ k = omega arith in
          let f' : frame_of m.book p (page_down x) ≡ Some k = f ∙ ap Some jk in
          out k e f' (omega (arith, same k e f')))))

  poke-own : (x ≡ a → ⊥) → mem_of (poke m a b (frame_of m.book n (page_down a))) n x ≡ mem_of m n x
  poke-own ne =
      poke-else n (λ k e f z. ne z)
      (λ k e f. sym (frame_found m.book n (page_down x) k f).1.page ∙ (frame_found m.book n (page_down a) k e).1.page)

  poke-other : (p len : ℕ) → valid p ≡ true → (p ≡ n → ⊥) → Sole m.book n a (suc len) → mem_of (poke m a b (frame_of m.book n (page_down a))) p x ≡ mem_of m p x
  poke-other p len v ne sole =
      poke-else p (λ k e f z. never k e f) (λ k e f. absurd (never k e f))
    where
      never : (k : ℕ) → frame_of m.book n (page_down a) ≡ Some k → frame_of m.book p (page_down x) ≡ Some k → ⊥
      never k e f = (frame_found m.book p (page_down x) k f).1.used (sole a k (omega arith) (omega arith) e p v ne)

-- ---- bytes

pokes-length : (m : Store) (n a : ℕ) (bs : List ℕ) → length (pokes m n a bs).frames ≡ length m.frames
unfolding pokes
pokes-length m n a [] = refl
pokes-length m n a (b ∷ bs) = pokes-length (poke m a b (frame_of m.book n (page_down a))) n (a + 1) bs ∙ poke-frames m a b (frame_of m.book n (page_down a))

pub pokes-append : (m : Store) (n a : ℕ) (bs cs : List ℕ) → pokes m n a (bs ++ cs) ≡ pokes (pokes m n a bs) n (a + length bs) cs
unfolding pokes
pokes-append m n a [] cs = ap (λ (x : ℕ). pokes m n x cs) (sym (add-zero a))
pokes-append m n a (b ∷ bs) cs =
    let e : a + 1 + length bs ≡ a + suc (length bs) = omega arith in
    pokes-append (poke m a b (frame_of m.book n (page_down a))) n (a + 1) bs cs
    ∙ ap (λ (x : ℕ). pokes (pokes (poke m a b (frame_of m.book n (page_down a))) n (a + 1) bs) n x cs) e

poke-fits : (m : Store) (a b : ℕ) (o : Option ℕ) → Fits m → Fits (poke m a b o)
poke-fits m a b o fits = fits-same (poke m a b o) m (poke-frames m a b o) (ap length (poke-book m a b o)) fits

pub sized-pokes : (m : Store) (n a : ℕ) (bs : List ℕ) → sized (pokes m n a bs) ≡ sized m
sized-pokes m n a bs = sized_same (pokes m n a bs) m (pokes-length m n a bs) (ap length (pokes-book m n a bs))

-- another process sees what it saw, where the frames written to are no other's
mem-pokes-else : (m : Store) (n a : ℕ) (bs : List ℕ) → Fits m → (p : ℕ) → valid p ≡ true → (p ≡ n → ⊥) → Sole m.book n a (length bs) → (x : ℕ) → mem_of (pokes m n a bs) p x ≡ mem_of m p x
unfolding pokes
mem-pokes-else m n a [] fits p v ne sole x = refl
mem-pokes-else m n a (b ∷ bs) fits p v ne sole x =
    mem-pokes-else (poke m a b (frame_of m.book n (page_down a))) n (a + 1) bs (poke-fits m a b (frame_of m.book n (page_down a)) fits) p v ne
    (rw (poke-book m a b (frame_of m.book n (page_down a))) (λ y k l u. sole y k (omega arith) (omega arith))) x
    ∙ poke-other m n a b x fits p (length bs) v ne sole

pub mem-pokes-other : (m : Store) (n a : ℕ) (bs : List ℕ) → Fits m → (p : ℕ) → valid p ≡ true → (p ≡ n → ⊥) → Sole m.book n a (length bs) → mem_of (pokes m n a bs) p ≡ mem_of m p
mem-pokes-other m n a bs fits p v ne sole = λ i x. mem-pokes-else m n a bs fits p v ne sole x i

-- what is mapped from a up to, but not including, a + len is data
abbrev pub DataAt : Mem → ℕ → ℕ → Type 0
DataAt mem a len = (x q : ℕ) → a ≤ x → x < a + len → history.perm_in (mem x) ≡ Some q → q ≡ 3

-- a data page's frame is no other's
pub sole-data : {setup : Setup} (m : Store) (n a len : ℕ) → Mappings setup m.book → valid n ≡ true → DataAt (mem_of m n) a len → Sole m.book n a len
sole-data m n a len h v is-data x k l u e q w ne =
    let f = frame_found m.book n (page_down x) k e in
    let three : perm_of (mapping m.book k n) ≡ 3 = is-data x (perm_of (mapping m.book k n)) l u (ap (λ (o : Option ℕ). history.perm_in (cell_in m n x o)) e) in
    split (eqb (mapping m.book k q) 0)
    (λ z. eqb-true _ _ z)
    (λ z. absurd ((h.beside k n q f.0 v w (λ y. ne (sym y)) f.1.used (eqb-false _ _ z)).no-data three))

-- a range that may be written is data
pub data-range : (setup : Setup) (m : Store) (n a len : ℕ) → Writable setup (mem_of m n) a len → DataAt (mem_of m n) a len
data-range setup m n a len ok x q l u e = go (mem_of m n x) (ok x l u).1 e
  where
    go : (c : Option Cell) → cell_ok true c ≡ true → history.perm_in c ≡ Some q → q ≡ 3
    go None t e = absurd (let w : ◌≡◌ {A = ℕ} 0 1 = cc in omega arith)
    go (Some c) t e = let z : c.perm ≡ q = cc in sym z ∙ eqb-true _ _ t

-- the process itself sees the bytes where they were written, and elsewhere what it saw
mem-pokes-at : (m : Store) (n a : ℕ) (bs : List ℕ) → Fits m → (x : ℕ) → mem_of (pokes m n a bs) n x ≡ write a bs (mem_of m n) x
unfolding pokes
mem-pokes-at m n a [] fits x = sym (rw (within-not a (a + 0) x (λ l h. omega arith)))
mem-pokes-at m n a (b ∷ bs) fits x =
    mem-pokes-at t n (a + 1) bs (poke-fits m a b (frame_of m.book n (page_down a)) fits) x ∙ split (eqb x a) (λ q. here (eqb-true x a q)) (λ q. there (eqb-false x a q))
  where
    t : Store
    t = poke m a b (frame_of m.book n (page_down a))

    here : x ≡ a → write (a + 1) bs (mem_of t n) x ≡ write a (b ∷ bs) (mem_of m n) x
    here e =
        let z : x - a ≡ 0 = omega arith in
        rw (within-not (a + 1) (a + 1 + length bs) x (λ l h. omega arith), within-test a (a + suc (length bs)) x (omega arith) (omega arith), z)
        (poke-here m n a b x fits e)

    there : (x ≡ a → ⊥) → write (a + 1) bs (mem_of t n) x ≡ write a (b ∷ bs) (mem_of m n) x
    there ne =
        let same : mem_of t n x ≡ mem_of m n x = poke-own m n a b x fits ne in
        split (within a (a + suc (length bs)) x)
        (λ q.
        let r = within-means a (a + suc (length bs)) x q in
        let z : x - a ≡ suc (x - (a + 1)) = omega arith in
        rw (q, within-test (a + 1) (a + 1 + length bs) x (omega arith) (omega arith), z) (ap (rewrite (get_or bs (x - (a + 1)) 0)) same))
        (λ q. rw (q, within-not (a + 1) (a + 1 + length bs) x (λ l h. clash _ (within-test a (a + suc (length bs)) x (omega arith) (omega arith)) q)) same)

pub mem-pokes : (m : Store) (n a : ℕ) (bs : List ℕ) → Fits m → mem_of (pokes m n a bs) n ≡ write a bs (mem_of m n)
mem-pokes m n a bs fits = λ i x. mem-pokes-at m n a bs fits x i

-- ---- bytes within one page

-- stored one after the other
pokes-sets : (m : Store) (n a : ℕ) (bs : List ℕ) (k : ℕ) → frame_of m.book n (page_down a) ≡ Some k → a % 4096 + length bs ≤ 4096
    → pokes m n a bs ≡ record { frames = sets m.frames (4096 * k + a % 4096) bs; book = m.book }
unfolding pokes
pokes-sets m n a [] k e h = refl
pokes-sets m n a (b ∷ bs) k e h = rw e (go bs (λ g l. pokes-sets (poke m a b (Some k)) n (a + 1) bs k g l) h)
  where
    at : ℕ
    at = 4096 * k + a % 4096

    go : (cs : List ℕ) → (frame_of m.book n (page_down (a + 1)) ≡ Some k → (a + 1) % 4096 + length cs ≤ 4096
        → pokes (poke m a b (Some k)) n (a + 1) cs ≡ record { frames = sets (set m.frames at b) (4096 * k + (a + 1) % 4096) cs; book = m.book })
        → a % 4096 + suc (length cs) ≤ 4096 → pokes (poke m a b (Some k)) n (a + 1) cs ≡ record { frames = sets (set m.frames at b) (suc at) cs; book = m.book }
    go [] more l = refl
    go (c ∷ cs) more l =
        let q : page_down (a + 1) ≡ page_down a = omega arith in
        let z : 4096 * k + (a + 1) % 4096 ≡ suc at = omega arith in
        more (rw q e) (omega arith) ∙ ap (λ (i : ℕ). record { frames = sets (set m.frames at b) i (c ∷ cs); book = m.book }) z

-- bytes within one page are put into its frame at once
pub pokes-page : (m : Store) (n a : ℕ) (bs : List ℕ) (k : ℕ) → length m.frames ≡ 4096 * frame_count m.book → frame_of m.book n (page_down a) ≡ Some k → a % 4096 + length bs ≤ 4096
    → pokes m n a bs ≡ record { frames = put m.frames (4096 * k + a % 4096) bs; book = m.book }
pokes-page m n a bs k bytes e h =
    let f = frame_found m.book n (page_down a) k e in
    pokes-sets m n a bs k e h
    ∙ ap (λ (l : List ℕ). record { frames = l; book = m.book }) (sym (put-sets m.frames bs (4096 * k + a % 4096) (omega (arith, f.0, bytes))))
