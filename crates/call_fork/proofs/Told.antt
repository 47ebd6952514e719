-- The parent's pages stay in their frames, which keep their bytes and don't become free, and which the lookup that the check leaves
-- tells, while pages are shared with and placed for the child.
use Prim.Native.Nat.{ℕ, zero, suc, ◌+◌, ◌*◌, ◌≤◌, ◌<◌}
use native.Mathlib.Omega.{arith}
use mathlib.Core.Path.{◌≡◌, refl, sym, ap, ◌∙◌, subst}
use mathlib.Core.Bool.{Bool, true, false}
use Rattle.std.specs.Prelude.{Option, None, Some}
use mathlib.Core.List.{List}
use lib.Dec.{eqb}
use lib.ListN.{length, drop, length-drop}
use lib.Seq.{length-take-le, get_or-take, get_or-drop, ext_get_or}
use borrow.Author.Tests.{eqb-true, eqb-false}
use Rattle.spec.specs.Tests.{◌isnt◌, ◌⇒◌else◌}
use Rattle.spec.specs.Book.{word_of, perm_of, valid, frame_count, mapping, holders, count_below, owns, frame_of}
use Rattle.spec.specs.Frames.{Store, enter, put, Page, hold, share, frame_bytes}
use Rattle.spec.specs.Sound.{Mappings}
use Rattle.spec.specs.declared.Setup.{Setup}
use Rattle.spec.proofs.Bools.{split}
use Rattle.spec.proofs.Enter.{enter-count, holders-here, holders-else}
use Rattle.spec_laws.proofs.Lists.{length-put, put-outside}
use Rattle.spec_laws.proofs.Frame.{frame_found, frame-ext}
use Rattle.spec_laws.proofs.Held.{Counted, unheld, valid-low, valid-high, mapping-other, frame-other}
use Rattle.spec_laws.proofs.Sweep.{other_place, here-count}
use Rattle.spec_laws.proofs.Share.{shares, word_for, share-count, share-frames}
use Rattle.sound.specs.declared.Lookup.{Lookup}
use Rattle.sound.specs.Table.{Ready}
use Rattle.call_fork.specs.Lent.{Held, Tells, Kept}

-- at most all numbers below c pass a test
pub count_most : (t : ℕ → Bool) (c : ℕ) → count_below t c ≤ c
count_most t zero = omega arith
count_most t (suc c) = go (t c) (count_most t c)
  where
    go : (b : Bool) → count_below t c ≤ c → (b ⇒ count_below t c + 1 else count_below t c) ≤ suc c
    go true h = omega arith
    go false h = omega arith

-- no frame has more than sixteen holders
pub holders-most : {setup : Setup} (book : List ℕ) → Mappings setup book → (k : ℕ) → k < frame_count book → holders book k ≤ 16
holders-most book h k l = omega (arith, h.counts k l, count_most (λ i. mapping book k (i + 1) isnt 0) 16)

-- ---- pages shared

-- the parent's places stay, and counts don't become less
share-stays : (m : Store) (n child : ℕ) → valid n ≡ true → valid child ≡ true → (n ≡ child → ⊥) → (k : ℕ) → mapping (share m n child).book k n ≡ mapping m.book k n
unfolding share
share-stays m n child v u ne k =
    other_place n child (λ w. perm_of w isnt 3) (word_for child) (λ c. c + 1) (valid-low n v) (valid-high n v) (valid-low child u) (valid-high child u) m.book (frame_count m.book) k n (omega arith) (valid-low n v) (valid-high n v) ne

share-holders : (m : Store) (n child : ℕ) → valid n ≡ true → valid child ≡ true → (k : ℕ) → k < frame_count m.book
    → holders (share m n child).book k ≡ (shares n m.book k ⇒ holders m.book k + 1 else holders m.book k)
unfolding share
share-holders m n child v u k l =
    here-count n child (λ w. perm_of w isnt 3) (word_for child) (λ c. c + 1) (valid-low n v) (valid-high n v) (valid-low child u) (valid-high child u) m.book (frame_count m.book) k (omega arith) l

pub held_share : (m t : Store) (n child : ℕ) → valid n ≡ true → valid child ≡ true → (n ≡ child → ⊥) → Counted m.book → t ≡ share m n child → Held t.book n × Kept m t n
held_share m t n child v u ne counts e =
    subst (λ (x : Store). Held x.book n × Kept m x n) (sym e)
    (held, record { same = same; bytes = λ page. ap (frame_bytes (share m n child).frames) (same page) ∙ ap (λ (f : List ℕ). frame_bytes f (frame_of m.book n page)) (share-frames m n child) })
  where
    many : frame_count (share m n child).book ≡ frame_count m.book
    many = share-count m n child v u (λ q. ne (sym q))

    stays : (k : ℕ) → mapping (share m n child).book k n ≡ mapping m.book k n
    stays = share-stays m n child v u ne

    same : (page : ℕ) → frame_of (share m n child).book n page ≡ frame_of m.book n page
    same page = frame-ext m.book (share m n child).book n page many (λ k l. ap (owns n page) (stays k))

    more : (b : Bool) (x : ℕ) → (b ⇒ x + 1 else x) ≡ 0 → x ≡ 0
    more true x z = omega arith
    more false x z = z

    held : Held (share m n child).book n
    held k l nz z =
        let l' : k < frame_count m.book = omega (arith, many) in
        nz (stays k ∙ unheld m.book counts k l' (more (shares n m.book k) (holders m.book k) (sym (share-holders m n child v u k l') ∙ z)) n (valid-low n v) (valid-high n v))

pub tells-share : (m t : Store) (l : Lookup) (n child : ℕ) → valid n ≡ true → valid child ≡ true → (n ≡ child → ⊥) → Ready m.book n l → t ≡ share m n child
    → Tells t.book l n × Kept m t n
tells-share m t l n child v u ne r e =
    let h = held_share m t n child v u ne r.mappings.counts e in
    (record { checked = m.book; ready = r; same = h.1.same; held = h.0 }, h.1)

-- ---- a page placed for the child

-- leaves the parent's pages in their frames
pub held-turn : (t u : Store) (parent child k : ℕ) (p : Page) → k < frame_count t.book → 1 ≤ parent → parent ≤ 16 → 1 ≤ child → child ≤ 16 → (parent ≡ child → ⊥)
    → u ≡ hold t child p (Some k) → Held t.book parent → Held u.book parent
held-turn t u parent child k p low a b lo hi ne e h = subst (λ (x : Store). Held x.book parent) (sym e) held
  where
    w : ℕ
    w = word_of p.page child p.perm

    held : Held (enter t.book k child (word_of p.page child p.perm) 1) parent
    held j l nz z =
        let l' : j < frame_count t.book = omega (arith, enter-count t.book k child w 1) in
        split (eqb j k)
        (λ q. let e = eqb-true j k q in let o = holders-here t.book k child w 1 low hi in let y = ap (holders (enter t.book k child w 1)) e in omega (arith, o, y, z))
        (λ q. h j l' (λ y. nz (mapping-other t.book k child w 1 low lo hi j parent a b ne ∙ y)) (sym (holders-else t.book k child w 1 low hi j (eqb-false j k q)) ∙ z))

pub tells-turn : (t u : Store) (l : Lookup) (parent child k : ℕ) (p : Page) → k < frame_count t.book → 1 ≤ parent → parent ≤ 16 → 1 ≤ child → child ≤ 16 → (parent ≡ child → ⊥)
    → u ≡ hold t child p (Some k) → Tells t.book l parent → Tells u.book l parent
tells-turn t u l parent child k p low a b lo hi ne e h = record {
  checked = h.checked;
  ready = h.ready;
  same = λ page. ap (λ (x : Store). frame_of x.book parent page) e ∙ frame-other t.book k child (word_of p.page child p.perm) 1 low lo hi parent page a b ne ∙ h.same page;
  held = held-turn t u parent child k p low a b lo hi ne e h.held;
}

-- bytes put into one frame are not of another
frame-long : (d : List ℕ) (j : ℕ) → 4096 * j + 4096 ≤ length d → length (frame_bytes d (Some j)) ≡ 4096
frame-long d j h = length-take-le 4096 (drop (4096 * j) d) (omega (arith, length-drop (4096 * j) d))

pub frame-away : (d s : List ℕ) (j k : ℕ) → 4096 * j + 4096 ≤ length d → 4096 * k + 4096 ≤ length d → length s ≡ 4096 → (j ≡ k → ⊥) → frame_bytes (put d (4096 * k) s) (Some j) ≡ frame_bytes d (Some j)
frame-away d s j k lj lk ls ne =
    let lp : length (put d (4096 * k) s) ≡ length d = length-put d s (4096 * k) (omega arith) in
    let x = frame-long (put d (4096 * k) s) j (omega arith) in
    let y = frame-long d j lj in
    ext_get_or 0 _ _ (x ∙ sym y) (λ i h.
    let l : i < 4096 = omega (arith, x) in
    get_or-take 4096 (drop (4096 * j) (put d (4096 * k) s)) i 0 l ∙ get_or-drop (4096 * j) (put d (4096 * k) s) i 0
    ∙ put-outside d s (4096 * k) (4096 * j + i) (omega arith) (λ a b. ne (omega arith))
    ∙ sym (get_or-take 4096 (drop (4096 * j) d) i 0 l ∙ get_or-drop (4096 * j) d i 0))

-- and leaves the bytes of the parent's pages
pub kept-turn : (m t u : Store) (parent child k j : ℕ) (p : Page) → length t.frames ≡ 4096 * frame_count t.book → k < frame_count t.book → holders t.book k ≡ 0
    → j < frame_count t.book → p.bytes ≡ frame_bytes t.frames (Some j) → 1 ≤ parent → parent ≤ 16 → 1 ≤ child → child ≤ 16 → (parent ≡ child → ⊥)
    → u ≡ hold t child p (Some k) → Held t.book parent → Kept m t parent → Kept m u parent
kept-turn m t u parent child k j p fits low free there is a b lo hi ne e h c =
    subst (λ (x : Store). Kept m x parent) (sym e) (record { same = λ page. same page ∙ c.same page; bytes = λ page. ap (frame_bytes (put t.frames (4096 * k) p.bytes)) (same page) ∙ go page (frame_of t.book parent page) refl ∙ c.bytes page })
  where
    same : (page : ℕ) → frame_of (enter t.book k child (word_of p.page child p.perm) 1) parent page ≡ frame_of t.book parent page
    same page = frame-other t.book k child (word_of p.page child p.perm) 1 low lo hi parent page a b ne

    go : (page : ℕ) (o : Option ℕ) → frame_of t.book parent page ≡ o → frame_bytes (put t.frames (4096 * k) p.bytes) o ≡ frame_bytes t.frames o
    go page None f = refl
    go page (Some i) f =
        let g = frame_found t.book parent page i f in
        frame-away t.frames p.bytes i k (omega (arith, g.0)) (omega arith) (ap length is ∙ frame-long t.frames j (omega arith))
        (λ q. h i g.0 g.1.used (ap (holders t.book) q ∙ free))

pub kept_self : (m : Store) (n : ℕ) → Kept m m n
kept_self m n = record { same = λ page. refl; bytes = λ page. refl }

pub kept-both : (m t u : Store) (n : ℕ) → Kept m t n → Kept t u n → Kept m u n
kept-both m t u n a b = record { same = λ page. b.same page ∙ a.same page; bytes = λ page. b.bytes page ∙ a.bytes page }

-- what a look into the lookup answers is the frame that the page has now
pub told_is : (book : List ℕ) (l : Lookup) (n page : ℕ) (r : Option ℕ) → Tells book l n → ((b : List ℕ) → Ready b n l → r ≡ frame_of b n page) → r ≡ frame_of book n page
told_is book l n page r h e = e h.checked h.ready ∙ sym (h.same page)
