-- The check decides soundness: what the pass finds tells that the book is sound, and a sound book passes.
use Prim.Native.Nat.{ℕ, ◌+◌, ◌-◌, ◌*◌, ◌/◌, ◌%◌, ◌<◌, ◌≤◌}
use native.Mathlib.Omega.{arith}
use mathlib.Core.Path.{◌≡◌, refl, sym, ap, subst, ◌∙◌}
use mathlib.Core.Bool.{Bool, true}
use Rattle.std.specs.Prelude.{Option, None, Some}
use mathlib.Core.List.{List}
use lib.ListN.{length, get_or}
use Rattle.spec.specs.Tests.{all}
use Rattle.spec.specs.Book.{word_of, page_of, owner_of, perm_of, valid, frame_count, mapping, frame_of, perm_in, book_perm, zero_segment, zero_proc, perm_at, proc_at, pieces_of}
use Rattle.spec.specs.Numbers.{SetupOk}
use Rattle.spec.specs.Sound.{sound_book, Word, Mappings, Sound}
use Rattle.spec.specs.declared.Setup.{Setup}
use Rattle.spec.specs.declared.Proc.{Proc}
use Rattle.spec.specs.declared.Procs.{Procs}
use Rattle.spec.proofs.Bools.{split, same_test, all-at, all-test, within-test}
use Rattle.spec.proofs.Words.{unpack, repack, used-word}
use Rattle.spec_laws.proofs.Record.{Whole}
use Rattle.spec_laws.proofs.Lists.{by_order}
use Rattle.spec_laws.proofs.Frame.{frame_found, frame-none, frame-perm, once-means, frame_is}
use Rattle.spec_laws.proofs.Owned.{valid-means, valid-test}
use Rattle.spec_laws.proofs.Facts.{sound-facts, facts-sound, sound-between}
use Rattle.sound_records.specs.Records.{passes}
use Rattle.sound_plan.specs.Plan.{hits, rank, nth, LaidAll}
use Rattle.sound_table.specs.Table.{place_at, place_with, Planned, FramedAll, Full, Marked}
use Rattle.sound_plan.proofs.Within.{rank_below, rank-word}
use Rattle.sound.proofs.Entries.{place_of}
use Rattle.sound_table.proofs.Places.{with-found, with-missing, option-some}
use Rattle.sound_table.proofs.Counting.{numbered, place_number}
use Rattle.sound_plan.proofs.Parts.{each-made, parts-of, place-gives}
use Rattle.sound_plan.proofs.Passing.{Mapped, shape-pass, pass_shape}
use Rattle.sound.proofs.Planning.{Good, Made, base-total, rank-hits, rank-good, rank-gives, gives-rank, nth-apart, plan}

-- ---- ranks whose words stand in places are no more than the places

pub few-matched : (b : List ℕ) (word : ℕ → ℕ) (N T : ℕ) → ((t u : ℕ) → t < T → u < T → word t ≡ word u → t ≡ u) → ((t : ℕ) → t < T → place_with b N (word t) ≡ None → ⊥) → T ≤ N
few-matched b word N T apart full = numbered N T place (λ t h. (holds t h).0) (λ t u h l e. apart t u h l (sym (holds t h).1 ∙ ap (place_at b) e ∙ (holds u l).1))
  where
    place : ℕ → ℕ
    place t = place_number (place_with b N (word t))

    holds : (t : ℕ) → t < T → (place t < N) × (place_at b (place t) ≡ word t)
    holds t h =
        let o = option-some (place_with b N (word t)) (full t h) in
        let f = with-found b (word t) N o.0 o.1 in
        let e : o.0 ≡ place t = ap place_number (sym o.1) in
        rw e at f

-- ---- records that a sound book goes with pass

pub records-of : {setup : Setup} (b : List ℕ) (ps : Procs) → Whole ps → Sound setup b ps → all (passes setup) ps.all ≡ true
records-of {setup} b ps w s = all-test (passes setup) zero_proc ps.all (λ k h. let e : k + 1 - 1 ≡ k = omega arith in rw e at (each (k + 1) (valid-test (k + 1) (omega arith) (omega (arith, w.records)))))
  where
    each : (n : ℕ) → valid n ≡ true → passes setup (proc_at ps n) ≡ true
    each n v = shape-pass setup p (s.shape n v) (λ l. each-made Mapped p.segments mapped)
      where
        p : Proc
        p = proc_at ps n

        mapped : (j : ℕ) → j < length p.segments → Mapped (get_or p.segments j zero_segment)
        mapped j h some-page =
            let g = get_or p.segments j zero_segment in
            let hj : j < 16 = omega (arith, (w.each (n - 1)).segments) in
            sound-between setup b ps w s n g.range.start g.perm v
            (place-gives setup p (w.each (n - 1)) (parts-of setup s.accepted p (w.each (n - 1)) (s.shape n v)) j g.range.start hj (within-test g.range.start g.range.end g.range.start (omega arith) some-page))

-- ---- against a plan that is laid

module _ {setup : Setup} {ps : Procs} {tags bases : List ℕ} {total : ℕ} (m : Made setup ps tags bases total) (b : List ℕ) where
  abbrev N : ℕ
  N = 16 * frame_count b

  abbrev Ranked : ℕ → Type 0
  Ranked w = (t : ℕ) × (t < get_or bases 272 0) × (nth tags bases t ≡ w)

  -- what the pass finds tells that the book is sound
  module _ (most : total ≤ 16384) (planned : Planned b tags bases (16 * frame_count b)) (framed : FramedAll b (frame_count b)) (full : Full b tags bases) where
    -- of a mapping
    index : (k n : ℕ) → k < frame_count b → valid n ≡ true → 16 * k + (n - 1) < 16 * frame_count b
    index k n l v = omega (arith, (valid-means n v).0, (valid-means n v).1)

    is-place : (k n : ℕ) → valid n ≡ true → place_at b (16 * k + (n - 1)) ≡ mapping b k n
    is-place k n v = place_of b k n (valid-means n v).0 (valid-means n v).1

    ranked : (k n : ℕ) → k < frame_count b → valid n ≡ true → ¬ (mapping b k n ≡ 0) → Ranked (mapping b k n)
    ranked k n l v nz =
        let e = is-place k n v in
        let f = planned.fits (16 * k + (n - 1)) (index k n l v) (λ z. nz (sym e ∙ z)) in
        let h : hits tags bases (mapping b k n) f.0 ≡ true = subst (λ (x : ℕ). hits tags bases x f.0 ≡ true) e f.2 in
        let p = plan m most in
        (rank tags bases (mapping b k n) f.0, rank_below tags bases p (mapping b k n) f.0 f.1 h, rank-word tags bases p (mapping b k n) f.0 f.1 h)

    own : (k n : ℕ) → k < frame_count b → valid n ≡ true → ¬ (mapping b k n ≡ 0) → owner_of (mapping b k n) ≡ n
    own k n l v nz = (framed k l).owner n v nz

    good : (k n : ℕ) → k < frame_count b → valid n ≡ true → ¬ (mapping b k n ≡ 0) → Word setup n (mapping b k n)
    good k n l v nz =
        let r = ranked k n l v nz in
        let g = subst (Good setup) r.2 (rank-good m r.0 r.1) in
        record { owner = own k n l v nz; perm = g.perm; page = g.page }

    gives : (k n : ℕ) → k < frame_count b → valid n ≡ true → ¬ (mapping b k n ≡ 0) → perm_at (pieces_of (proc_at ps n)) (page_of (mapping b k n)) ≡ Some (perm_of (mapping b k n))
    gives k n l v nz =
        let r = ranked k n l v nz in
        let g = subst (λ (w : ℕ). perm_at (pieces_of (proc_at ps (owner_of w))) (page_of w) ≡ Some (perm_of w)) r.2 (rank-gives m r.0 r.1) in
        subst (λ (o : ℕ). perm_at (pieces_of (proc_at ps o)) (page_of (mapping b k n)) ≡ Some (perm_of (mapping b k n))) (own k n l v nz) g

    -- no word stands twice
    same_index : (i j : ℕ) → i < 16 * frame_count b → j < 16 * frame_count b → (place_at b i ≡ 0 → ⊥) → place_at b i ≡ place_at b j → i ≡ j
    same_index i j li lj u e =
        by_order i j
        (λ l. absurd (planned.once i j l lj u e))
        (λ g. by_order j i (λ l. absurd (planned.once j i l li (λ z. u (e ∙ z)) (sym e))) (λ h. omega arith))

    -- an owner's page has one permission, so one word
    once : (n j k : ℕ) → valid n ≡ true → j < frame_count b → k < frame_count b → ¬ (mapping b j n ≡ 0) → ¬ (mapping b k n ≡ 0) → page_of (mapping b j n) ≡ page_of (mapping b k n) → j ≡ k
    once n j k v lj lk uj uk p =
        let q : Some (perm_of (mapping b j n)) ≡ Some (perm_of (mapping b k n)) = sym (gives j n lj v uj) ∙ ap (perm_at (pieces_of (proc_at ps n))) p ∙ gives k n lk v uk in
        let r : perm_of (mapping b j n) ≡ perm_of (mapping b k n) = cc in
        let w : mapping b j n ≡ mapping b k n = one_word (mapping b j n) (mapping b k n) (own j n lj v uj ∙ sym (own k n lk v uk)) p r in
        let e = same_index (16 * j + (n - 1)) (16 * k + (n - 1)) (index j n lj v) (index k n lk v) (λ z. uj (sym (is-place j n v) ∙ z)) (is-place j n v ∙ w ∙ sym (is-place k n v)) in
        omega (arith, e)
      where
        one_word : (x y : ℕ) → owner_of x ≡ owner_of y → page_of x ≡ page_of y → perm_of x ≡ perm_of y → x ≡ y
        one_word x y o p q = repack x ∙ ap (λ (a : ℕ). word_of a (owner_of x) (perm_of x)) p ∙ ap (λ (a : ℕ). word_of (page_of y) a (perm_of x)) o ∙ ap (word_of (page_of y) (owner_of y)) q ∙ sym (repack y)

    mappings : Mappings setup b
    mappings = record { words = good; once = once; beside = λ k p q l. (framed k l).beside p q; counts = λ k l. (framed k l).count }

    exact : (n page : ℕ) → valid n ≡ true → page % 4096 ≡ 0 → book_perm b n page ≡ perm_at (pieces_of (proc_at ps n)) page
    exact n page v al = go (frame_of b n page) refl (perm_at (pieces_of (proc_at ps n)) page) refl
      where
        go : (f : Option ℕ) → frame_of b n page ≡ f → (o : Option ℕ) → perm_at (pieces_of (proc_at ps n)) page ≡ o → book_perm b n page ≡ perm_at (pieces_of (proc_at ps n)) page
        go None e None h = ap (perm_in b n) e ∙ sym h
        go None e (Some q) h =
            let t = gives-rank m n page q v al h in
            let o = option-some (place_with b (16 * frame_count b) (nth tags bases t.0)) (full t.0 t.1) in
            let f = with-found b (nth tags bases t.0) (16 * frame_count b) o.0 o.1 in
            let w : place_at b o.0 ≡ word_of page n q = f.1 ∙ t.2 in
            let u = unpack page n q al (omega (arith, (valid-means n v).1)) (omega (arith, t.3)) in
            let l : o.0 / 16 < frame_count b = omega (arith, f.0) in
            let nz : place_at b o.0 ≡ 0 → ⊥ = λ z. used-word page n q (valid-means n v).0 (sym w ∙ z) in
            let at : o.0 % 16 + 1 ≡ n = sym (own (o.0 / 16) (o.0 % 16 + 1) l (valid-test (o.0 % 16 + 1) (omega arith) (omega arith)) nz) ∙ ap owner_of w ∙ u.1 in
            let w' : mapping b (o.0 / 16) n ≡ word_of page n q = ap (mapping b (o.0 / 16)) (sym at) ∙ w in
            absurd (frame-none b n page e (o.0 / 16) l (record { used = λ z. used-word page n q (valid-means n v).0 (sym w' ∙ z); owner = ap owner_of w' ∙ u.1; page = ap page_of w' ∙ u.0 }))
        go (Some k) e o h =
            let f = frame_found b n page k e in
            ap (perm_in b n) e ∙ sym (gives k n f.0 v f.1.used) ∙ ap (perm_at (pieces_of (proc_at ps n))) f.1.page

    pub tells : Sound setup b ps
    tells = record { accepted = m.accepted; mappings = mappings; shape = λ n v. pass_shape setup (proc_at ps n) (m.whole.each (n - 1)) (m.ok n v); exact = exact }

  -- and a sound book passes
  module _ (s : Sound setup b ps) where
    h : Mappings setup b
    h = s.mappings

    num : (i : ℕ) → valid (i % 16 + 1) ≡ true
    num i = valid-test (i % 16 + 1) (omega arith) (omega arith)

    low : (i : ℕ) → i < 16 * frame_count b → i / 16 < frame_count b
    low i l = omega arith

    word-rank : (i : ℕ) → i < 16 * frame_count b → (place_at b i ≡ 0 → ⊥) → Ranked (place_at b i)
    word-rank i l nz = go (i / 16) (i % 16 + 1) (low i l) (num i) nz
      where
        go : (k n : ℕ) → k < frame_count b → valid n ≡ true → ¬ (mapping b k n ≡ 0) → Ranked (mapping b k n)
        go k n l v nz =
            let w : ℕ = mapping b k n in
            let g = h.words k n l v nz in
            let e : perm_at (pieces_of (proc_at ps n)) (page_of w) ≡ Some (perm_of w) = sym (s.exact n (page_of w) v (omega arith)) ∙ ap (perm_in b n) (frame_is b n (page_of w) k (once-means b h n v) l (record { used = nz; owner = g.owner; page = refl })) in
            let r = gives-rank m n (page_of w) (perm_of w) v (omega arith) e in
            (r.0, r.1, r.2 ∙ ap (λ (o : ℕ). word_of (page_of w) o (perm_of w)) (sym g.owner) ∙ sym (repack w))

    one_place : (i j : ℕ) → i < 16 * frame_count b → j < 16 * frame_count b → (place_at b i ≡ 0 → ⊥) → place_at b i ≡ place_at b j → i ≡ j
    one_place i j li lj u e =
        let uj : place_at b j ≡ 0 → ⊥ = λ z. u (e ∙ z) in
        let n : i % 16 + 1 ≡ j % 16 + 1 = sym (h.words (i / 16) (i % 16 + 1) (low i li) (num i) u).owner ∙ ap owner_of e ∙ (h.words (j / 16) (j % 16 + 1) (low j lj) (num j) uj).owner in
        let ej : mapping b (j / 16) (i % 16 + 1) ≡ place_at b j = ap (mapping b (j / 16)) n in
        let k : i / 16 ≡ j / 16 = h.once (i % 16 + 1) (i / 16) (j / 16) (num i) (low i li) (low j lj) u (λ z. uj (sym ej ∙ z)) (ap page_of (e ∙ sym ej)) in
        both-same i j k n
      where
        both-same : (i j : ℕ) → i / 16 ≡ j / 16 → i % 16 + 1 ≡ j % 16 + 1 → i ≡ j
        both-same i j p q = omega arith

    pub planned-of : Planned b tags bases (16 * frame_count b)
    planned-of = record {
      fits = λ i l u.
          let r = word-rank i l u in
          let k = rank-hits m r.0 r.1 in
          (k.0, k.1, subst (λ (x : ℕ). hits tags bases x k.0 ≡ true) r.2 k.2);
      once = λ i j l lj u e. let x = one_place i j (omega arith) lj u e in omega arith;
    }

    pub framed_of : FramedAll b (frame_count b)
    framed_of k l = record { owner = λ n v nz. (h.words k n l v nz).owner; beside = λ p q. h.beside k p q l; count = h.counts k l }

    pub full-of : Full b tags bases
    full-of t ht z =
        let w : ℕ = nth tags bases t in
        let g = rank-good m t ht in
        let n : ℕ = owner_of w in
        let v = valid-test n g.owner.0 g.owner.1 in
        let e : book_perm b n (page_of w) ≡ Some (perm_of w) = s.exact n (page_of w) v (omega arith) ∙ rank-gives m t ht in
        let k = frame-perm b n (page_of w) (perm_of w) e in
        let f = frame_found b n (page_of w) k.0 k.1 in
        let q : Some (perm_of (mapping b k.0 n)) ≡ Some (perm_of w) = sym (ap (perm_in b n) k.1) ∙ e in
        let r : perm_of (mapping b k.0 n) ≡ perm_of w = cc in
        let same : mapping b k.0 n ≡ w = repack (mapping b k.0 n) ∙ ap (λ (a : ℕ). word_of a (owner_of (mapping b k.0 n)) (perm_of (mapping b k.0 n))) f.1.page ∙ ap (λ (a : ℕ). word_of (page_of w) a (perm_of (mapping b k.0 n))) f.1.owner ∙ ap (word_of (page_of w) n) r ∙ sym (repack w) in
        with-missing b w (16 * frame_count b) (16 * k.0 + (n - 1)) (fewer k.0 n (frame_count b) f.0 g.owner.0 g.owner.1) (place_of b k.0 n g.owner.0 g.owner.1 ∙ same) z
      where
        fewer : (k n c : ℕ) → k < c → 1 ≤ n → n ≤ 16 → 16 * k + (n - 1) < 16 * c
        fewer k n c l a d = omega arith

    -- there are no more pages than places
    pub total_of : total ≤ 16 * frame_count b
    total_of = rw (base-total m) at (few-matched b (nth tags bases) (16 * frame_count b) (get_or bases 272 0) (nth-apart m) full-of)

-- ---- what the pass finds

pub made : (setup : Setup) → SetupOk setup → (ps : Procs) → Whole ps → all (passes setup) ps.all ≡ true → (tags bases : List ℕ) (total : ℕ) → LaidAll ps tags bases total → Made setup ps tags bases total
made setup ok ps w e tags bases total laid = record {
  accepted = ok;
  whole = w;
  ok = λ n v. all-at (passes setup) zero_proc ps.all e (n - 1) (omega (arith, w.records, (valid-means n v).0, (valid-means n v).1));
  laid = laid;
}

-- it decides
pub decided : {setup : Setup} (ps : Procs) (tags bases : List ℕ) (total : ℕ) → Made setup ps tags bases total → total ≤ 16384
    → (b : List ℕ) (number : ℕ) (table : List ℕ) (r : Bool) → Marked b tags bases number table r → (r ≡ true → Sound setup b ps) × (Sound setup b ps → r ≡ true)
decided ps tags bases total m most b number table r found =
    (λ x. tells m b most (found.planned x) (found.framed x) (found.full x), λ s. split r (λ q. q) (λ q. absurd (found.no q (planned-of m b s) (framed_of m b s) (full-of m b s))))

-- an answer that is yes exactly of a sound book is the specification's
pub sound-exact : (setup : Setup) → SetupOk setup → (b : List ℕ) (ps : Procs) → Whole ps → (r : Bool) → (r ≡ true → Sound setup b ps) × (Sound setup b ps → r ≡ true) → r ≡ sound_book setup b ps
sound-exact setup ok b ps w r h = same_test r (sound_book setup b ps) (λ e. facts-sound setup b ps w (h.0 e)) (λ e. h.1 (sound-facts setup ok b ps w e))
