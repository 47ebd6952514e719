-- Counting: places that are numbered apart are no more than the numbers; and so a process has no more pages than there are frames.
use Prim.Native.Nat.{ℕ, zero, suc, ◌+◌, ◌-◌, ◌*◌, ◌/◌, ◌%◌, ◌<◌, ◌≤◌}
use native.Mathlib.Omega.{arith}
use mathlib.Core.Path.{◌≡◌, refl, sym, ap, ◌∙◌}
use mathlib.Core.Bool.{true}
use Rattle.std.specs.Prelude.{Option, None, Some}
use mathlib.Core.List.{List}
use lib.Dec.{eqb, leb}
use lib.ListN.{length, get_or, get_or-eq_default}
use borrow.Author.Tests.{eqb-true, eqb-false, eq-eqb, ne_eqb, leb-true, leb-false}
use Rattle.spec.specs.Tests.{◌is◌, ◌⇒◌else◌}
use Rattle.spec.specs.Book.{owner_of, frame_count}
use Rattle.spec.proofs.Bools.{split, within-test}
use Rattle.sound_plan.specs.Plan.{owner, hits, nth, rank, Plan}
use Rattle.sound_plan.proofs.Ranks.{base-up, nth-at}
use Rattle.sound_plan.proofs.Within.{hit-fact}
use Rattle.sound_table.specs.Table.{place_at, place_with, FramedAll, Full, first_of, count_of}
use Rattle.sound_table.proofs.Places.{with-found, option-some}

-- f numbers what is below T apart, by numbers below N
pub numbered : (N T : ℕ) (f : ℕ → ℕ) → ((i : ℕ) → i < T → f i < N) → ((i j : ℕ) → i < T → j < T → f i ≡ f j → i ≡ j) → T ≤ N
numbered N zero f below apart = omega arith
numbered zero (suc T) f below apart = absurd (let h = below 0 (omega arith) in omega arith)
numbered (suc N) (suc T) f below apart = let h = numbered N T g g-below g-apart in omega arith
  where
    -- N's place is given to the last
    g : ℕ → ℕ
    g i = f i is N ⇒ f T else f i

    g-yes : (i : ℕ) → f i ≡ N → g i ≡ f T
    g-yes i e = rw (eq-eqb _ _ e) refl

    g-no : (i : ℕ) → (f i ≡ N → ⊥) → g i ≡ f i
    g-no i e = rw (ne_eqb _ _ e) refl

    g-below : (i : ℕ) → i < T → g i < N
    g-below i h = split (eqb (f i) N)
        (λ q.
        let e = eqb-true (f i) N q in
        let ne : (f T ≡ N → ⊥) = λ z. let x = apart i T (omega arith) (omega arith) (e ∙ sym z) in omega arith in
        rw (g-yes i e) (omega (arith, below T (omega arith))))
        (λ q. let ne = eqb-false (f i) N q in rw (g-no i ne) (omega (arith, below i (omega arith))))

    g-apart : (i j : ℕ) → i < T → j < T → g i ≡ g j → i ≡ j
    g-apart i j h k e = split (eqb (f i) N)
        (λ q. split (eqb (f j) N)
        (λ r. apart i j (omega arith) (omega arith) (eqb-true _ _ q ∙ sym (eqb-true _ _ r)))
        (λ r. let x = apart T j (omega arith) (omega arith) (sym (g-yes i (eqb-true _ _ q)) ∙ e ∙ g-no j (eqb-false _ _ r)) in absurd (omega arith)))
        (λ q. split (eqb (f j) N)
        (λ r. let x = apart i T (omega arith) (omega arith) (sym (g-no i (eqb-false _ _ q)) ∙ e ∙ g-yes j (eqb-true _ _ r)) in absurd (omega arith))
        (λ r. apart i j (omega arith) (omega arith) (sym (g-no i (eqb-false _ _ q)) ∙ e ∙ g-no j (eqb-false _ _ r))))

-- the number of a place
abbrev pub place_number : Option ℕ → ℕ
place_number None = 0
place_number (Some i) = i

-- a rank from base a on and below base a + d is of one of these d parts
find : (base : ℕ → ℕ) (a d t : ℕ) → base a ≤ t → t < base (a + d) → (k : ℕ) × (a ≤ k) × (k < a + d) × (base k ≤ t) × (t < base (k + 1))
find base a zero t l h = absurd (let e : a + 0 ≡ a = omega arith in let m : t < base a = rw e at h in omega arith)
find base a (suc d) t l h =
    split (leb (base (a + d)) t)
    (λ q. let e : a + suc d ≡ a + d + 1 = omega arith in (a + d, omega arith, omega arith, leb-true _ _ q, rw e at h))
    (λ q. let r = find base a d t l (leb-false _ _ q) in (r.0, r.1, omega (arith, r.2), r.3, r.4))

-- ---- a process's pages

module _ (tags bases : List ℕ) (plan : Plan tags bases) where
  -- a word of a page of process n has its rank among those of its pages
  pub rank-own : (w k n : ℕ) → k < 272 → hits tags bases w k ≡ true → owner k ≡ n → (first_of bases n ≤ rank tags bases w k) × (rank tags bases w k - first_of bases n < count_of bases n)
  rank-own w k n hk e o =
      let h = hit-fact tags bases w k e in
      let l : 17 * (n - 1) ≤ k = omega arith in
      let m : k + 1 ≤ 17 * n = omega arith in
      let low = base-up (λ i. get_or bases i 0) k (λ i x. plan.rising i (omega arith)) (17 * (n - 1)) l in
      let high = base-up (λ i. get_or bases i 0) (17 * n) (λ i x. plan.rising i (omega arith)) (k + 1) m in
      (omega arith, omega (arith, h.few))

-- a number that no process has, has none
pub count-zero : (bases : List ℕ) (n : ℕ) → n ≡ 0 → count_of bases n ≡ 0
count-zero bases n e = rw e (omega arith)

module _ (bases : List ℕ) (long : length bases ≡ 273) where
  pub count_none : (n : ℕ) → 16 < n → count_of bases n ≡ 0
  count_none n h = let e = get_or-eq_default bases 0 {n = 17 * n} (omega arith) in omega (arith, e)

  pub first-none : (n : ℕ) → 17 < n → first_of bases n ≡ 0
  first-none n h = get_or-eq_default bases 0 {n = 17 * (n - 1)} (omega arith)

module _ (tags bases : List ℕ) (plan : Plan tags bases) (long : length bases ≡ 273) where
  -- their ranks are below the count of all pages
  pub inside : (n : ℕ) → first_of bases n + count_of bases n ≤ get_or bases 272 0
  inside n =
      split (leb n 16)
      (λ q. let l = leb-true n 16 q in
      let a = base-up (λ i. get_or bases i 0) 272 plan.rising (17 * n) (omega arith) in
      let b = base-up (λ i. get_or bases i 0) 272 plan.rising (17 * (n - 1)) (omega arith) in
      omega arith)
      (λ q. let l = leb-false n 16 q in
      let z = count_none bases long n l in
      split (eqb n 17)
      (λ x. let e = eqb-true n 17 x in let d : 17 * (n - 1) ≡ 272 = omega arith in let s : first_of bases n ≡ get_or bases 272 0 = ap (λ (i : ℕ). get_or bases i 0) d in omega arith)
      (λ x. let ne = eqb-false n 17 x in let s = first-none bases long n (omega arith) in omega arith))

  -- they are all its own
  own-rank : (n t : ℕ) → 1 ≤ n → n ≤ 16 → t < count_of bases n → owner_of (nth tags bases (first_of bases n + t)) ≡ n
  own-rank n t lo hi h =
      let e : 17 * (n - 1) + 17 ≡ 17 * n = omega arith in
      let top : first_of bases n + t < get_or bases (17 * (n - 1) + 17) 0 = rw e (omega arith) in
      let f = find (λ i. get_or bases i 0) (17 * (n - 1)) 17 (first_of bases n + t) (omega arith) top in
      let k = f.0 in
      let hk : k < 272 = omega (arith, f.2) in
      let r = first_of bases n + t - get_or bases k 0 in
      let at : get_or bases k 0 + r ≡ first_of bases n + t = omega (arith, f.3) in
      let w = nth-at (λ i. get_or bases i 0) (λ i. get_or tags i 0) 272 plan.rising k r hk (omega (arith, f.3, f.4)) in
      ap (λ (x : ℕ). owner_of (nth tags bases x)) (sym at) ∙ ap owner_of w ∙ same (get_or tags k 0) r k n (plan.owner-is k hk) (omega (arith, f.1, f.2))
    where
      same : (g r k n : ℕ) → owner_of g ≡ owner k → owner k ≡ n → owner_of (g + 4096 * r) ≡ n
      same g r k n e o = omega arith

  module _ (b : List ℕ) (framed : FramedAll b (frame_count b)) (full : Full b tags bases) (n : ℕ) (lo : 1 ≤ n) (hi : n ≤ 16) where
    abbrev place : ℕ → ℕ
    place t = place_number (place_with b (16 * frame_count b) (nth tags bases (first_of bases n + t)))

    below : (t : ℕ) → t < count_of bases n → first_of bases n + t < get_or bases 272 0
    below t h = let x = inside n in omega arith

    -- the page of rank t stands in place n of a frame
    holds : (t : ℕ) → t < count_of bases n → (place t < 16 * frame_count b) × (place_at b (place t) ≡ nth tags bases (first_of bases n + t)) × (place t % 16 + 1 ≡ n)
    holds t h =
        let w = nth tags bases (first_of bases n + t) in
        let o = option-some (place_with b (16 * frame_count b) w) (full (first_of bases n + t) (below t h)) in
        let f = with-found b w (16 * frame_count b) o.0 o.1 in
        let e : o.0 ≡ place t = ap place_number (sym o.1) in
        let nz : place_at b o.0 ≡ 0 → ⊥ = λ z. plan.some (first_of bases n + t) (below t h) (sym f.1 ∙ z) in
        let own = (framed (o.0 / 16) (low o.0 f.0)).owner (o.0 % 16 + 1) (within-test 1 17 (o.0 % 16 + 1) (omega arith) (omega arith)) nz in
        let place-n : o.0 % 16 + 1 ≡ n = sym own ∙ ap owner_of f.1 ∙ own-rank n t lo hi h in
        let all : (o.0 < 16 * frame_count b) × (place_at b o.0 ≡ nth tags bases (first_of bases n + t)) × (o.0 % 16 + 1 ≡ n) = (f.0, f.1, place-n) in
        rw e at all
      where
        low : (i : ℕ) → i < 16 * frame_count b → i / 16 < frame_count b
        low i l = omega arith

    pub few-pages : count_of bases n ≤ frame_count b
    few-pages = numbered (frame_count b) (count_of bases n) (λ t. place t / 16)
        (λ t h. less (place t) (holds t h).0)
        (λ t u h l e.
        let x = holds t h in
        let y = holds u l in
        let p : place t ≡ place u = one (place t) (place u) n e x.2 y.2 in
        let r = plan.apart (first_of bases n + t) (first_of bases n + u) (below t h) (below u l) (sym x.1 ∙ ap (place_at b) p ∙ y.1) in
        omega arith)
      where
        less : (i : ℕ) → i < 16 * frame_count b → i / 16 < frame_count b
        less i l = omega arith

        one : (i j n : ℕ) → i / 16 ≡ j / 16 → i % 16 + 1 ≡ n → j % 16 + 1 ≡ n → i ≡ j
        one i j n e p q = omega arith

  -- the same of any number
  pub few-all : (b : List ℕ) → FramedAll b (frame_count b) → Full b tags bases → (n : ℕ) → count_of bases n ≤ frame_count b
  few-all b framed full n =
      split (eqb n 0)
      (λ q. let z = count-zero bases n (eqb-true n 0 q) in omega arith)
      (λ q. let ne = eqb-false n 0 q in
      split (leb n 16)
      (λ x. few-pages b framed full n (omega arith) (leb-true n 16 x))
      (λ x. let z = count_none bases long n (leb-false n 16 x) in omega arith))
