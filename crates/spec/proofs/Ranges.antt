-- What the check of a range names: each case of the rule by facts, what a passed range says of its bytes, and the rule as a reader would
-- ask for it: the lowest byte of the range that can't be accessed.
use Rattle.std.specs.Prelude.{Ok, Err}
use Prim.Native.Nat.{ℕ, zero, suc, ◌+◌, ◌-◌, ◌≤◌, ◌<◌, min}
use native.Mathlib.Omega.{arith}
use native.Mathlib.Nat.{not-suc-le-zero, add-zero}
use mathlib.Core.Path.{◌≡◌, refl, sym, ap, subst, ◌∙◌}
use mathlib.Core.Bool.{Bool, true, false}
use lib.Dec.{ltb}
use borrow.Author.Tests.{ltb-true, ltb-false, lt-ltb}
use Rattle.spec.proofs.Bools.{split, clash, not-above}
use Rattle.spec.specs.Tests.{◌above◌, ◌⇒◌else◌}
use Rattle.spec.specs.Frames.{Mem}
use Rattle.spec.specs.Access.{cell_ok, ◌names◌else◌, lowest_bad, access, user_range_ok, Reached, Lowest, Passed, AccessMeans, Checked}
use Rattle.spec.specs.declared.Setup.{Setup}

-- ---- the lowest of k bytes

data Low (mem : Mem) (w : Bool) (a k : ℕ) : Checked → Type 0 where
  clear : ((i : ℕ) → i < k → cell_ok w (mem (a + i)) ≡ true) → Low mem w a k (Ok tt)
  hit : (j : ℕ) → j < k → ((i : ℕ) → i < j → cell_ok w (mem (a + i)) ≡ true) → cell_ok w (mem (a + j)) ≡ false → Low mem w a k (Err (a + j))

low : (mem : Mem) (w : Bool) (k a : ℕ) → Low mem w a k (lowest_bad mem w a k)
low mem w zero a = clear (λ i h. absurd (not-suc-le-zero h))
low mem w (suc k) a =
    split (cell_ok w (mem a))
    (λ q. rw q (more (lowest_bad mem w (a + 1) k) (low mem w k (a + 1)) q))
    (λ q.
    let z : a + 0 ≡ a = add-zero a in
    rw q (subst (λ (x : ℕ). Low mem w a (suc k) (Err x)) z (hit 0 (omega arith) (λ i h. absurd (not-suc-le-zero h)) (rw z q))))
  where
    each : cell_ok w (mem a) ≡ true → (n : ℕ) → ((i : ℕ) → i < n → cell_ok w (mem (a + 1 + i)) ≡ true) → (i : ℕ) → i < suc n → cell_ok w (mem (a + i)) ≡ true
    each q n h zero l = rw (add-zero a) q
    each q n h (suc i) l = let e : a + 1 + i ≡ a + suc i = omega arith in rw e at (h i (omega arith))

    more : (r : Checked) → Low mem w (a + 1) k r → cell_ok w (mem a) ≡ true → Low mem w a (suc k) r
    more (Ok _) (clear h) q = clear (each q k h)
    more (Err b) (hit j l h f) q =
        let e : a + 1 + j ≡ a + suc j = omega arith in
        subst (λ (x : ℕ). Low mem w a (suc k) (Err x)) (sym e) (hit (suc j) (omega arith) (each q j h) (rw e at f))

-- where the first bytes can be accessed, it lies behind them
low-fine : (mem : Mem) (w : Bool) (a k : ℕ) → ((i : ℕ) → i < k → cell_ok w (mem (a + i)) ≡ true) → lowest_bad mem w a k ≡ Ok tt
low-fine mem w a k h = go (lowest_bad mem w a k) (low mem w k a)
  where
    go : (r : Checked) → Low mem w a k r → r ≡ Ok tt
    go (Ok _) (clear g) = refl
    go (Err b) (hit j l g f) = clash (cell_ok w (mem (a + j))) (h j l) f

low-bad : (mem : Mem) (w : Bool) (a k j : ℕ) → j < k → ((i : ℕ) → i < j → cell_ok w (mem (a + i)) ≡ true) → cell_ok w (mem (a + j)) ≡ false → lowest_bad mem w a k ≡ Err (a + j)
low-bad mem w a k j l h f = go (lowest_bad mem w a k) (low mem w k a)
  where
    go : (r : Checked) → Low mem w a k r → r ≡ Err (a + j)
    go (Ok _) (clear g) = clash (cell_ok w (mem (a + j))) (g j l) f
    go (Err b) (hit i m g e) =
        split (ltb i j)
        (λ q. clash (cell_ok w (mem (a + i))) (h i (ltb-true i j q)) e)
        (λ q. split (ltb j i)
        (λ z. clash (cell_ok w (mem (a + j))) (g j (ltb-true j i z)) f)
        (λ z. let same : i ≡ j = omega (arith, ltb-false i j q, ltb-false j i z) in ap (λ (x : ℕ). Err (a + x)) same))

-- ---- the rule, case by case

module _ (setup : Setup) (mem : Mem) (w : Bool) (addr len : ℕ) where
  abbrev top : ℕ
  top = setup.uaddrtop

  pub bad-above : top < addr → access setup mem w addr len ≡ Err addr
  unfolding access
  bad-above h = rw (lt-ltb top addr h)

  pub bad-at : (a : ℕ) → addr ≤ a → a < addr + len → a < top → cell_ok w (mem a) ≡ false → ((b : ℕ) → addr ≤ b → b < a → cell_ok w (mem b) ≡ true) → access setup mem w addr len ≡ Err a
  unfolding access
  bad-at a l u t f h =
      let e : addr + (a - addr) ≡ a = omega arith in
      let b : lowest_bad mem w addr (min len (top - addr)) ≡ Err a =
      low-bad mem w addr (min len (top - addr)) (a - addr) (omega arith) (λ i x. h (addr + i) (omega arith) (omega arith)) (rw e f) ∙ ap Err e in
      rw (not-above addr top (omega arith), b)

  pub bad-top : addr ≤ top → top < addr + len → ((b : ℕ) → addr ≤ b → b < top → cell_ok w (mem b) ≡ true) → access setup mem w addr len ≡ Err top
  unfolding access
  bad-top l u h = rw (not-above addr top l, low-fine mem w addr (min len (top - addr)) (λ i x. h (addr + i) (omega arith) (omega arith)), lt-ltb top (addr + len) u)

  pub fine-all : addr + len ≤ top → ((b : ℕ) → addr ≤ b → b < addr + len → cell_ok w (mem b) ≡ true) → access setup mem w addr len ≡ Ok tt
  unfolding access
  fine-all l h =
      rw (not-above addr top (omega arith), low-fine mem w addr (min len (top - addr)) (λ i x. h (addr + i) (omega arith) (omega arith)), not-above (addr + len) top l)

  -- what it says
  means : (r : Checked) → Low mem w addr (min len (top - addr)) r → addr ≤ top → (a : ℕ) → ◌≡◌ {A = Checked} (r names Err else addr + len above top ⇒ Err top else Ok tt) (Err a) → Lowest setup mem w addr len a
  means (Err b) (hit j l g f) t a e =
      let z : addr + j ≡ a = cc in
      record {
        in-range = λ n. (omega arith, omega arith);
        empty = λ n. absurd (omega arith);
        unreached = λ r. clash (cell_ok w (mem (addr + j))) (rw z r.1) f;
        lower = λ b x y. (omega arith, (let q : addr + (b - addr) ≡ b = omega arith in rw q at (g (b - addr) (omega arith))));
      }
  means (Ok _) (clear g) t a e =
      split (addr + len above top)
      (λ q.
      let past : top < addr + len = ltb-true top (addr + len) q in
      let y : Err top ≡ Err a = rw q at e in
      let z : top ≡ a = cc in
      record {
        in-range = λ n. (omega arith, omega arith);
        empty = λ n. absurd (omega arith);
        unreached = λ r. absurd (omega (arith, r.0));
        lower = λ b x y. (omega arith, (let q : addr + (b - addr) ≡ b = omega arith in rw q at (g (b - addr) (omega arith))));
      })
      (λ q. absurd (let y : (Ok tt) ≡ Err a = rw q at e in let w : ◌≡◌ {A = ℕ} 0 1 = cc in omega arith))

  pub access-named : (a : ℕ) → access setup mem w addr len ≡ Err a → Lowest setup mem w addr len a
  unfolding access
  access-named a e =
      split (addr above top)
      (λ q.
      let past : top < addr = ltb-true top addr q in
      let y : Err addr ≡ Err a = rw q at e in
      let z : addr ≡ a = cc in
      record {
        in-range = λ n. (omega arith, omega arith);
        empty = λ n. (sym z, past);
        unreached = λ r. absurd (omega (arith, r.0));
        lower = λ b x y. absurd (omega arith);
      })
      (λ q. means (lowest_bad mem w addr (min len (top - addr))) (low mem w (min len (top - addr)) addr) (ltb-false top addr q) a (rw q at e))

  passes : (r : Checked) → Low mem w addr (min len (top - addr)) r → addr ≤ top → ◌≡◌ {A = Checked} (r names Err else addr + len above top ⇒ Err top else Ok tt) (Ok tt) → Passed setup mem w addr len
  passes (Err b) l t e = absurd (let y : Err b ≡ (Ok tt) = e in let w : ◌≡◌ {A = ℕ} 0 1 = cc in omega arith)
  passes (Ok _) (clear g) t e =
      split (addr + len above top)
      (λ q. absurd (let y : Err top ≡ (Ok tt) = rw q at e in let w : ◌≡◌ {A = ℕ} 0 1 = cc in omega arith))
      (λ q. let fits : addr + len ≤ top = ltb-false top (addr + len) q in
      record { start = t; each = λ b x y. (omega arith, (let q : addr + (b - addr) ≡ b = omega arith in rw q at (g (b - addr) (omega arith)))) })

  pub access-passed : access setup mem w addr len ≡ Ok tt → Passed setup mem w addr len
  unfolding access
  access-passed e =
      split (addr above top)
      (λ q. absurd (let y : Err addr ≡ (Ok tt) = rw q at e in let w : ◌≡◌ {A = ℕ} 0 1 = cc in omega arith))
      (λ q. passes (lowest_bad mem w addr (min len (top - addr))) (low mem w (min len (top - addr)) addr) (ltb-false top addr q) (rw q at e))

pub access-means : AccessMeans
access-means = record { named = access-named; passed = access-passed }

-- ---- a range that passes

module _ (setup : Setup) (mem : Mem) (w : Bool) (addr len : ℕ) where
  pub ok_fine : user_range_ok setup mem w addr len ≡ true → access setup mem w addr len ≡ Ok tt
  ok_fine e = go (access setup mem w addr len) e
    where
      go : (r : Checked) → (r names (λ address. false) else true) ≡ true → r ≡ Ok tt
      go (Ok _) e = refl
      go (Err a) e = clash false e refl

  pub range-means : user_range_ok setup mem w addr len ≡ true → Passed setup mem w addr len
  range-means e = access-passed setup mem w addr len (ok_fine e)

-- either way
pub either : {P : Type 0} (r : Checked) → (r ≡ Ok tt → P) → ((a : ℕ) → r ≡ Err a → P) → P
either (Ok _) f g = f refl
either (Err a) f g = g a refl

-- two checks that both pass
pub both-fine : (r q : Checked) → (r names Err else q) ≡ Ok tt → (r ≡ Ok tt) × (q ≡ Ok tt)
both-fine (Ok _) q e = (refl, e)
both-fine (Err a) q e = absurd (let y : Err a ≡ (Ok tt) = e in let w : ◌≡◌ {A = ℕ} 0 1 = cc in omega arith)

-- one byte
pub one-fine : (setup : Setup) (mem : Mem) (w : Bool) (a : ℕ) → Reached setup mem w a → access setup mem w a 1 ≡ Ok tt
one-fine setup mem w a r = fine-all setup mem w a 1 (omega (arith, r.0)) (λ b l u. let e : a ≡ b = omega arith in rw e at r.1)

-- it is bad at itself alone
pub one-bad : (setup : Setup) (mem : Mem) (w : Bool) (a b : ℕ) → access setup mem w a 1 ≡ Err b → b ≡ a
one-bad setup mem w a b e = let l = (access-named setup mem w a 1 b e).in-range (omega arith) in omega (arith, l)
