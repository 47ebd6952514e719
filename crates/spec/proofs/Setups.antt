-- An accepted setup, as tests and as facts, and which setups are accepted.
use Prim.Native.Nat.{ℕ, ◌+◌, ◌-◌, ◌%◌, ◌^◌, ◌≤◌}
use native.Mathlib.Omega.{arith}
use mathlib.Core.Path.{◌≡◌, refl}
use mathlib.Core.Bool.{Bool, true, false, not}
use mathlib.Core.List.{[], ◌∷◌, map}
use borrow.Author.Tests.{eqb-true, ltb-true, eq-eqb, lt-ltb, le-ltb}
use Rattle.spec.proofs.Bools.{both, not-below}
use Rattle.spec.specs.Tests.{◌is◌, ◌below◌, ◌above◌, ◌⇒◌else◌, all}
use Rattle.spec.specs.Flags.{built_in, flags_ok}
use Rattle.spec.specs.Numbers.{setup_ok, setup_error, SetupOk, deposit, limit, arg_limit}
use Rattle.spec.specs.declared.Setup.{Setup}

-- a number is 38 or 39, and 0 where both tests pass
two-pass : (a b : Bool) → ◌≡◌ {A = ℕ} (not a ⇒ 38 else not b ⇒ 39 else 0) 0 → (a ≡ true) × (b ≡ true)
two-pass true true e = (refl, refl)
two-pass true false e = absurd (omega (arith, e))
two-pass false b e = absurd (omega (arith, e))

two-numbers : (a b : Bool) (e : ℕ) → e ≡ (not a ⇒ 38 else not b ⇒ 39 else 0) → (e ≡ 0 → ⊥) → (38 ≤ e) × (e ≤ 39)
two-numbers true true e h ne = absurd (ne h)
two-numbers true false e h ne = (omega arith, omega arith)
two-numbers false b e h ne = (omega arith, omega arith)

pub setup-numbers : (setup : Setup) → (setup_error setup ≡ 0 → ⊥) → (38 ≤ setup_error setup) × (setup_error setup ≤ 39)
unfolding setup_error
setup-numbers setup ne = two-numbers (setup_ok setup) (flags_ok setup.flags) _ refl ne

-- there is none exactly where the facts hold
module _ (setup : Setup) where
  setup-facts : setup_ok setup ≡ true → flags_ok setup.flags ≡ true → SetupOk setup
  unfolding setup_ok
  setup-facts e f =
      let z = setup.utzero in
      let t = setup.ustktop in
      let k = setup.ustksize in
      let u = setup.uaddrtop in
      let a₁ = both _ (not (u above 2 ^ 47)) e in
      let a₂ = both _ (not (t above u)) a₁.0 in
      let a₃ = both _ (not (z + 8192 above t - k)) a₂.0 in
      let a₄ = both _ (k below t) a₃.0 in
      let a₅ = both _ (not (k above 65536)) a₄.0 in
      let a₆ = both _ (not (k below 4096)) a₅.0 in
      let a₇ = both _ (not (z below 4096)) a₆.0 in
      let p₁ = both _ (u % 4096 is 0) a₇.0 in
      let p₂ = both _ (k % 4096 is 0) p₁.0 in
      let p₃ = both (z % 4096 is 0) (t % 4096 is 0) p₂.0 in
      record {
        pages = (eqb-true _ _ p₃.0, eqb-true _ _ p₃.1, eqb-true _ _ p₂.1, eqb-true _ _ p₁.1);
        text-least = not-below z 4096 a₇.1;
        stack-least = not-below k 4096 a₆.1;
        stack-most = not-below 65536 k a₅.1;
        stack-fits = ltb-true k t a₄.1;
        room = not-below (t - k) (z + 8192) a₃.1;
        in-space = not-below u t a₂.1;
        space-most = not-below (2 ^ 47) u a₁.1;
        table = f;
      }

  pub setup-means : setup_error setup ≡ 0 → SetupOk setup
  unfolding setup_error
  setup-means e = let p = two-pass (setup_ok setup) (flags_ok setup.flags) e in setup-facts p.0 p.1

  pub setup-test : SetupOk setup → setup_error setup ≡ 0
  unfolding setup_ok setup_error
  setup-test h =
      rw (
        h.table,
        eq-eqb (setup.utzero % 4096) 0 h.pages.0,
        eq-eqb (setup.ustktop % 4096) 0 h.pages.1,
        eq-eqb (setup.ustksize % 4096) 0 h.pages.2,
        eq-eqb (setup.uaddrtop % 4096) 0 h.pages.3,
        le-ltb setup.utzero 4096 h.text-least,
        le-ltb setup.ustksize 4096 h.stack-least,
        le-ltb 65536 setup.ustksize h.stack-most,
        lt-ltb setup.ustksize setup.ustktop h.stack-fits,
        le-ltb (setup.ustktop - setup.ustksize) (setup.utzero + 8192) h.room,
        le-ltb setup.uaddrtop setup.ustktop h.in-space,
        le-ltb (2 ^ 47) setup.uaddrtop h.space-most,
      )

-- the deposit's numbers are accepted
pub deposit-ok : SetupOk deposit
unfolding setup_ok flags_ok setup_error
deposit-ok = setup-means deposit refl

abbrev setup : ℕ → ℕ → ℕ → ℕ → Setup
setup utzero ustktop ustksize uaddrtop = record { utzero = utzero; ustktop = ustktop; ustksize = ustksize; uaddrtop = uaddrtop; flags = built_in }

-- accepted: the deposit's, the smallest, the largest stack
pub accepted : all setup_ok (deposit ∷ setup 4096 16384 4096 16384 ∷ setup 4096 77824 65536 (2 ^ 47) ∷ []) ≡ true
unfolding setup_ok
accepted = refl

-- of these a quarter of the stack, and limit
pub derived : map {B = ℕ × ℕ} (λ s. (arg_limit s, limit s)) (deposit ∷ setup 4096 16384 4096 16384 ∷ setup 4096 77824 65536 (2 ^ 47) ∷ [])
    ≡ (4096, 140737488334848) ∷ (1024, 8192) ∷ (16384, 8192) ∷ []
derived = refl

-- refused: by each condition in its order, all others met where that can be
pub refused : all (λ s. not (setup_ok s))
    (setup 65537 (2 ^ 47) 16384 (2 ^ 47) ∷ setup 65536 (2 ^ 46 + 1) 16384 (2 ^ 47) ∷ setup 65536 (2 ^ 47) 16385 (2 ^ 47) ∷ setup 65536 (2 ^ 46) 16384 (2 ^ 47 - 1)
    ∷ setup 0 (2 ^ 47) 16384 (2 ^ 47) ∷ setup 65536 (2 ^ 47) 0 (2 ^ 47) ∷ setup 65536 (2 ^ 47) 69632 (2 ^ 47) ∷ setup 4096 16384 16384 16384
    ∷ setup 8192 16384 4096 16384 ∷ setup 4096 20480 4096 16384 ∷ setup 65536 (2 ^ 47) 16384 (2 ^ 47 + 4096) ∷ []) ≡ true
unfolding setup_ok
refused = refl
