-- The copies of a push, and the two ranges that they make up: its strings and its pointers.
use Rattle.std.specs.Prelude.{Ok, Err}
use Prim.Native.Nat.{ℕ, ◌+◌, ◌*◌, ◌-◌, ◌/◌, ◌≤◌, ◌<◌}
use native.Mathlib.Omega.{arith}
use mathlib.Core.Path.{◌≡◌}
use mathlib.Core.Bool.{true}
use mathlib.Core.List.{List, [], ◌∷◌}
use lib.ListN.{length}
use lib.Dec.{ltb}
use borrow.Author.Tests.{ltb-true, ltb-false, le-ltb}
use Rattle.spec.proofs.Bools.{split}
use Rattle.spec.proofs.Ranges.{fine-all, access-passed, both-fine}
use Rattle.spec.proofs.Args.{length-string}
use Rattle.spec.specs.Frames.{Mem}
use Rattle.spec.specs.Access.{access, Reached}
use Rattle.spec.specs.Exec.{strings, strings_at, argv_at, below_zero, copies, first_bad, push_access}
use Rattle.spec.specs.declared.Setup.{Setup}

module _ (setup : Setup) (mem : Mem) where
  -- every byte of a range may be written
  abbrev pub Writable : ℕ → ℕ → Type 0
  Writable addr len = (a : ℕ) → addr ≤ a → a < addr + len → Reached setup mem true a

  -- a copy within one, if it starts at one of its bytes
  copy-fine : (addr len at k : ℕ) → Writable addr len → addr ≤ at → at + k ≤ addr + len → at < addr + len → access setup mem true at k ≡ Ok tt
  copy-fine addr len at k h l u s = fine-all setup mem true at k (ends k u) (λ b x y. (h b (omega arith) (omega arith)).1)
    where
      ends : (n : ℕ) → at + n ≤ addr + len → at + n ≤ setup.uaddrtop
      ends n e = split (ltb at (at + n))
          (λ q. let r = h (at + n - 1) (omega (arith, ltb-true at (at + n) q)) (omega (arith, ltb-true at (at + n) q)) in omega (arith, r.0, ltb-true at (at + n) q))
          (λ q. let r = h at l s in omega (arith, r.0, ltb-false at (at + n) q))

  pub copies-fine : (args : List (List ℕ)) (s p : ℕ) → Writable s (length (strings args)) → Writable p (8 * (length args + 1)) → first_bad setup mem (copies s p args) ≡ Ok tt
  copies-fine [] s p hs hp = rw (copy-fine p 8 p 8 (λ a l u. hp a l (omega arith)) (omega arith) (omega arith) (omega arith))
  copies-fine (a ∷ args) s p hs hp =
      let n = length-string a args in
      rw (
        copy-fine s (length (strings (a ∷ args))) s (length a) hs (omega arith) (omega arith) (omega arith),
        copy-fine s (length (strings (a ∷ args))) (s + length a) 1 hs (omega arith) (omega arith) (omega arith),
        copy-fine p (8 * (length (a ∷ args) + 1)) p 8 hp (omega arith) (omega arith) (omega arith),
      )
      (copies-fine args (s + length a + 1) (p + 8) (λ b l u. hs b (omega arith) (omega arith)) (λ b l u. hp b (omega arith) (omega arith)))

  -- what passed copies say of both ranges
  pub copies-mean : (args : List (List ℕ)) (s p : ℕ) → first_bad setup mem (copies s p args) ≡ Ok tt → Writable s (length (strings args)) × Writable p (8 * (length args + 1))
  copies-mean [] s p e =
      let b = both-fine (access setup mem true p 8) (Ok tt) e in
      ((λ a l u. absurd (omega arith)), λ a l u. (access-passed setup mem true p 8 b.0).each a l (omega arith))
  copies-mean (x ∷ args) s p e =
      let n = length-string x args in
      let b₁ = both-fine (access setup mem true s (length x)) _ e in
      let b₂ = both-fine (access setup mem true (s + length x) 1) _ b₁.1 in
      let b₃ = both-fine (access setup mem true p 8) _ b₂.1 in
      let more = copies-mean args (s + length x + 1) (p + 8) b₃.1 in (
        (λ a l u.
            split (ltb a (s + length x))
            (λ q. (access-passed setup mem true s (length x) b₁.0).each a l (ltb-true a (s + length x) q))
            (λ q. split (ltb a (s + length x + 1))
            (λ z. (access-passed setup mem true (s + length x) 1 b₂.0).each a (ltb-false a (s + length x) q) (ltb-true a (s + length x + 1) z))
            (λ z. more.0 a (ltb-false a (s + length x + 1) z) (omega arith)))),
        λ a l u.
            split (ltb a (p + 8))
            (λ q. (access-passed setup mem true p 8 b₃.0).each a l (ltb-true a (p + 8) q))
            (λ q. more.1 a (ltb-false a (p + 8) q) (omega arith)),
      )

  -- a push that may be made
  pub record Pushable (top : ℕ) (args : List (List ℕ)) : Type 0 where
    pub low : 8 * (length args + 1) ≤ strings_at top args / 8 * 8
    pub strings-at : Writable (strings_at top args) (length (strings args))
    pub pointers-at : Writable (argv_at top args) (8 * (length args + 1))

  pub push-fine : (top : ℕ) (args : List (List ℕ)) → Pushable top args → push_access setup mem top args ≡ Ok tt
  push-fine top args h = rw (le-ltb (strings_at top args / 8 * 8) (8 * (length args + 1)) h.low) (copies-fine args (strings_at top args) (argv_at top args) h.strings-at h.pointers-at)

  pub push-means : (top : ℕ) (args : List (List ℕ)) → push_access setup mem top args ≡ Ok tt → Pushable top args
  push-means top args e =
      split (below_zero top args)
      (λ q. absurd (let y : Err 0 ≡ (Ok tt) = rw q at e in let w : ◌≡◌ {A = ℕ} 0 1 = cc in omega arith))
      (λ q.
      let c = copies-mean args (strings_at top args) (argv_at top args) (rw q at e) in
      record { low = ltb-false _ _ q; strings-at = c.0; pointers-at = c.1 })
