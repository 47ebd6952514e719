-- A string copy, part by part: what the part of a buffer that one page fills makes of the whole copy.
use Rattle.std.specs.Prelude.{Ok, Err}
use Prim.Native.Nat.{ℕ, zero, suc, ◌+◌, ◌≤◌, ◌<◌}
use native.Mathlib.Omega.{arith}
use native.Mathlib.Nat.{add-zero}
use mathlib.Core.Path.{◌≡◌, sym, ap, ◌∙◌}
use mathlib.Core.Bool.{false}
use mathlib.Core.List.{List, [], ◌∷◌, ◌++◌}
use lib.ListN.{length, get_or, take, drop}
use borrow.Author.Tests.{eq-eqb, ne_eqb}
use Rattle.spec.specs.Frames.{Mem}
use Rattle.spec.specs.Access.{access, byte_of, Str, longer, copy_str}
use Rattle.spec.specs.declared.Setup.{Setup}

-- bytes s can be read from address a on
pub record Readable (setup : Setup) (mem : Mem) (a : ℕ) (s : List ℕ) : Type 0 where
  pub ok : (i : ℕ) → i < length s → access setup mem false (a + i) 1 ≡ Ok tt
  pub bytes : (i : ℕ) → i < length s → byte_of (mem (a + i)) ≡ get_or s i 0

readable-rest : (setup : Setup) (mem : Mem) (a x : ℕ) (s : List ℕ) → Readable setup mem a (x ∷ s) → Readable setup mem (a + 1) s
readable-rest setup mem a x s r = record {
  ok = λ i h. let q : a + 1 + i ≡ a + suc i = omega arith in rw q (r.ok (suc i) (omega arith));
  bytes = λ i h. let q : a + 1 + i ≡ a + suc i = omega arith in rw q (r.bytes (suc i) (omega arith));
}

-- a copy after bytes s that were copied
abbrev pub after_bytes : List ℕ → Str → Str
after_bytes s t = record { access = t.access; size = length s + t.size; buffer = s ++ t.buffer }

-- a copy after no bytes
pub none : (t : Str) → t ≡ after_bytes [] t
none t = let z : t.size ≡ 0 + t.size = omega arith in λ i. record { access = t.access; size = z i; buffer = t.buffer }

one : (x : ℕ) (s : List ℕ) (t : Str) → longer x (after_bytes s t) ≡ after_bytes (x ∷ s) t
one x s t = let z : length s + t.size + 1 ≡ suc (length s) + t.size = omega arith in λ i. record { access = t.access; size = z i; buffer = x ∷ (s ++ t.buffer) }

module _ (setup : Setup) where
  first : (mem : Mem) (a x : ℕ) (s : List ℕ) → Readable setup mem a (x ∷ s) → (access setup mem false a 1 ≡ Ok tt) × (byte_of (mem a) ≡ x)
  first mem a x s r = (rw (add-zero a) at (r.ok 0 (omega arith)), rw (add-zero a) at (r.bytes 0 (omega arith)))

  next : (mem : Mem) (d : ℕ) (dst : List ℕ) (a x : ℕ) → access setup mem false a 1 ≡ Ok tt → byte_of (mem a) ≡ x → (x ≡ 0 → ⊥)
      → copy_str setup mem (d ∷ dst) a ≡ longer x (copy_str setup mem dst (a + 1))
  next mem d dst a x ok e nz = rw (ok, e, ne_eqb x 0 nz)

  -- a part without a NUL is copied, and the copy goes on after it
  pub chunk_whole : (mem : Mem) (s dst : List ℕ) (a : ℕ) → Readable setup mem a s → length s ≤ length dst → ((i : ℕ) → i < length s → get_or s i 0 ≡ 0 → ⊥)
      → copy_str setup mem dst a ≡ after_bytes s (copy_str setup mem (drop (length s) dst) (a + length s))
  chunk_whole mem [] dst a r l nz = none (copy_str setup mem dst a) ∙ ap (λ (b : ℕ). after_bytes [] (copy_str setup mem dst b)) (sym (add-zero a))
  chunk_whole mem (x ∷ s) [] a r l nz = absurd (omega arith)
  chunk_whole mem (x ∷ s) (d ∷ dst) a r l nz =
      let f = first mem a x s r in
      let q : a + 1 + length s ≡ a + suc (length s) = omega arith in
      next mem d dst a x f.0 f.1 (nz 0 (omega arith))
      ∙ ap (longer x) (chunk_whole mem s dst (a + 1) (readable-rest setup mem a x s r) (omega arith) (λ i h. nz (suc i) (omega arith)))
      ∙ one x s (copy_str setup mem (drop (length s) dst) (a + 1 + length s))
      ∙ ap (λ (b : ℕ). after_bytes (x ∷ s) (copy_str setup mem (drop (length s) dst) b)) q

  -- a part with its first NUL at place k ends the copy
  pub chunk-nul : (mem : Mem) (s dst : List ℕ) (a k : ℕ) → Readable setup mem a s → length s ≤ length dst → k < length s → get_or s k 0 ≡ 0
      → ((i : ℕ) → i < k → get_or s i 0 ≡ 0 → ⊥) → copy_str setup mem dst a ≡ record { access = Ok tt; size = k; buffer = take k s ++ drop k dst }
  chunk-nul mem [] dst a k r l h z nz = absurd (omega arith)
  chunk-nul mem (x ∷ s) [] a k r l h z nz = absurd (omega arith)
  chunk-nul mem (x ∷ s) (d ∷ dst) a zero r l h z nz =
      let f = first mem a x s r in
      rw (f.0, eq-eqb (byte_of (mem a)) 0 (f.1 ∙ z))
  chunk-nul mem (x ∷ s) (d ∷ dst) a (suc k) r l h z nz =
      let f = first mem a x s r in
      let e : k + 1 ≡ suc k = omega arith in
      next mem d dst a x f.0 f.1 (nz 0 (omega arith))
      ∙ ap (longer x) (chunk-nul mem s dst (a + 1) k (readable-rest setup mem a x s r) (omega arith) (omega arith) z (λ i g. nz (suc i) (omega arith)))
      ∙ (λ i. record { access = Ok tt; size = e i; buffer = x ∷ (take k s ++ drop k dst) })

  -- an address that can't be read ends it too
  pub chunk-bad : (mem : Mem) (d : ℕ) (dst : List ℕ) (a b : ℕ) → access setup mem false a 1 ≡ Err b → copy_str setup mem (d ∷ dst) a ≡ record { access = Err b; size = 0; buffer = d ∷ dst }
  chunk-bad mem d dst a b e = rw e
