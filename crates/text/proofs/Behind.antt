-- Text put behind text is one text.
-- Assumes nothing.
use mathlib.Core.Path.{◌≡◌, sym, ap, ap₂, subst, ◌∙◌}
use mathlib.Core.List.{List, [], ◌++◌}
use Prim.Native.Nat.{ℕ, ◌+◌, ◌≤◌}
use native.Mathlib.Omega.{arith}
use lib.ListN.{length, take, drop, length-append}
use lib.Seq.{length-take-le, take-append_seam}
use Rattle.spec.specs.Frames.{put}
use Rattle.spec_laws.proofs.Lists.{put-nil, put-append, length-put}
use Rattle.text.specs.Text.{Puts}

-- the buffer keeps its length
pub same-room : {d s e : List ℕ} {at r : ℕ} → Puts d at s e r → length e ≡ length d
same-room {d} {s} {e} {at} {r} p = ap length p.bytes ∙ length-put d s at (omega (arith, p.place, p.room))

pub behind : {d e f s t : List ℕ} {at r q : ℕ} → Puts d at s e r → Puts e r t f q → Puts d at (s ++ t) f q
behind {d} {e} {f} {s} {t} {at} {r} {q} p n = record {
  bytes = n.bytes ∙ ap₂ (λ (x : List ℕ) (k : ℕ). put x k t) p.bytes p.place ∙ sym (put-append d s t at (omega (arith, p.place, p.room)));
  place = omega (arith, p.place, n.place, length-append s t);
  room = omega (arith, n.room, same-room p);
}

-- the place behind it counts bytes of the buffer
pub counts : {d s e : List ℕ} {at r : ℕ} → Puts d at s e r → Puts d at s e r × ((r ≤ length e) × (r ≡ length (take r e)))
counts {d} {s} {e} {at} {r} p = let h : r ≤ length e = omega (arith, p.room, same-room p) in (p, (h, sym (length-take-le r e h)))

-- what stands before the place behind a text put at the front is that text
pub front : (d s e : List ℕ) (r : ℕ) → Puts d 0 s e r → take r e ≡ s
front d s e r p =
    let n : 0 + length s ≡ length s = omega arith in
    ap₂ (λ (k : ℕ) (x : List ℕ). take k x) (p.place ∙ n) p.bytes ∙ take-append_seam s (drop (0 + length s) d)

-- the same text
pub same_text : {d s t e : List ℕ} {at r : ℕ} → s ≡ t → Puts d at s e r → Puts d at t e r
same_text {d} {s} {t} {e} {at} {r} q p = subst (λ (x : List ℕ). Puts d at x e r) q p

-- nothing put
pub puts_none : (d : List ℕ) (at : ℕ) → at ≤ length d → Puts d at [] d at
puts_none d at h = record { bytes = sym (put-nil d at); place = omega arith; room = h }
