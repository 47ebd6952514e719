-- Recorded segments: one after another, without empty ones, up to fifteen.
-- Assumes nothing.
use mathlib.Core.Path.{◌≡◌, refl, sym, ap, ◌∙◌}
use mathlib.Core.Bool.{true}
use mathlib.Core.List.{List, [], ◌∷◌, ◌++◌, append-nil, append_assoc}
use Prim.Native.Nat.{ℕ, suc, ◌+◌, ◌-◌, ◌<◌, ◌≤◌}
use native.Mathlib.Omega.{arith}
use lib.ListN.{length, set, replicate, length-append}
use lib.Seq.{set-append_seam}
use borrow.Author.Tests.{lt-ltb, le-ltb}
use Rattle.spec.proofs.Bools.{split}
use Rattle.spec.specs.Tests.{◌below◌}
use Rattle.spec.specs.Book.{zero_segment}
use Rattle.spec.specs.Program.{Segment}
use Rattle.spec.specs.Exec.{kept}
use Rattle.spec.specs.declared.VirtRange.{VirtRange}
use Rattle.spec.specs.declared.UserSegment.{UserSegment}
use Rattle.spec_laws.proofs.Lists.{by_order}
use Rattle.std.specs.Prelude.{Option, None, Some}
use Rattle.elf.specs.declared.Segment.{Segment as Held}
use Rattle.elf.proofs.Walk.{front}
use Rattle.exec.specs.Pages.{pages_in, pushed, recorded_with, recorded, all_recorded}
use Rattle.exec.specs.declared.recorded.Recorded.{Recorded}

-- what one place adds
abbrev pub added : List ℕ → VirtRange → Option Held → List UserSegment
added image bss l = kept bss (front image l [])

module _ (image : List ℕ) (bss : VirtRange) where
  pub kept-front : (l : Option Held) (gs : List Segment) → kept bss (front image l gs) ≡ added image bss l ++ kept bss gs
  kept-front None gs = refl
  kept-front (Some g) gs =
      let u : UserSegment = pages_in bss g in
      split (u.range.start below u.range.end) (λ q. rw q) (λ q. rw q)

-- ---- a segment behind those recorded

put-more : (done : List UserSegment) (u : UserSegment) → length done < 15 → set (done ++ replicate (16 - length done) zero_segment) (length done) u ≡ (done ++ u ∷ []) ++ replicate (16 - length (done ++ u ∷ [])) zero_segment
put-more done u h =
    let n = length done in
    let l : length (done ++ u ∷ []) ≡ n + 1 = length-append done (u ∷ []) in
    let one : 16 - n ≡ suc (15 - n) = omega arith in
    let rest : 16 - (n + 1) ≡ 15 - n = omega arith in
    rw (l, one, rest)
    (set-append_seam done zero_segment (replicate (15 - n) zero_segment) u ∙ sym (append_assoc done (u ∷ []) (replicate (15 - n) zero_segment)))

few-recorded : (us : List UserSegment) → length us ≤ 15 → all_recorded us ≡ Some (recorded us)
few-recorded us h = rw (le-ltb 15 (length us) h)

many-recorded : (us : List UserSegment) → 15 < length us → all_recorded us ≡ None
many-recorded us h = rw (lt-ltb 15 (length us) h)

pub record-one : (done : List UserSegment) (u : UserSegment) → (u.range.start below u.range.end) ≡ true → length done ≤ 15 → pushed (recorded done) u ≡ all_recorded (done ++ u ∷ [])
record-one done u q m =
    let l = length-append done (u ∷ []) in
    by_order (length done) 15
    (λ h. rw (q, lt-ltb (length done) 15 h) (same-record (put-more done u h) (sym l) ∙ sym (few-recorded (done ++ u ∷ []) (omega (arith, l)))))
    (λ h. rw (q, le-ltb (length done) 15 h) (sym (many-recorded (done ++ u ∷ []) (omega (arith, l)))))
  where
    same-record : {a b : List UserSegment} {m n : ℕ} → a ≡ b → m ≡ n → ◌≡◌ {A = Option Recorded} (Some (record { segments = a; count = m })) (Some (record { segments = b; count = n }))
    same-record p q = rw (p, q)

pub few : (done : List UserSegment) → length done ≤ 15 → Some (recorded done) ≡ all_recorded (done ++ [])
few done m = rw (append-nil done) (sym (few-recorded done m))

-- what one place comes to
pub record-front : (image : List ℕ) (bss : VirtRange) (done : List UserSegment) (l : Option Held) → length done ≤ 15 → recorded_with bss (recorded done) l ≡ all_recorded (done ++ added image bss l)
record-front image bss done None m = few done m
record-front image bss done (Some g) m =
    let u : UserSegment = pages_in bss g in
    split (u.range.start below u.range.end)
    (λ q. record-one done u q m ∙ ap (λ (us : List UserSegment). all_recorded (done ++ us)) (sym (one q)))
    (λ q. rw q (few done m))
  where
    one : (let u : UserSegment = pages_in bss g in (u.range.start below u.range.end) ≡ true) → added image bss (Some g) ≡ pages_in bss g ∷ []
    one q = rw q

-- all that were recorded are so far at most fifteen, and recorded as they are
pub some-recorded : (us : List UserSegment) (r : Recorded) → Some r ≡ all_recorded us → (length us ≤ 15) × (r ≡ recorded us)
some-recorded us r e =
    by_order 15 (length us)
    (λ h. let z : ◌≡◌ {A = Option Recorded} (Some r) None = e ∙ many-recorded us h in cc)
    (λ h. let z : Some r ≡ Some (recorded us) = e ∙ few-recorded us h in (h, cc))

pub none-recorded : (us more : List UserSegment) → None ≡ all_recorded us → None ≡ all_recorded (us ++ more)
none-recorded us more e =
    by_order 15 (length us)
    (λ h. sym (many-recorded (us ++ more) (omega (arith, h, length-append us more))))
    (λ h. let z : ◌≡◌ {A = Option Recorded} None (Some (recorded us)) = e ∙ few-recorded us h in cc)

pub too-many : (us : List UserSegment) → None ≡ all_recorded us → 15 < length us
too-many us e =
    by_order 15 (length us)
    (λ h. h)
    (λ h. let z : ◌≡◌ {A = Option Recorded} None (Some (recorded us)) = e ∙ few-recorded us h in cc)
