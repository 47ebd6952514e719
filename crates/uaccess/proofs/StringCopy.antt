-- The loop of a string copy.
use Rattle.std.specs.Prelude.{Ok, Err}
use Prim.Native.Nat.{ℕ, zero, suc, ◌+◌, ◌-◌, ◌%◌, ◌≤◌, ◌<◌}
use native.Mathlib.Omega.{arith}
use native.Mathlib.Nat.{add-zero}
use mathlib.Core.Path.{◌≡◌, refl, sym, ap, ◌∙◌}
use mathlib.Core.Bool.{false}
use mathlib.Core.List.{List, [], ◌∷◌, ◌++◌, append_assoc}
use lib.ListN.{length, get_or, take, drop, length-append, length-drop, take-append-drop, drop_of_length-le}
use lib.Seq.{drop-cons, length-take-le, take-add, drop-drop, take-take}
use borrow.Rule.Slice.PartMut.{put_mid, mid_of}
use Rattle.spec.specs.Frames.{Mem}
use Rattle.spec.specs.Access.{Checked, access, byte_of, bytes_at, Str, copy_str}
use Rattle.spec.specs.Numbers.{SetupOk}
use Rattle.spec.specs.declared.Setup.{Setup}
use Rattle.spec_laws.proofs.Contents.{length-bytes, get-bytes}
use Rattle.kstr.specs.Nul.{to_nul}
use Rattle.kstr.proofs.BeforeNul.{nul-most, nul-before, nul-at}
use Rattle.uaccess.proofs.InRange.{Paged, range-along}
use Rattle.uaccess.proofs.CopyParts.{bytes-part}
use Rattle.spec_laws.proofs.Overwrite.{mix, mix-part}
use Rattle.uaccess.proofs.Chunk.{Readable, after_bytes, none, chunk_whole, chunk-nul, chunk-bad}

-- what a copy comes to, part by part
abbrev pub copied : Checked → ℕ → List ℕ → Str
copied access size buffer = record { access = access; size = size; buffer = buffer }

-- of a lent part only the first k bytes changed
drop-split : (r : List ℕ) (k chunk : ℕ) → k ≤ chunk → drop k (take chunk r) ++ drop chunk r ≡ drop k r
drop-split r zero chunk h = take-append-drop chunk r
drop-split r (suc k) zero h = absurd (omega arith)
drop-split [] (suc k) (suc chunk) h = refl
drop-split (x ∷ r) (suc k) (suc chunk) h = drop-split r k chunk (omega arith)

pub part-front : (l s : List ℕ) (n chunk k : ℕ) → k ≤ chunk → put_mid n (n + chunk - n) l (take k s ++ drop k (mid_of n (n + chunk - n) l)) ≡ put_mid n (n + k - n) l (take k s)
part-front l s n chunk k h =
    let c : n + chunk - n ≡ chunk = omega arith in
    let d : n + k - n ≡ k = omega arith in
    rw (c, d, append_assoc (take k s) (drop k (take chunk (drop n l))) (drop chunk (drop n l)), drop-split (drop n l) k chunk h) refl

-- the bytes that a process sees in one page can be read
readable : (setup : Setup) (ok : SetupOk setup) (mem : Mem) → Paged mem → (a chunk : ℕ) → access setup mem false a 1 ≡ Ok tt → a % 4096 + chunk ≤ 4096 → Readable setup mem a (bytes_at mem a chunk)
readable setup ok mem paged a chunk may h =
    let f : ℕ → ℕ = λ b. byte_of (mem b) in
    let l = length-bytes f a chunk in
    record { ok = λ i g. range-along setup ok mem paged a i may (omega arith); bytes = λ i g. sym (get-bytes f a chunk i (omega arith)) }

-- the copy after n bytes
abbrev pub copy_from : (setup : Setup) → Mem → List ℕ → ℕ → ℕ → Str
copy_from setup mem dst src n = after_bytes (take n (bytes_at mem src (length dst))) (copy_str setup mem (drop n dst) (src + n))

module _ (setup : Setup) (ok : SetupOk setup) where
  module _ (mem : Mem) (paged : Paged mem) (dst : List ℕ) (src : ℕ) where
    abbrev bytes : List ℕ
    bytes = bytes_at mem src (length dst)

    length-all : length bytes ≡ length dst
    length-all = length-bytes (λ a. byte_of (mem a)) src (length dst)

    -- a copy that stops k bytes further on
    stopped : (told : Checked) (n k : ℕ) → n + k ≤ length dst → after_bytes (take n bytes) (copied told k (take k (drop n bytes) ++ drop k (drop n dst))) ≡ copied told (n + k) (mix bytes dst (n + k))
    unfolding mix
    stopped told n k h =
        let l : length (take n bytes) ≡ n = length-take-le n bytes (omega (arith, length-all)) in
        let size : length (take n bytes) + k ≡ n + k = ap (λ (j : ℕ). j + k) l in
        let buffer : take n bytes ++ (take k (drop n bytes) ++ drop k (drop n dst)) ≡ take (n + k) bytes ++ drop (n + k) dst =
        rw (take-add n k bytes, ← drop-drop k n dst) (sym (append_assoc (take n bytes) (take k (drop n bytes)) (drop k (drop n dst)))) in
        λ i. copied told (size i) (buffer i)

    halted : (told : Checked) (n : ℕ) → n ≤ length dst → copy_str setup mem (drop n dst) (src + n) ≡ copied told 0 (drop n dst) → copy_from setup mem dst src n ≡ copied told n (mix bytes dst n)
    halted told n h e =
        ap (after_bytes (take n bytes)) e ∙ stopped told n 0 (omega arith) ∙ ap (λ (j : ℕ). copied told j (mix bytes dst j)) (add-zero n)

    pub str-none : copy_str setup mem dst src ≡ copy_from setup mem dst src 0
    str-none = none (copy_str setup mem dst src) ∙ ap (λ (a : ℕ). after_bytes [] (copy_str setup mem dst a)) (sym (add-zero src))

    -- the buffer is full
    pub str-end : (n : ℕ) → n ≤ length dst → length dst ≤ n → copy_from setup mem dst src n ≡ copied (Ok tt) n (mix bytes dst n)
    str-end n h l =
        let e : drop n dst ≡ [] = drop_of_length-le dst l in
        halted (Ok tt) n h (rw e)

    -- a bad page
    pub str-bad : (n b : ℕ) → n < length dst → access setup mem false (src + n) 1 ≡ Err b → copy_from setup mem dst src n ≡ copied (Err b) n (mix bytes dst n)
    str-bad n b h e =
        let c : drop n dst ≡ get_or dst n 0 ∷ drop (suc n) dst = drop-cons dst n 0 h in
        halted (Err b) n (omega arith) (rw c (chunk-bad setup mem (get_or dst n 0) (drop (suc n) dst) (src + n) b e))

    -- one page's part
    module _ (n chunk : ℕ) (room : n + chunk ≤ length dst) (may : access setup mem false (src + n) 1 ≡ Ok tt) (page : (src + n) % 4096 + chunk ≤ 4096) (k : ℕ) (count : k ≡ to_nul (bytes_at mem (src + n) chunk)) where
      abbrev part : List ℕ
      part = bytes_at mem (src + n) chunk

      length_part : length part ≡ chunk
      length_part = length-bytes (λ a. byte_of (mem a)) (src + n) chunk

      part-is : part ≡ take chunk (drop n bytes)
      part-is = bytes-part (λ a. byte_of (mem a)) src n chunk (length dst) room

      fits : length part ≤ length (drop n dst)
      fits = omega (arith, length_part, length-drop n dst)

      most : k ≤ chunk
      most = omega (arith, count, nul-most part, length_part)

      front : take k part ≡ take k (drop n bytes)
      front = ap (take k) part-is ∙ take-take k chunk (drop n bytes) most

      -- what it leaves in the buffer
      pub str-part : (l s x : List ℕ) → l ≡ mix bytes dst n → s ≡ part → x ≡ take k s ++ drop k (mid_of n (n + chunk - n) l) → put_mid n (n + chunk - n) l x ≡ mix bytes dst (n + k)
      str-part l s x el es ex =
          ap (put_mid n (n + chunk - n) l) (ex ∙ ap (λ (y : List ℕ). take k y ++ drop k (mid_of n (n + chunk - n) l)) es)
          ∙ part-front l part n chunk k most
          ∙ ap (λ (y : List ℕ). put_mid n (n + k - n) y (take k part)) el
          ∙ mix-part bytes dst (take k part) n k length-all (omega (arith, most)) front

      -- a NUL in it
      pub str-nul : k < chunk → copy_from setup mem dst src n ≡ copied (Ok tt) (n + k) (mix bytes dst (n + k))
      str-nul l =
          ap (after_bytes (take n bytes))
          (chunk-nul setup mem part (drop n dst) (src + n) k (readable setup ok mem paged (src + n) chunk may page) fits (omega (arith, length_part)) (rw count (nul-at part (omega (arith, length_part, count))))
          (λ i h. nul-before part i (omega (arith, count)))
          ∙ ap (λ (x : List ℕ). copied (Ok tt) k (x ++ drop k (drop n dst))) front)
          ∙ stopped (Ok tt) n k (omega arith)

      -- none
      pub str-whole : chunk ≤ k → copy_from setup mem dst src n ≡ copy_from setup mem dst src (n + k)
      str-whole l =
          let same : k ≡ chunk = omega (arith, most) in
          let t : Str = copy_str setup mem (drop (length part) (drop n dst)) (src + n + length part) in
          let more : take n bytes ++ part ≡ take (n + k) bytes = rw (same, take-add n chunk bytes) (ap (λ (x : List ℕ). take n bytes ++ x) part-is) in
          let rest : drop (length part) (drop n dst) ≡ drop (n + k) dst = rw (length_part, same) (drop-drop chunk n dst) in
          let far : src + n + length part ≡ src + (n + k) = omega (arith, length_part, same) in
          let size : length (take n bytes) + (length part + t.size) ≡ length (take n bytes ++ part) + t.size = omega (arith, length-append (take n bytes) part) in
          ap (after_bytes (take n bytes))
          (chunk_whole setup mem part (drop n dst) (src + n) (readable setup ok mem paged (src + n) chunk may page) fits (λ i h. nul-before part i (omega (arith, count, length_part, same))))
          ∙ (λ i. copied t.access (size i) (sym (append_assoc (take n bytes) part t.buffer) i))
          ∙ ap (λ (x : List ℕ). after_bytes x t) more
          ∙ (λ i. after_bytes (take (n + k) bytes) (copy_str setup mem (rest i) (far i)))
