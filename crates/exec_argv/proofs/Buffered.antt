-- A string read by way of a buffer, or of two one after the other: only their lengths matter.
use Prim.Native.Nat.{ℕ, ◌+◌, ◌-◌, ◌≤◌, ◌<◌}
use native.Mathlib.Omega.{arith}
use native.Mathlib.Nat.{add-zero, suc_inj}
use native.Mathlib.Numerals.{add-one}
use mathlib.Core.Path.{◌≡◌, refl, sym, ap, ap₂, ◌∙◌}
use mathlib.Core.Bool.{false}
use mathlib.Core.List.{List, [], ◌∷◌, ◌++◌}
use Rattle.std.specs.Prelude.{Result, Ok, Err}
use lib.ListN.{length, take, drop, length-replicate, length-drop, take-append-drop}
use lib.Seq.{length-take-le}
use borrow.Rule.Slice.PartMut.{put_mid, mid_of}
use Rattle.spec.specs.Tests.{◌is◌}
use Rattle.spec.specs.Numbers.{arg_limit}
use Rattle.spec.specs.Frames.{Mem, put}
use Rattle.spec.specs.Access.{Checked, access, byte_of, bytes_at, Str, copy_str}
use Rattle.spec.specs.Exec.{arg_buffer}
use Rattle.spec.proofs.Bools.{split}
use Rattle.spec.proofs.Ranges.{access-passed, either}
use Rattle.spec.specs.declared.Setup.{Setup}
use Rattle.spec_laws.proofs.Contents.{length-bytes}
use Rattle.spec_laws.proofs.Buffers.{string-copied}
use Rattle.spec_laws.proofs.Lists.{put-part}
use Rattle.uaccess.specs.declared.strings.Unread.{Unread}
use Rattle.uaccess.specs.Copied.{copied}
use Rattle.uaccess.proofs.StringCopy.{part-front}
use Rattle.exec_argv.specs.Strings.{Told}

-- how many bytes a copy tells
abbrev pub size_of : Result ℕ Unread → ℕ
size_of r = (copied r []).size

-- what is told of a copy, with any buffer
copied-size : (r : Result ℕ Unread) (x : List ℕ) → (copied r x).size ≡ size_of r
copied-size (Ok n) x = refl
copied-size (Err e) x = refl

copied-buffer : (r : Result ℕ Unread) (x : List ℕ) → (copied r x).buffer ≡ x
copied-buffer (Ok n) x = refl
copied-buffer (Err e) x = refl

copied-is : (r : Result ℕ Unread) (x : List ℕ) (t : Str) → (copied r x).access ≡ t.access → size_of r ≡ t.size → copied r t.buffer ≡ t
copied-is (Ok n) x t p q = λ i. record { access = p i; size = q i; buffer = t.buffer }
copied-is (Err e) x t p q = λ i. record { access = p i; size = q i; buffer = t.buffer }

-- a copy that goes on after n bytes
abbrev pub behind : ℕ → Result ℕ Unread → Result ℕ Unread
behind n (Ok more) = Ok (n + more)
behind n (Err e) = Err (record { address = e.address; size = n + e.size })

behind-access : (n : ℕ) (r : Result ℕ Unread) (x : List ℕ) → (copied (behind n r) x).access ≡ (copied r x).access
behind-access n (Ok more) x = refl
behind-access n (Err e) x = refl

behind-size : (n : ℕ) (r : Result ℕ Unread) → size_of (behind n r) ≡ n + size_of r
behind-size n (Ok more) = refl
behind-size n (Err e) = refl

-- what a copy into one buffer and into another have in common
pub record Alike (s t : Str) : Type 0 where
  pub access : s.access ≡ t.access
  pub size : s.size ≡ t.size

module _ (setup : Setup) (mem : Mem) where
  str-alike : (d e : List ℕ) (a : ℕ) → length d ≡ length e → Alike (copy_str setup mem d a) (copy_str setup mem e a)
  str-alike [] [] a l = record { access = refl; size = refl }
  str-alike [] (y ∷ e) a l = absurd (omega arith)
  str-alike (x ∷ d) [] a l = absurd (omega arith)
  str-alike (x ∷ d) (y ∷ e) a l =
      let more = str-alike d e (a + 1) (suc_inj l) in
      either (access setup mem false a 1)
      (λ q. split (byte_of (mem a) is 0) (λ z. rw (q, z) (record { access = refl; size = refl })) (λ z. rw (q, z) (record { access = more.access; size = ap (λ (n : ℕ). n + 1) more.size })))
      (λ b q. rw q (record { access = refl; size = refl }))

  pub str-length : (d : List ℕ) (a : ℕ) → length (take (copy_str setup mem d a).size (copy_str setup mem d a).buffer) ≡ (copy_str setup mem d a).size
  str-length d a = ap length (string-copied setup mem d a) ∙ length-bytes (λ b. byte_of (mem b)) a (copy_str setup mem d a).size

  str-most : (d : List ℕ) (a : ℕ) → (copy_str setup mem d a).size ≤ length d
  str-most [] a = omega arith
  str-most (x ∷ d) a =
      either (access setup mem false a 1)
      (λ q. split (byte_of (mem a) is 0) (λ z. rw (q, z) (omega arith)) (λ z. rw (q, z) (omega (arith, str-most d (a + 1)))))
      (λ b q. rw q (omega arith))

  -- a byte that can't be read stands before the end
  str-before : (d : List ℕ) (a b : ℕ) → (copy_str setup mem d a).access ≡ Err b → (copy_str setup mem d a).size < length d
  str-before [] a b h = cc
  str-before (x ∷ d) a b h =
      either (access setup mem false a 1)
      (λ q. split (byte_of (mem a) is 0) (λ z. let w : ◌≡◌ {A = Checked} (Ok tt) (Err b) = rw (q, z) at h in cc) (λ z. rw (q, z) (omega (arith, str-before d (a + 1) b (rw (q, z) at h)))))
      (λ b q. rw q (omega arith))

  pub copied-before : (d : List ℕ) (a : ℕ) (u : Unread) (x : List ℕ) → copied (Err u) x ≡ copy_str setup mem d a → u.size < length d
  copied-before d a u x e = omega (arith, ap (λ (s : Str). s.size) e, str-before d a u.address (sym (ap (λ (s : Str). s.access) e)))

  pub copied-most : (d : List ℕ) (a : ℕ) (r : Result ℕ Unread) (x : List ℕ) → copied r x ≡ copy_str setup mem d a → size_of r ≤ length d
  copied-most d a r x e = omega (arith, sym (copied-size r x) ∙ ap (λ (s : Str). s.size) e, str-most d a)

  -- the rest of the buffer is unchanged
  str-rest : (d : List ℕ) (a : ℕ) → drop (copy_str setup mem d a).size (copy_str setup mem d a).buffer ≡ drop (copy_str setup mem d a).size d
  str-rest [] a = refl
  str-rest (x ∷ d) a =
      either (access setup mem false a 1)
      (λ q. split (byte_of (mem a) is 0) (λ z. rw (q, z)) (λ z. rw (q, z, add-one (copy_str setup mem d (a + 1)).size) (str-rest d (a + 1))))
      (λ b q. rw q)

  -- ---- two buffers, one behind the other

  -- the copy ends in the first
  str-short : (d e : List ℕ) (a : ℕ) → (copy_str setup mem d a).size < length d → Alike (copy_str setup mem (d ++ e) a) (copy_str setup mem d a)
  str-short [] e a h = absurd (omega arith)
  str-short (x ∷ d) e a h =
      either (access setup mem false a 1)
      (λ q.
      split (byte_of (mem a) is 0)
      (λ z. rw (q, z) (record { access = refl; size = refl }))
      (λ z. let more = str-short d e (a + 1) (omega (arith, rw (q, z) at h)) in rw (q, z) (record { access = more.access; size = ap (λ (n : ℕ). n + 1) more.size })))
      (λ b q. rw q (record { access = refl; size = refl }))

  -- it goes on in the second
  str-full : (d e : List ℕ) (a : ℕ) → (copy_str setup mem d a).size ≡ length d
      → ((copy_str setup mem (d ++ e) a).access ≡ (copy_str setup mem e (a + length d)).access) × ((copy_str setup mem (d ++ e) a).size ≡ length d + (copy_str setup mem e (a + length d)).size)
  str-full [] e a h = rw (add-zero a) (refl, omega arith)
  str-full (x ∷ d) e a h =
      either (access setup mem false a 1)
      (λ q.
      split (byte_of (mem a) is 0)
      (λ z. absurd (omega (arith, rw (q, z) at h)))
      (λ z.
      let more = str-full d e (a + 1) (omega (arith, rw (q, z) at h)) in
      let far : a + 1 + length d ≡ a + (length (x ∷ d)) = omega arith in
      rw (q, z, ← far) (more.0, omega (arith, more.1))))
      (λ b q. absurd (omega (arith, rw q at h)))

  -- and the first lies below UADDRTOP
  str-low : (d : List ℕ) (a : ℕ) → (copy_str setup mem d a).size ≡ length d → 0 < length d → a + length d ≤ setup.uaddrtop
  str-low [] a h l = absurd (omega arith)
  str-low (x ∷ []) a h l =
      either (access setup mem false a 1) (λ q. omega (arith, ((access-passed setup mem false a 1 q).each a (omega arith) (omega arith)).0)) (λ b q. absurd (omega (arith, rw q at h)))
  str-low (x ∷ y ∷ d) a h l =
      either (access setup mem false a 1)
      (λ q.
      split (byte_of (mem a) is 0)
      (λ z. absurd (omega (arith, rw (q, z) at h)))
      (λ z. omega (arith, str-low (y ∷ d) (a + 1) (omega (arith, rw (q, z) at h)) (omega arith))))
      (λ b q. absurd (omega (arith, rw q at h)))

  -- ---- a buffer of the limit

  buffer-length : length (arg_buffer setup) ≡ arg_limit setup
  unfolding arg_buffer
  buffer-length = length-replicate {A = ℕ} (arg_limit setup) 0

  abbrev string : ℕ → Str
  string a = copy_str setup mem (arg_buffer setup) a

  pub string-most : (a : ℕ) → (string a).size ≤ arg_limit setup
  string-most a = omega (arith, str-most (arg_buffer setup) a, buffer-length)

  module _ (buf : List ℕ) (used : ℕ) (low : used < arg_limit setup) (room : arg_limit setup ≤ length buf) (a : ℕ) where
    abbrev size : ℕ
    size = arg_limit setup - used

    -- the part behind the bytes so far, and the definition's buffer in two
    abbrev part : List ℕ
    part = mid_of used size buf

    abbrev fore : List ℕ
    fore = take size (arg_buffer setup)

    abbrev aft : List ℕ
    aft = drop size (arg_buffer setup)

    length_part : length part ≡ size
    length_part = length-take-le size (drop used buf) (omega (arith, length-drop used buf))

    length-fore : length fore ≡ size
    length-fore = length-take-le size (arg_buffer setup) (omega (arith, buffer-length))

    alike : Alike (copy_str setup mem part a) (copy_str setup mem fore a)
    alike = str-alike part fore a (length_part ∙ sym length-fore)

    both : string a ≡ copy_str setup mem (fore ++ aft) a
    both = ap (λ (b : List ℕ). copy_str setup mem b a) (sym (take-append-drop size (arg_buffer setup)))

    -- what was read, where it ends there
    module _ (r : Result ℕ Unread) (x : List ℕ) (read : copied r x ≡ copy_str setup mem part a) where
      told-access : (copied r x).access ≡ (copy_str setup mem part a).access
      told-access = ap (λ (s : Str). s.access) read

      told-size : size_of r ≡ (copy_str setup mem part a).size
      told-size = sym (copied-size r x) ∙ ap (λ (s : Str). s.size) read

      told-buffer : x ≡ (copy_str setup mem part a).buffer
      told-buffer = sym (copied-buffer r x) ∙ ap (λ (s : Str). s.buffer) read

      pub told-most : size_of r ≤ size
      told-most = omega (arith, told-size, str-most part a, length_part)

      pub told-short : size_of r < size → Told (arg_limit setup) (string a) used buf r (put_mid used size buf x)
      told-short h =
          let k : ℕ = size_of r in
          let s = str-short fore aft a (omega (arith, told-size, alike.size, length-fore)) in
          let n : k ≡ (string a).size = told-size ∙ alike.size ∙ sym s.size ∙ sym (ap (λ (t : Str). t.size) both) in
          let t : take k x ≡ take (string a).size (string a).buffer =
          ap₂ take told-size told-buffer ∙ string-copied setup mem part a ∙ ap (bytes_at mem a) (sym told-size ∙ n) ∙ sym (string-copied setup mem (arg_buffer setup) a) in
          let rest : drop k x ≡ drop k part = ap₂ drop told-size told-buffer ∙ str-rest part a ∙ ap (λ (k : ℕ). drop k part) (sym told-size) in
          let all : x ≡ take k x ++ drop k part = sym (take-append-drop k x) ∙ ap (λ (y : List ℕ). take k x ++ y) rest in
          let j : used + size - used ≡ size = omega arith in
          let l : length (take k x) ≡ used + k - used = ap length t ∙ str-length (arg_buffer setup) a ∙ sym n ∙ (let z : k ≡ used + k - used = omega arith in z) in
          record {
            said = copied-is r x (string a) (told-access ∙ alike.access ∙ sym s.access ∙ sym (ap (λ (t : Str). t.access) both)) n;
            text = λ g.
                ap (put_mid used size buf) all ∙ rw j at (part-front buf x used size k told-most) ∙ put-part buf (take k x) used (used + k - used) l ∙ ap (put buf used) t;
          }

      -- and where it goes on
      module _ (h : size ≤ size_of r) where
        full : (copy_str setup mem fore a).size ≡ length fore
        full = omega (arith, told-size, told-most, alike.size, length-fore)

        pub told-low : a + size ≤ setup.uaddrtop
        told-low = omega (arith, length-fore, str-low fore a full (omega (arith, length-fore)))

        pub told-full : (d : List ℕ) (q : Result ℕ Unread) (y after : List ℕ) → length d ≡ used → copied q y ≡ copy_str setup mem d (a + size) → Told (arg_limit setup) (string a) used buf (behind size q) after
        told-full d q y after l e =
            let s = str-full fore aft a full in
            let m = str-alike d aft (a + size) (l ∙ (let z : used ≡ length aft = omega (arith, length-drop size (arg_buffer setup), buffer-length) in z)) in
            let f : copy_str setup mem aft (a + length fore) ≡ copy_str setup mem aft (a + size) = ap (λ (k : ℕ). copy_str setup mem aft (a + k)) length-fore in
            let more : size_of (behind size q) ≡ (string a).size =
            behind-size size q
            ∙ ap₂ ◌+◌ (sym length-fore) (sym (copied-size q y) ∙ ap (λ (t : Str). t.size) e ∙ m.size ∙ sym (ap (λ (t : Str). t.size) f)) ∙ sym (ap (λ (t : Str). t.size) both ∙ s.1) in
            record {
              said = copied-is (behind size q) y (string a) (behind-access size q y ∙ ap (λ (t : Str). t.access) e ∙ m.access ∙ sym (ap (λ (t : Str). t.access) both ∙ s.0 ∙ ap (λ (t : Str). t.access) f)) more;
              text = λ g. absurd (omega (arith, more, behind-size size q));
            }
