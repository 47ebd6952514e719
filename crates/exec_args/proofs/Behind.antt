-- Strings in a buffer, and pointers behind them: what stands there in the end, and the turns of finding each string by the NUL before it.
use Prim.Native.Nat.{ℕ, zero, suc, ◌+◌, ◌*◌, ◌-◌, ◌≤◌, ◌<◌}
use native.Mathlib.Omega.{arith}
use mathlib.Core.Path.{◌≡◌, refl, sym, ap, ap₂, ◌∙◌}
use mathlib.Core.Bool.{false}
use mathlib.Core.List.{List, [], ◌∷◌, ◌++◌, append_assoc}
use lib.ListN.{length, get_or, take, drop, length-append, length-drop}
use lib.Seq.{take-add, take-append-le, take-take, take-length, drop_at, drop-drop, length-take-le}
use borrow.Rule.Slice.PartMut.{put_mid, post_of, take_put}
use Rattle.spec.specs.Tests.{◌is◌, any, has}
use Rattle.spec.specs.Numbers.{le_bytes}
use Rattle.spec.specs.Frames.{put}
use Rattle.spec.specs.Exec.{strings, strings_at, pointers}
use Rattle.spec.proofs.Args.{length-pointers}
use Rattle.spec.proofs.Bools.{neither}
use Rattle.spec.proofs.Lists.{drop-next}
use Rattle.spec_laws.proofs.Lists.{put-append, put-part, length-put}
use Rattle.kstr.specs.Nul.{to_nul}
use Rattle.exec_args.specs.Laid.{Standing, Laid}

-- what stands before bytes that are put, and a part of a list
take-before : (d s : List ℕ) (n at : ℕ) → n ≤ at → at ≤ length d → take n (put d at s) ≡ take n d
take-before d s n at h l =
    let e : length (take at d) ≡ at = length-take-le at d l in
    let f = length-append (take at d) s in
    take-append-le n (take at d ++ s) (drop (at + length s) d) (omega arith) ∙ take-append-le n (take at d) s (omega arith) ∙ take-take n at d h

part_of : (d : List ℕ) (a e : ℕ) → a ≤ e → e ≤ length d → take (e - a) (drop a d) ≡ drop a (take e d)
part_of d a e h l =
    let k : a + (e - a) ≡ e = omega arith in
    sym (ap (drop a) (rw k at (take-add a (e - a) d)) ∙ drop_at (take a d) (take (e - a) (drop a d)) a (length-take-le a d (omega arith)))

-- ---- in the end

module _ (top : ℕ) (args : List (List ℕ)) (size : ℕ) (sized : size ≡ length (strings args)) where
  abbrev all : ℕ
  all = 8 * (length args + 1)

  pointers-at : pointers (top - size) args ≡ pointers (strings_at top args) args
  pointers-at = ap (λ (n : ℕ). pointers (top - n) args) sized

  -- a part behind the strings begins with the pointers
  pub laid-part : (b x : List ℕ) (k : ℕ) → size + all ≤ length (put_mid size k b x) → size ≤ length b → take size b ≡ strings args → all ≤ length x → take all x ≡ pointers (top - size) args
      → Laid top args size (put_mid size k b x)
  laid-part b x k h l s m p = record {
    sized = sized;
    fits = h;
    strings-are = take_put size k b x l ∙ s;
    pointers-are =
        ap (take all) (drop_at (take size b) (x ++ post_of size k b) size (length-take-le size b l))
        ∙ take-append-le all x (post_of size k b) m ∙ p ∙ pointers-at;
  }

  -- or the pointers are put there
  pub laid-put : (b d : List ℕ) → size + all ≤ length b → take size b ≡ strings args → d ≡ put b size (pointers (top - size) args) → Laid top args size d
  laid-put b d h s e =
      let n : length (pointers (top - size) args) ≡ all = length-pointers args (top - size) in
      let same : put_mid size all b (pointers (top - size) args) ≡ put b size (pointers (top - size) args) = put-part b (pointers (top - size) args) size all n in
      let l : length (put b size (pointers (top - size) args)) ≡ length b = length-put b (pointers (top - size) args) size (omega arith) in
      rw (e, ← same) (laid-part b (pointers (top - size) args) all (rw same (omega arith)) (omega arith) s (omega arith) (rw (← n) (take-length (pointers (top - size) args))))

-- ---- turn by turn

-- the first NUL stands behind a string
nul-found : (a r : List ℕ) → has 0 a ≡ false → to_nul (a ++ 0 ∷ r) ≡ length a
nul-found [] r e = refl
nul-found (x ∷ a) r e = let f = neither (x is 0) (has 0 a) e in rw f.0 (ap suc (nul-found a r f.1))

none-at : (args : List (List ℕ)) (i : ℕ) → any (has 0) args ≡ false → i < length args → has 0 (get_or args i []) ≡ false
none-at [] i e h = absurd (omega arith)
none-at (a ∷ args) zero e h = (neither (has 0 a) (any (has 0) args) e).0
none-at (a ∷ args) (suc i) e h = none-at args i (neither (has 0 a) (any (has 0) args) e).1 (omega arith)

-- the strings are as they were, those from i on begin at `from`, and their pointers would complete the buffer
pub record Along (first size : ℕ) (before : List ℕ) (args : List (List ℕ)) (buf : List ℕ) (from i : ℕ) : Type 0 where
  pub kept : take size buf ≡ strings args
  pub rest : drop from (strings args) ≡ strings (drop i args)
  pub more : put before size (pointers first args) ≡ put buf (size + 8 * i) (pointers (first + from) (drop i args))

pub along-none : (first size : ℕ) (buf : List ℕ) (args : List (List ℕ)) (count : ℕ) → Standing args (take size buf) count → Along first size buf args buf 0 0
along-none first size buf args count s =
    let a : size ≡ size + 8 * 0 = omega arith in
    let b : first ≡ first + 0 = omega arith in
    record { kept = s.bytes-are; rest = refl; more = ap₂ (λ (x y : ℕ). put buf x (pointers y args)) a b }

module _ (first size : ℕ) (before : List ℕ) (args : List (List ℕ)) (buf : List ℕ) (from i : ℕ) (none : any (has 0) args ≡ false) (h : i < length args)
    (room : size + 8 * (length args + 1) ≤ length buf) (along : Along first size before args buf from i) where
  abbrev text : List ℕ
  text = get_or args i []

  abbrev next : List ℕ
  next = put buf (size + 8 * i) (le_bytes 8 (first + from))

  abbrev later : List (List ℕ)
  later = drop (i + 1) args

  kept_next : take size next ≡ strings args
  kept_next = take-before buf (le_bytes 8 (first + from)) size (size + 8 * i) (omega arith) (omega arith) ∙ along.kept

  split_rest : drop from (strings args) ≡ text ++ 0 ∷ strings later
  split_rest = along.rest ∙ ap strings (drop-next args i [] h)

  pub along-room : length text + 1 + from ≤ length (strings args)
  along-room = omega (arith, length-drop from (strings args), ap length split_rest, length-append text (0 ∷ strings later))

  -- how far the next string is
  pub along-nul : size ≡ length (strings args) → to_nul (take (size - from) (drop from next)) ≡ length text
  along-nul e =
      let n : length next ≡ length buf = length-put buf (le_bytes 8 (first + from)) (size + 8 * i) (omega arith) in
      ap to_nul (part_of next from size (omega (arith, along-room)) (omega arith) ∙ ap (drop from) kept_next ∙ split_rest) ∙ nul-found text (strings later) (none-at args i none h)

  pub along-next : (t : ℕ) → t ≡ length text → Along first size before args next (from + (t + 1)) (i + 1)
  along-next t e =
      let n : length (text ++ 0 ∷ []) ≡ t + 1 = length-append text (0 ∷ []) ∙ omega arith in
      let a : size + 8 * (i + 1) ≡ size + 8 * i + 8 = omega arith in
      let b : first + (from + (t + 1)) ≡ first + from + length text + 1 = omega arith in
      record {
        kept = kept_next;
        rest = sym (drop-drop (t + 1) from (strings args)) ∙ ap (drop (t + 1)) (split_rest ∙ sym (append_assoc text (0 ∷ []) (strings later))) ∙ drop_at (text ++ 0 ∷ []) (strings later) (t + 1) n;
        more = along.more ∙ rw (a, b, drop-next args i [] h) (put-append buf (le_bytes 8 (first + from)) (pointers (first + from + length text + 1) later) (size + 8 * i) (omega arith));
      }
