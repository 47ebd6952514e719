-- Bytes read and written page by page.
use Prim.Native.Nat.{ℕ, ◌+◌, ◌*◌, ◌-◌, ◌%◌, ◌≤◌}
use native.Mathlib.Omega.{arith}
use native.Mathlib.Nat.{add_assoc}
use mathlib.Core.Path.{◌≡◌, sym, ap, ◌∙◌}
use mathlib.Core.Bool.{Bool, true}
use Rattle.std.specs.Prelude.{None, Some}
use mathlib.Core.List.{List}
use lib.ListN.{length, get_or, take, drop, length-drop}
use lib.Seq.{length-take-le, get_or-take, get_or-drop, ext_get_or, take-add}
use borrow.Rule.Slice.PartMut.{put_mid}
use Rattle.spec.specs.Numbers.{page_down, bytes_from}
use Rattle.spec.specs.Book.{frame_count, frame_of}
use Rattle.spec.specs.Frames.{Store, Mem, cell_in, mem_of, put, pokes, store}
use Rattle.spec.specs.Access.{cell_ok, byte_of, bytes_at}
use Rattle.spec.proofs.Bools.{clash}
use Rattle.spec_laws.proofs.Frame.{frame_found}
use Rattle.spec_laws.proofs.Pokes.{pokes-append, pokes-page}
use Rattle.spec_laws.proofs.Contents.{length-bytes, get-bytes}
use Rattle.uaccess.proofs.Found.{page-none}
use Rattle.spec_laws.proofs.Overwrite.{mix, mix-part}

-- a page that may be used has a frame
pub unmapped : {P : Type 0} (write : Bool) (frames book : List ℕ) (n va : ℕ) → frame_of book n (page_down va) ≡ None → cell_ok write (mem_of (store frames book) n va) ≡ true → P
unmapped write frames book n va e h = clash _ h (sym (page-none write frames book n va e))

-- ---- reads

-- the bytes of an address in its page's frame are those that the process sees
pub bytes-page : (frames book : List ℕ) (n va k len : ℕ) → length frames ≡ 4096 * frame_count book → frame_of book n (page_down va) ≡ Some k → va % 4096 + len ≤ 4096
    → take len (drop (4096 * k + va % 4096) frames) ≡ bytes_at (mem_of (store frames book) n) va len
bytes-page frames book n va k len fits e h =
    let at : ℕ = 4096 * k + va % 4096 in
    let f : ℕ → ℕ = λ a. byte_of (mem_of (store frames book) n a) in
    let there = (frame_found book n (page_down va) k e).0 in
    let room = length-drop at frames in
    let l : length (take len (drop at frames)) ≡ len = length-take-le len (drop at frames) (omega arith) in
    ext_get_or 0 _ _ (l ∙ sym (length-bytes f va len))
    (λ i g.
    let p : page_down (va + i) ≡ page_down va = omega arith in
    let q : 4096 * k + (va + i) % 4096 ≡ at + i = omega arith in
    let cell : frame_of book n (page_down (va + i)) ≡ Some k = ap (frame_of book n) p ∙ e in
    get_or-take len (drop at frames) i 0 (omega arith) ∙ get_or-drop at frames i 0 ∙ ap (λ (j : ℕ). get_or frames j 0) (sym q)
    ∙ sym (get-bytes f va len i (omega arith) ∙ ap (λ (o : _). byte_of (cell_in (store frames book) n (va + i) o)) cell))

-- bytes further on are a part of all of them
pub bytes-part : (f : ℕ → ℕ) (a i n all : ℕ) → i + n ≤ all → bytes_from f (a + i) n ≡ take n (drop i (bytes_from f a all))
bytes-part f a i n all h =
    let l = length-bytes f a all in
    let m = length-bytes f (a + i) n in
    let r = length-drop i (bytes_from f a all) in
    let t : length (take n (drop i (bytes_from f a all))) ≡ n = length-take-le n (drop i (bytes_from f a all)) (omega arith) in
    ext_get_or 0 _ _ (m ∙ sym t)
    (λ j g.
    get-bytes f (a + i) n j (omega arith) ∙ ap f (add_assoc a i j)
    ∙ sym (get_or-take n (drop i (bytes_from f a all)) j 0 (omega arith) ∙ get_or-drop i (bytes_from f a all) j 0 ∙ get-bytes f a all (i + j) (omega arith)))

-- a part of the buffer is filled after those before it
pub read-turn : (mem : Mem) (a i n : ℕ) (d x : List ℕ) → i + n ≤ length d → x ≡ bytes_at mem (a + i) n
    → put_mid i (i + n - i) (mix (bytes_at mem a (length d)) d i) x ≡ mix (bytes_at mem a (length d)) d (i + n)
read-turn mem a i n d x h e =
    let f : ℕ → ℕ = λ b. byte_of (mem b) in
    mix-part (bytes_at mem a (length d)) d x i n (length-bytes f a (length d)) h (e ∙ bytes-part f a i n (length d) h)

-- ---- writes

-- bytes that are put into a page's frame are written
pub write-page : (frames g book bs : List ℕ) (n va k at : ℕ) → length frames ≡ 4096 * frame_count book → frame_of book n (page_down va) ≡ Some k → va % 4096 + length bs ≤ 4096
    → at ≡ 4096 * k + va % 4096 → g ≡ put frames at bs → store g book ≡ pokes (store frames book) n va bs
write-page frames g book bs n va k at fits e h ea eg =
    ap (λ (y : List ℕ). store y book) (eg ∙ ap (λ (j : ℕ). put frames j bs) ea) ∙ sym (pokes-page (store frames book) n va bs k fits e h)

-- a part of the bytes is written after those before it
pub write-turn : (m t u : Store) (n a i k : ℕ) (bs : List ℕ) → i + k ≤ length bs → t ≡ pokes m n a (take i bs) → u ≡ pokes t n (a + i) (take (i + k - i) (drop i bs)) → u ≡ pokes m n a (take (i + k) bs)
write-turn m t u n a i k bs h e g =
    let l : length (take i bs) ≡ i = length-take-le i bs (omega arith) in
    let d : i + k - i ≡ k = omega arith in
    let s = pokes-append m n a (take i bs) (take k (drop i bs)) in
    g ∙ rw (d, e) (sym (rw l at s)) ∙ ap (pokes m n a) (sym (take-add i k bs))
