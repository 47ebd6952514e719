-- Laying the plan: one part more, one process more.
use Prim.Native.Nat.{ℕ, zero, suc, ◌+◌, ◌-◌, ◌*◌, ◌/◌, ◌%◌, ◌<◌, ◌≤◌}
use native.Mathlib.Omega.{arith}
use mathlib.Core.Path.{◌≡◌, refl, sym, ap, ◌∙◌}
use mathlib.Core.List.{List}
use lib.Dec.{ltb}
use lib.ListN.{length, get_or, set, length-set}
use lib.Seq.{get_or-set_same, get_or-set_other, ext_get_or}
use borrow.Author.Tests.{ltb-true, ltb-false, lt-ltb}
use borrow.Author.Count.{below_more}
use Rattle.spec.specs.Numbers.{bytes_from}
use Rattle.spec.specs.Book.{zero_segment, bss_segment, proc_at}
use Rattle.spec.specs.declared.UserSegment.{UserSegment}
use Rattle.spec.specs.declared.Proc.{Proc}
use Rattle.spec.specs.declared.Procs.{Procs}
use Rattle.spec.proofs.Bools.{split}
use Rattle.spec_laws.proofs.Contents.{length-bytes, get-bytes}
use Rattle.sound_plan.specs.Plan.{seat, part, max_pages, tag, size, sum_to, part_at, tag_at, base_at, tags_of, bases_of, Small, Laid, LaidTo, LaidAll}
use Rattle.sound_plan.proofs.Ranks.{sum-none, sum_more}

-- ---- the parts of a record

pub part-segment : (p : Proc) (j : ℕ) → j < 16 → seat (get_or p.segments j zero_segment) ≡ part p j
unfolding part
part-segment p j h = rw (lt-ltb j 16 h) refl

pub part-bss : (p : Proc) → bss_segment p.bss ≡ part p 16
unfolding part
part-bss p = refl

-- the pages of the first j parts
abbrev pages_to : Proc → ℕ → ℕ
pages_to p j = sum_to (λ i. size (part p i)) j

-- a store leaves the places before it
set_before : (l : List ℕ) (m x k : ℕ) → k < m → get_or (set l m x) k 0 ≡ get_or l k 0
set_before l m x k h = get_or-set_other l m k x 0 (λ e. omega arith)

pub laid_none : (p : Proc) (n total : ℕ) (tags bases : List ℕ) → total ≤ 17 * n * max_pages → length tags ≡ 272 → length bases ≡ 273
    → Laid p n total tags bases tags bases total 0
laid_none p n total tags bases h a b = record {
  tag_is = λ i l. absurd (omega arith);
  base-is = λ i l. absurd (omega arith);
  tags-before = λ k l. refl;
  bases-before = λ k l. refl;
  sum = omega (arith, sum-none (λ i. size (part p i)));
  bound = omega arith;
  tags-long = a;
  bases-long = b;
}

pub laid_more : (p : Proc) (n total : ℕ) (tags₀ bases₀ tags bases : List ℕ) (t j : ℕ) (g : UserSegment) → n < 16 → j < 17 → g ≡ part p j → Small g
    → Laid p n total tags₀ bases₀ tags bases t j
    → Laid p n total tags₀ bases₀ (set tags (17 * n + j) (tag (n + 1) g)) (set bases (17 * n + j) t) (t + size g) (j + 1)
laid_more p n total tags₀ bases₀ tags bases t j g hn hj e small r = record {
  tag_is = below_more (λ i. get_or (set tags (17 * n + j) (tag (n + 1) g)) (17 * n + i) 0 ≡ tag (n + 1) (part p i)) j
      (λ i l. set_before tags (17 * n + j) (tag (n + 1) g) (17 * n + i) (omega arith) ∙ r.tag_is i l)
      (get_or-set_same tags (17 * n + j) (tag (n + 1) g) 0 (omega (arith, r.tags-long)) ∙ ap (tag (n + 1)) e);
  base-is = below_more (λ i. get_or (set bases (17 * n + j) t) (17 * n + i) 0 ≡ total + pages_to p i) j
      (λ i l. set_before bases (17 * n + j) t (17 * n + i) (omega arith) ∙ r.base-is i l)
      (get_or-set_same bases (17 * n + j) t 0 (omega (arith, r.bases-long)) ∙ r.sum);
  tags-before = λ k l. set_before tags (17 * n + j) (tag (n + 1) g) k (omega arith) ∙ r.tags-before k l;
  bases-before = λ k l. set_before bases (17 * n + j) t k (omega arith) ∙ r.bases-before k l;
  sum = omega (arith, r.sum, sum_more (λ i. size (part p i)) j, ap size e);
  bound = omega (arith, r.bound, small.ordered, small.high);
  tags-long = length-set tags (17 * n + j) (tag (n + 1) g) ∙ r.tags-long;
  bases-long = length-set bases (17 * n + j) t ∙ r.bases-long;
}

pub laid-bss : (p : Proc) (n total : ℕ) (tags₀ bases₀ tags bases : List ℕ) (t j : ℕ) → n < 16 → j ≡ 16 → Small (bss_segment p.bss)
    → Laid p n total tags₀ bases₀ tags bases t j
    → Laid p n total tags₀ bases₀ (set tags (17 * n + 16) (tag (n + 1) (bss_segment p.bss))) (set bases (17 * n + 16) t) (t + size (bss_segment p.bss)) 17
laid-bss p n total tags₀ bases₀ tags bases t j hn e small r =
    laid_more p n total tags₀ bases₀ tags bases t 16 (bss_segment p.bss) hn (omega arith) (part-bss p) small (rw e at r)

-- ---- all processes

pub laidto-none : (ps : Procs) (tags bases : List ℕ) → length tags ≡ 272 → length bases ≡ 273 → LaidTo ps 0 tags bases 0
laidto-none ps tags bases a b = record {
  tag_is = λ k l. absurd (omega arith);
  base-is = λ k l. absurd (omega arith);
  sum = sym (sum-none (λ i. size (part_at ps i)));
  bound = omega arith;
  tags-long = a;
  bases-long = b;
}

-- the pages of one process go on from those before them
sum-split : (ps : Procs) (n j : ℕ) → j ≤ 17 → base_at ps (17 * n + j) ≡ base_at ps (17 * n) + pages_to (proc_at ps (n + 1)) j
unfolding sum_to
sum-split ps n zero h = let e : 17 * n + 0 ≡ 17 * n = omega arith in ap (base_at ps) e ∙ omega arith
sum-split ps n (suc j) h =
    let e : 17 * n + suc j ≡ suc (17 * n + j) = omega arith in
    let d : (17 * n + j) / 17 ≡ n = omega arith in
    let m : (17 * n + j) % 17 ≡ j = omega arith in
    let s : size (part_at ps (17 * n + j)) ≡ size (part (proc_at ps (n + 1)) j) = rw (d, m) refl in
    ap (base_at ps) e ∙ omega (arith, sum-split ps n j (omega arith))

pub laidto-more : (ps : Procs) (n : ℕ) (p : Proc) (tags₀ bases₀ tags bases : List ℕ) (t₀ t : ℕ) → p ≡ proc_at ps (n + 1) → LaidTo ps n tags₀ bases₀ t₀
    → Laid p n t₀ tags₀ bases₀ tags bases t 17 → LaidTo ps (n + 1) tags bases t
laidto-more ps n p tags₀ bases₀ tags bases t₀ t is r q = record {
  tag_is = λ k l. split (ltb k (17 * n))
      (λ h. let m = ltb-true k (17 * n) h in q.tags-before k m ∙ r.tag_is k m)
      (λ h. let m = ltb-false k (17 * n) h in tag-new k (k - 17 * n) (omega arith) (omega arith));
  base-is = λ k l. split (ltb k (17 * n))
      (λ h. let m = ltb-true k (17 * n) h in q.bases-before k m ∙ r.base-is k m)
      (λ h. let m = ltb-false k (17 * n) h in base-new k (k - 17 * n) (omega arith) (omega arith));
  sum =
      let e : 17 * n + 17 ≡ 17 * (n + 1) = omega arith in
      q.sum ∙ pages 17 (omega arith) ∙ ap (base_at ps) e;
  bound = omega (arith, q.bound);
  tags-long = q.tags-long;
  bases-long = q.bases-long;
}
  where
    pages : (j : ℕ) → j ≤ 17 → t₀ + pages_to p j ≡ base_at ps (17 * n + j)
    pages j h = ap (λ (x : ℕ). x + pages_to p j) r.sum ∙ ap (λ (x : Proc). base_at ps (17 * n) + pages_to x j) is ∙ sym (sum-split ps n j h)

    tag-new : (k j : ℕ) → 17 * n + j ≡ k → j < 17 → get_or tags k 0 ≡ tag_at ps k
    tag-new k j e h =
        let d : k / 17 ≡ n = omega arith in
        let m : k % 17 ≡ j = omega arith in
        rw (d, m) (ap (λ (x : ℕ). get_or tags x 0) (sym e) ∙ q.tag_is j h ∙ ap (λ (x : Proc). tag (n + 1) (part x j)) is)

    base-new : (k j : ℕ) → 17 * n + j ≡ k → j < 17 → get_or bases k 0 ≡ base_at ps k
    base-new k j e h = ap (λ (x : ℕ). get_or bases x 0) (sym e) ∙ q.base-is j h ∙ pages j (omega arith) ∙ ap (base_at ps) e

pub laid-all : (ps : Procs) (tags bases : List ℕ) (t n : ℕ) → n ≡ 16 → LaidTo ps n tags bases t → LaidAll ps tags (set bases 272 t) t
laid-all ps tags bases t n e r =
    let d : 17 * n ≡ 272 = omega arith in
    record {
      tag_is = λ k l. r.tag_is k (omega arith);
      base-is = λ m h. below_more (λ k. get_or (set bases 272 t) k 0 ≡ base_at ps k) 272
          (λ k l. set_before bases 272 t k l ∙ r.base-is k (omega arith))
          (get_or-set_same bases 272 t 0 (omega (arith, r.bases-long)) ∙ r.sum ∙ ap (base_at ps) d) m (omega arith);
      sum = r.sum ∙ ap (base_at ps) d;
      tags-long = r.tags-long;
      bases-long = length-set bases 272 t ∙ r.bases-long;
    }

-- ---- the plan as lists

-- a list that has f's values is f's list
pub list-from : (f : ℕ → ℕ) (n : ℕ) (l : List ℕ) → length l ≡ n → ((i : ℕ) → i < n → get_or l i 0 ≡ f i) → l ≡ bytes_from f 0 n
list-from f n l long e =
    ext_get_or 0 l (bytes_from f 0 n) (long ∙ sym (length-bytes f 0 n)) (λ i h.
    let m : i < n = omega (arith, long) in
    e i m ∙ ap f (omega arith) ∙ sym (get-bytes f 0 n i m))

module _ {ps : Procs} {tags bases : List ℕ} {total : ℕ} (r : LaidAll ps tags bases total) where
  pub tags-are : tags ≡ tags_of ps
  unfolding tags_of
  tags-are = list-from (tag_at ps) 272 tags r.tags-long r.tag_is

  pub bases-are : bases ≡ bases_of ps
  unfolding bases_of
  bases-are = list-from (base_at ps) 273 bases r.bases-long (λ i h. r.base-is i (omega arith))
