-- The plan that is laid: its ranks are exactly the pages that the records call for, and no two ranks have one page.
use Prim.Native.Nat.{ℕ, ◌+◌, ◌-◌, ◌*◌, ◌/◌, ◌%◌, ◌<◌, ◌≤◌}
use native.Mathlib.Omega.{arith}
use mathlib.Core.Path.{◌≡◌, refl, sym, ap, ◌∙◌}
use mathlib.Core.Bool.{true}
use Rattle.std.specs.Prelude.{Some}
use mathlib.Core.List.{List}
use lib.ListN.{get_or}
use borrow.Author.Tests.{eqb-true, eqb-false}
use Rattle.spec.specs.Tests.{◌is◌}
use Rattle.spec.specs.Book.{zero_segment, word_of, page_of, owner_of, perm_of, valid, in_segment, perm_at, proc_at, pieces_of}
use Rattle.spec.specs.Numbers.{SetupOk}
use Rattle.spec.specs.declared.Setup.{Setup}
use Rattle.spec.specs.declared.UserSegment.{UserSegment}
use Rattle.spec.specs.declared.Procs.{Procs}
use Rattle.spec.proofs.Bools.{split, within-means, within-test}
use Rattle.spec_laws.proofs.Lists.{Each}
use Rattle.spec_laws.proofs.Record.{Whole}
use Rattle.spec_laws.proofs.Owned.{valid-means, valid-test}
use Rattle.sound_records.specs.Records.{passes}
use Rattle.sound_plan.specs.Plan.{seat, part, tag, size, owner, part_at, hits, nth, Before, Plan, LaidAll}
use Rattle.sound_plan.proofs.Ranks.{sum-none, sum_more, base-up, nth-find, nth-at}
use Rattle.sound_plan.proofs.Within.{hit-test}
use Rattle.sound_plan.proofs.Parts.{Part, Perm, parts, Parts, each_part, part_gives, gives_part, part-one}
use Rattle.sound_plan.proofs.Seats.{seats-at, pass-seats}
use Rattle.sound_plan.proofs.Laying.{part-segment}
use Rattle.sound_plan.proofs.Passing.{top_part, top-perm, pass-perms, pass-parts}

-- page r of a part, its word taken apart
pub record Apart (g : UserSegment) (n w r : ℕ) : Type 0 where
  pub owner-is : owner_of w ≡ n
  pub page-is : page_of w ≡ g.range.start + 4096 * r
  pub perm_is : perm_of w ≡ g.perm
  pub to : g.range.start + 4096 * r < g.range.end

take-apart : {setup : Setup} (g : UserSegment) (n w r : ℕ) → Part setup g → Perm g → n ≤ 16 → r < size g → w ≡ tag n g + 4096 * r → Apart g n w r
take-apart g n w r p q hn hr e = record {
  owner-is = omega (arith, p.start-page, q.high);
  page-is = omega (arith, p.start-page, q.high);
  perm_is = omega (arith, p.start-page, q.high);
  to = omega (arith, p.ordered);
}

-- a word as a sound book has it
pub record Good (setup : Setup) (w : ℕ) : Type 0 where
  pub owner : (1 ≤ owner_of w) × (owner_of w ≤ 16)
  pub perm : (1 ≤ perm_of w) × (perm_of w ≤ 3)
  pub page : (setup.utzero ≤ page_of w) × (page_of w < setup.uaddrtop)

-- records that pass, and their plan
pub record Made (setup : Setup) (ps : Procs) (tags bases : List ℕ) (total : ℕ) : Type 0 where
  pub accepted : SetupOk setup
  pub whole : Whole ps
  pub ok : (n : ℕ) → valid n ≡ true → passes setup (proc_at ps n) ≡ true
  pub laid : LaidAll ps tags bases total

module _ {setup : Setup} {ps : Procs} {tags bases : List ℕ} {total : ℕ} (m : Made setup ps tags bases total) where
  abbrev base : ℕ → ℕ
  base k = get_or bases k 0

  -- ---- parts

  valid-owner : (k : ℕ) → k < 272 → valid (owner k) ≡ true
  valid-owner k h = valid-test (owner k) (omega arith) (omega arith)

  facts : (n : ℕ) → valid n ≡ true → Parts setup (proc_at ps n)
  facts n v = pass-parts setup m.accepted (proc_at ps n) (m.whole.each (n - 1)) (m.ok n v)

  perms : (n : ℕ) → valid n ≡ true → Each Perm (parts (proc_at ps n))
  perms n v = pass-perms setup (proc_at ps n) (m.whole.each (n - 1)) (m.ok n v)

  fact : (k : ℕ) → k < 272 → Part setup (part_at ps k)
  fact k h = each_part (Part setup) (top_part setup) (proc_at ps (owner k)) (m.whole.each (owner k - 1)).segments (facts (owner k) (valid-owner k h)).each (k % 17) (omega arith)

  perm : (k : ℕ) → k < 272 → Perm (part_at ps k)
  perm k h =
      each_part Perm top-perm (proc_at ps (owner k)) (m.whole.each (owner k - 1)).segments (perms (owner k) (valid-owner k h)) (k % 17) (omega arith)

  base_step : (k : ℕ) → k < 272 → base (k + 1) ≡ base k + size (part_at ps k)
  base_step k h = m.laid.base-is (k + 1) (omega arith) ∙ sum_more (λ i. size (part_at ps i)) k ∙ ap (λ (x : ℕ). x + size (part_at ps k)) (sym (m.laid.base-is k (omega arith)))

  rising : (k : ℕ) → k < 272 → base k ≤ base (k + 1)
  rising k h = omega (arith, base_step k h)

  pub base-total : base 272 ≡ total
  base-total = m.laid.base-is 272 (omega arith) ∙ sym m.laid.sum

  -- ---- ranks

  word-at : (k r : ℕ) → k < 272 → r < size (part_at ps k) → nth tags bases (base k + r) ≡ tag (owner k) (part_at ps k) + 4096 * r
  word-at k r h l = nth-at (λ i. get_or bases i 0) (λ i. get_or tags i 0) 272 rising k r h (omega (arith, base_step k h)) ∙ ap (λ (x : ℕ). x + 4096 * r) (m.laid.tag_is k h)

  -- a rank: its part, its page there and its word
  pub record Rank (t : ℕ) : Type 0 where
    pub k : ℕ
    pub r : ℕ
    pub there : k < 272
    pub at : base k + r ≡ t
    pub few : r < size (part_at ps k)
    pub word : nth tags bases t ≡ tag (owner k) (part_at ps k) + 4096 * r
    pub apart : Apart (part_at ps k) (owner k) (nth tags bases t) r
    pub inside : in_segment (page_of (nth tags bases t)) (part_at ps k) ≡ true

  rank-of : (t : ℕ) → t < base 272 → Rank t
  rank-of t h =
      let f = nth-find (λ i. get_or bases i 0) 272 t (m.laid.base-is 0 (omega arith) ∙ sum-none (λ i. size (part_at ps i))) h in
      let l : f.1 < size (part_at ps f.0) = omega (arith, base_step f.0 f.2, f.3, f.4) in
      let w : nth tags bases t ≡ tag (owner f.0) (part_at ps f.0) + 4096 * f.1 = ap (nth tags bases) (sym f.3) ∙ word-at f.0 f.1 f.2 l in
      let a = take-apart (part_at ps f.0) (owner f.0) (nth tags bases t) f.1 (fact f.0 f.2) (perm f.0 f.2) (omega (arith, f.2)) l w in
      record {
        k = f.0;
        r = f.1;
        there = f.2;
        at = f.3;
        few = l;
        word = w;
        apart = a;
        inside = within-test (part_at ps f.0).range.start (part_at ps f.0).range.end (page_of (nth tags bases t)) (omega (arith, a.page-is)) (omega (arith, a.page-is, a.to));
      }

  -- the word of a rank is of that part's page
  pub rank-hits : (t : ℕ) → t < base 272 → (k : ℕ) × (k < 272) × (hits tags bases (nth tags bases t) k ≡ true)
  rank-hits t h =
      let x = rank-of t h in
      let e : nth tags bases t ≡ get_or tags x.k 0 + 4096 * x.r = x.word ∙ ap (λ (y : ℕ). y + 4096 * x.r) (sym (m.laid.tag_is x.k x.there)) in (
        x.k,
        x.there,
        hit-test tags bases (nth tags bases t) x.k (record { from = omega (arith, e); whole = omega (arith, e); few = omega (arith, e, x.few, base_step x.k x.there) }),
      )

  -- it is a sound book's word
  pub rank-good : (t : ℕ) → t < base 272 → Good setup (nth tags bases t)
  rank-good t h =
      let x = rank-of t h in
      let p = fact x.k x.there in
      let q = perm x.k x.there in
      let some-page : (part_at ps x.k).range.start < (part_at ps x.k).range.end = omega (arith, x.apart.to) in
      record {
        owner = (omega (arith, x.apart.owner-is), omega (arith, x.apart.owner-is, x.there));
        perm = (omega (arith, x.apart.perm_is, q.low some-page), omega (arith, x.apart.perm_is, q.high));
        page = (omega (arith, x.apart.page-is, p.low some-page), omega (arith, x.apart.page-is, x.apart.to, p.inside some-page));
      }

  -- its page is its owner's, with its permission
  pub rank-gives : (t : ℕ) → t < base 272 → perm_at (pieces_of (proc_at ps (owner_of (nth tags bases t)))) (page_of (nth tags bases t)) ≡ Some (perm_of (nth tags bases t))
  rank-gives t h =
      let x = rank-of t h in
      let n : ℕ = owner x.k in
      ap (λ (x : ℕ). perm_at (pieces_of (proc_at ps x)) (page_of (nth tags bases t))) x.apart.owner-is
      ∙ part_gives setup (proc_at ps n) (m.whole.each (n - 1)) (facts n (valid-owner x.k x.there)) (perms n (valid-owner x.k x.there)) (x.k % 17) (page_of (nth tags bases t)) (omega arith) x.inside
      ∙ ap Some (sym x.apart.perm_is)

  -- and each page that a record calls for has a rank
  pub gives-rank : (n page q : ℕ) → valid n ≡ true → page % 4096 ≡ 0 → perm_at (pieces_of (proc_at ps n)) page ≡ Some q → (t : ℕ) × (t < base 272) × (nth tags bases t ≡ word_of page n q) × (q ≤ 3)
  gives-rank n page q v al e = (base k + r, below, word, rw g.3 at has-perm.high)
    where
      g : (j : ℕ) × (j < 17) × (in_segment page (part (proc_at ps n) j) ≡ true) × ((part (proc_at ps n) j).perm ≡ q)
      g = gives_part setup (proc_at ps n) (m.whole.each (n - 1)) (facts n v) (perms n v) page q e

      k : ℕ
      k = 17 * (n - 1) + g.0

      r : ℕ
      r = (page - (part (proc_at ps n) g.0).range.start) / 4096

      hk : k < 272
      hk = omega (arith, g.1, (valid-means n v).0, (valid-means n v).1)

      is-owner : owner (17 * (n - 1) + g.0) ≡ n
      is-owner = omega (arith, g.1, (valid-means n v).0)

      is-part : part_at ps k ≡ part (proc_at ps n) g.0
      is-part =
          let d : (17 * (n - 1) + g.0) % 17 ≡ g.0 = omega (arith, g.1) in
          rw (is-owner, d) refl

      in-part : ((part (proc_at ps n) g.0).range.start ≤ page) × (page < (part (proc_at ps n) g.0).range.end)
      in-part = within-means (part (proc_at ps n) g.0).range.start (part (proc_at ps n) g.0).range.end page g.2

      fits : Part setup (part (proc_at ps n) g.0)
      fits = each_part (Part setup) (top_part setup) (proc_at ps n) (m.whole.each (n - 1)).segments (facts n v).each g.0 g.1

      has-perm : Perm (part (proc_at ps n) g.0)
      has-perm = each_part Perm top-perm (proc_at ps n) (m.whole.each (n - 1)).segments (perms n v) g.0 g.1

      few : r < size (part_at ps k)
      few = rw is-part (omega (arith, in-part.0, in-part.1, fits.start-page, fits.end-page))

      below : base k + r < base 272
      below = omega (arith, base_step k hk, few, base-up (λ i. get_or bases i 0) 272 rising (k + 1) (omega (arith, hk)))

      word : nth tags bases (base k + r) ≡ word_of page n q
      word = word-at k r hk few ∙ ap (λ (x : UserSegment). tag (owner k) x + 4096 * r) is-part ∙ ap (λ (x : ℕ). tag x (part (proc_at ps n) g.0) + 4096 * r) is-owner
          ∙ omega (arith, in-part.0, fits.start-page, g.3)

  -- no two ranks have one word
  pub nth-apart : (t u : ℕ) → t < base 272 → u < base 272 → nth tags bases t ≡ nth tags bases u → t ≡ u
  nth-apart t u h l e =
      let x = rank-of t h in
      let y = rank-of u l in
      let o : owner x.k ≡ owner y.k = sym x.apart.owner-is ∙ ap owner_of e ∙ y.apart.owner-is in
      let n : ℕ = owner x.k in
      let d : x.k % 17 ≡ y.k % 17 = part-one setup (proc_at ps n) (m.whole.each (n - 1)) (facts n (valid-owner x.k x.there)) (perms n (valid-owner x.k x.there)) (x.k % 17) (y.k % 17) (page_of (nth tags bases t)) (omega arith) (omega arith)
      x.inside (rw (o, e) y.inside) in
      let kk : x.k ≡ y.k = omega (arith, o, d) in
      let ss : (part_at ps x.k).range.start ≡ (part_at ps y.k).range.start = ap (λ (k : ℕ). (part_at ps k).range.start) kk in
      let bb : base x.k ≡ base y.k = ap base kk in
      let pp : page_of (nth tags bases t) ≡ page_of (nth tags bases u) = ap page_of e in
      omega (arith, x.apart.page-is, y.apart.page-is, x.at, y.at)

  -- an owner's segments ascend
  before : (k l : ℕ) → owner k ≡ owner l → k < l → l < 272 → l % 17 < 16 → Before tags bases k l
  before k l o h hl seg =
      let n : ℕ = owner k in
      let p = proc_at ps n in
      let hk : k < 272 = omega arith in
      let ek = part-segment p (k % 17) (omega arith) in
      let el : seat (get_or p.segments (l % 17) zero_segment) ≡ part_at ps l = part-segment p (l % 17) seg ∙ ap (λ (x : ℕ). part (proc_at ps x) (l % 17)) o in
      let s = seats-at setup.utzero p.segments (pass-seats setup m.accepted p (m.whole.each (n - 1)) (m.ok n (valid-owner k hk))) (k % 17) (l % 17) (omega arith) (omega (arith, (m.whole.each (n - 1)).segments)) in
      let e : (part_at ps k).range.end ≤ (part_at ps l).range.start = rw (ek, el) at s.0 in
      let some-page : 1 ≤ (part_at ps k).perm → (part_at ps k).range.start < (part_at ps k).range.end = rw ek at s.1 in
      let x = fact k hk in
      let y = perm k hk in
      let tk = m.laid.tag_is k hk in
      let tl = m.laid.tag_is l hl in
      record {
        tag_up = split ((part_at ps k).perm is 0)
            (λ q. let z = eqb-true (part_at ps k).perm 0 q in omega (arith, x.ordered))
            (λ q. let z = eqb-false (part_at ps k).perm 0 q in omega (arith, some-page (omega arith), x.start-page, x.end-page, y.high));
        end-up = omega (arith, base_step k hk, x.ordered, x.start-page, x.end-page, y.high);
      }

  pub plan : total ≤ 16384 → Plan tags bases
  plan most = record {
    rising = rising;
    most = omega (arith, base-total);
    owner-is = λ k h. omega (arith, m.laid.tag_is k h, (fact k h).start-page, (perm k h).high);
    ascends = before;
    apart = nth-apart;
    some = λ t h z. let x = rank-good t h in omega (arith, x.owner.0, ap owner_of z);
  }
