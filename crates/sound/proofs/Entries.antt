-- By the table that a sound book leaves a page's frame is the one that a search of the book finds.
use Prim.Native.Nat.{ℕ, ◌+◌, ◌-◌, ◌*◌, ◌/◌, ◌%◌, ◌<◌, ◌≤◌}
use native.Mathlib.Omega.{arith}
use mathlib.Core.Path.{◌≡◌, refl, sym, ap, ap₂, ◌∙◌, subst}
use mathlib.Core.Bool.{true}
use Rattle.std.specs.Prelude.{Option, None, Some, SomeIff}
use mathlib.Core.List.{List}
use lib.ListN.{get_or}
use Rattle.spec.specs.Book.{owner_of, page_of, valid, frame_count, mapping, frame_of}
use Rattle.spec.proofs.Bools.{within-test}
use Rattle.spec_laws.proofs.Frame.{frame_found, once-means, frame_is}
use Rattle.sound_plan.specs.Plan.{owner, hits, nth, rank}
use Rattle.sound_plan.proofs.Within.{hit-fact, rank_below, rank-word, hit-owner}
use Rattle.sound_table.specs.Table.{place_at, place_with, entry, first_of}
use Rattle.sound_table.proofs.Places.{with-found, option-some}
use Rattle.sound_table.proofs.Counting.{rank-own}
use Rattle.sound.specs.declared.Lookup.{Lookup}
use Rattle.sound.specs.Ready.{Ready}

-- a frame as an entry
abbrev pub frame_entry : Option ℕ → ℕ
frame_entry None = 0
frame_entry (Some k) = k + 1

-- an entry as an answer
pub answer : (r o : Option ℕ) (e : ℕ) → e ≡ frame_entry o → SomeIff r (1 ≤ e) (e - 1) → r ≡ o
answer None None e is s = refl
answer None (Some i) e is s = absurd (s (omega arith))
answer (Some j) None e is s = absurd (omega (arith, s.0))
answer (Some j) (Some i) e is s = ap Some (omega (arith, s.1))

pub found_none : (o : Option ℕ) → ((i : ℕ) → o ≡ Some i → ⊥) → None ≡ o
found_none None f = refl
found_none (Some i) f = absurd (f i refl)

-- the place of process n in frame k
pub place_of : (book : List ℕ) (k n : ℕ) → 1 ≤ n → n ≤ 16 → place_at book (16 * k + (n - 1)) ≡ mapping book k n
place_of book k n l h = ap₂ (mapping book) (omega arith) (omega arith)

module _ (b : List ℕ) (number : ℕ) (l : Lookup) (r : Ready b number l) where
  abbrev tags : List ℕ
  tags = l.plan.tags

  abbrev bases : List ℕ
  bases = l.plan.bases

  abbrev table : List ℕ
  table = l.table

  -- the entry of a rank of the process is its page's frame
  pub lookup : (w k : ℕ) → k < 272 → hits tags bases w k ≡ true → owner_of w ≡ number → get_or table (rank tags bases w k - first_of bases number) 0 ≡ frame_entry (frame_of b (owner_of w) (page_of w))
  lookup w k hk e of =
      let below = rank_below tags bases r.plan w k hk e in
      let o = option-some (place_with b (16 * frame_count b) (nth tags bases (rank tags bases w k))) (r.full (rank tags bases w k) below) in
      let i = with-found b (nth tags bases (rank tags bases w k)) (16 * frame_count b) o.0 o.1 in
      let is : place_at b o.0 ≡ w = i.1 ∙ rank-word tags bases r.plan w k hk e in
      let own = hit-owner tags bases r.plan w k hk e in
      let in-own = rank-own tags bases r.plan w k number hk e (own ∙ of) in
      let back : first_of bases number + (rank tags bases w k - first_of bases number) ≡ rank tags bases w k = omega (arith, in-own.0) in
      r.tabled.frames (rank tags bases w k - first_of bases number) in-own.1 ∙ ap (λ (t : ℕ). entry (place_with b (16 * frame_count b) (nth tags bases t))) back ∙ ap entry o.1 ∙ at o.0 i.0 is (some_word w (own-low k w own))
    where
      own-low : (k w : ℕ) → owner k ≡ owner_of w → 1 ≤ owner_of w
      own-low k w e = omega arith

      some_word : (w : ℕ) → 1 ≤ owner_of w → w ≡ 0 → ⊥
      some_word w l z = omega arith

      at : (i : ℕ) → i < 16 * frame_count b → place_at b i ≡ w → (w ≡ 0 → ⊥) → i / 16 + 1 ≡ frame_entry (frame_of b (owner_of w) (page_of w))
      at i h is nz =
          let l : i / 16 < frame_count b = omega arith in
          let v : valid (i % 16 + 1) ≡ true = within-test 1 17 (i % 16 + 1) (omega arith) (omega arith) in
          let used : mapping b (i / 16) (i % 16 + 1) ≡ 0 → ⊥ = λ z. nz (sym is ∙ z) in
          let ow : owner_of w ≡ i % 16 + 1 = ap owner_of (sym is) ∙ (r.mappings.words (i / 16) (i % 16 + 1) l v used).owner in
          let f = frame_is b (i % 16 + 1) (page_of w) (i / 16) (once-means b r.mappings (i % 16 + 1) v) l (record { used = used; owner = ap owner_of is ∙ ow; page = ap page_of is }) in
          sym (ap (λ (n : ℕ). frame_entry (frame_of b n (page_of w))) ow ∙ ap frame_entry f)

  -- a page that has a frame is of one of its owner's parts
  pub frame-hits : (n page i : ℕ) → 1 ≤ n → n ≤ 16 → frame_of b n page ≡ Some i
      → (k : ℕ) × (k < 272) × (owner k ≡ n) × (page % 4096 ≡ 0) × (hits tags bases (page + 16 * n + get_or tags k 0 % 16) k ≡ true)
  frame-hits n page i lo hi e =
      let m = frame_found b n page i e in
      let pl = place_of b i n lo hi in
      let k = r.planned.fits (16 * i + (n - 1)) (omega (arith, m.0)) (λ z. m.1.used (sym pl ∙ z)) in
      let h : hits tags bases (mapping b i n) k.0 ≡ true = subst (λ (x : ℕ). hits tags bases x k.0 ≡ true) pl k.2 in
      let own = hit-owner tags bases r.plan (mapping b i n) k.0 k.1 h in
      let f = hit-fact tags bases (mapping b i n) k.0 h in
      let w : mapping b i n ≡ page + 16 * n + get_or tags k.0 0 % 16 = word (mapping b i n) n page (get_or tags k.0 0) m.1.owner m.1.page f.from f.whole in
      (k.0, k.1, own ∙ m.1.owner, aligned (mapping b i n) page m.1.page, subst (λ (x : ℕ). hits tags bases x k.0 ≡ true) w h)
    where
      word : (w n page t : ℕ) → owner_of w ≡ n → page_of w ≡ page → t ≤ w → (w - t) % 4096 ≡ 0 → w ≡ page + 16 * n + t % 16
      word w n page t o p l z = omega arith

      aligned : (w page : ℕ) → page_of w ≡ page → page % 4096 ≡ 0
      aligned w page p = omega arith
