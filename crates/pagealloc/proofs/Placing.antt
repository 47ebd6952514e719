-- Loops that place a run of pages, each in the highest free frame below the one before.
use Prim.Native.Nat.{ℕ, zero, suc, ◌+◌, ◌-◌, ◌*◌, ◌/◌, ◌%◌, ◌≤◌, ◌<◌}
use native.Mathlib.Omega.{arith}
use native.Mathlib.Nat.{not-suc-le-zero}
use mathlib.Core.Path.{◌≡◌, refl, sym, ap, ap₂, subst, fun_ext, ◌∙◌}
use mathlib.Core.Bool.{Bool, false}
use Rattle.std.specs.Prelude.{Option, None, Some}
use mathlib.Core.List.{List, [], ◌∷◌, append-nil}
use lib.Dec.{eqb}
use lib.ListN.{length, replicate}
use borrow.Author.Tests.{eqb-true, eqb-false}
use Rattle.spec.specs.Tests.{within}
use Rattle.spec.specs.Numbers.{bytes_from, page_bytes, zero_page}
use Rattle.pagealloc.specs.Contents.{file_at}
use Rattle.spec.specs.Book.{word_of, frame_count, holders, highest, is_free, free_frame, segment}
use Rattle.spec.specs.Frames.{Store, enter, put, Page, pages_from, pages_of, hold, place, store}
use Rattle.spec.proofs.Bools.{split}
use Rattle.spec.proofs.Search.{hit, miss, highest-none}
use Rattle.spec.proofs.Enter.{enter-length, enter-count, holders-here, holders-else}
use Rattle.spec_laws.proofs.Lists.{by_order}
use Rattle.spec_laws.proofs.Place.{place_none}
use Rattle.pagealloc.specs.Lent.{Passed}

-- ---- one page

-- bytes put into frame k, and its mapping entered, hold a page there
pub held : (f b f' b' : List ℕ) (k at owner page perm w : ℕ) (bytes : List ℕ) → at ≡ 4096 * k → f' ≡ put f at bytes → w ≡ word_of page owner perm → b' ≡ enter b k owner w 1
    → store f' b' ≡ hold (store f b) owner (record { page = page; perm = perm; bytes = bytes }) (Some k)
held f b f' b' k at owner page perm w bytes ea ef ew eb = rw (eb, ef, ew, ea)

-- with no file bytes a page is zeros
zeros-from : (vaddr a k : ℕ) → bytes_from (file_at vaddr []) a k ≡ replicate k 0
zeros-from vaddr a zero = refl
zeros-from vaddr a (suc k) = ap₂ (λ (b : ℕ) (l : List ℕ). b ∷ l) (split (within vaddr (vaddr + 0) a) (λ q. rw q refl) (λ q. rw q refl)) (zeros-from vaddr (a + 1) k)

pub zero-pages : (vaddr : ℕ) → page_bytes (file_at vaddr []) ≡ zero_page
unfolding page_bytes zero_page
zero-pages vaddr = fun_ext (λ page. zeros-from vaddr page 4096)

-- ---- the search from a frame on

-- where nothing from c on passes, the highest is below c
highest-from : (t : ℕ → Bool) (b c : ℕ) → c ≤ b → ((k : ℕ) → c ≤ k → k < b → t k ≡ false) → highest t b ≡ highest t c
highest-from t zero c h f = let e : 0 ≡ c = omega arith in ap (highest t) e
highest-from t (suc b) c h f =
    split (eqb c (suc b))
    (λ q. ap (highest t) (sym (eqb-true c (suc b) q)))
    (λ q. let ne : c ≡ suc b → ⊥ = eqb-false c (suc b) q in rw (f b (omega arith) (omega arith)) (highest-from t b c (omega arith) (λ k l u. f k l (omega arith))))

-- nothing above the highest passes
highest-above : (t : ℕ → Bool) (c k : ℕ) → highest t c ≡ Some k → (j : ℕ) → k < j → j < c → t j ≡ false
highest-above t zero k e j l u = absurd (not-suc-le-zero u)
highest-above t (suc c) k e j l u =
    split (t c)
    (λ q. let s : Some c ≡ Some k = rw q at e in let w : c ≡ k = cc in absurd (omega arith))
    (λ q. split (eqb j c)
    (λ p. rw (eqb-true j c p) q)
    (λ p. let ne : j ≡ c → ⊥ = eqb-false j c p in highest-above t c k (rw q at e) j l (omega arith)))

module _ (book : List ℕ) (c : ℕ) (passed : Passed c book) where
  -- the frame found is the highest free frame
  pub free-found : (k : ℕ) → highest (is_free book) c ≡ Some k → (k < frame_count book) × (free_frame book ≡ Some k)
  free-found k e =
      (omega (arith, (hit (is_free book) c k e).0), highest-from (is_free book) (frame_count book) c passed.0 passed.1 ∙ e)

  pub free-word : (k : ℕ) → highest (is_free book) c ≡ Some k → holders book k ≡ 0
  free-word k e = eqb-true (holders book k) 0 (hit (is_free book) c k e).1

  -- once it is taken, no frame from it on is free
  pub passed-taken : (k n w : ℕ) → n ≤ 16 → highest (is_free book) c ≡ Some k → Passed k (enter book k n w 1)
  passed-taken k n w hi e =
      let low : k < frame_count book = (free-found k e).0 in
      let l = enter-count book k n w 1 in (
        omega arith,
        λ j u v. split (eqb j k)
            (λ q. rw (eqb-true j k q, holders-here book k n w 1 low hi) refl)
            (λ q. let ne : j ≡ k → ⊥ = eqb-false j k q in
            rw (holders-else book k n w 1 low hi j ne) (later e j (omega arith) (omega arith))),
      )
    where
      later : highest (is_free book) c ≡ Some k → (j : ℕ) → k < j → j < frame_count book → is_free book j ≡ false
      later f j u v = by_order j c (λ l. highest-above (is_free book) c k f j u l) (λ l. passed.1 j l v)

  -- where none is found, no frame is free
  pub passed_none : highest (is_free book) c ≡ None → Passed 0 book
  passed_none e =
      (omega arith, λ k u v. by_order k c (λ l. miss (is_free book) c e k l) (λ l. passed.1 k l v))

-- ---- a run of pages

-- what is left of a run, from a page on
abbrev pub run : (ℕ → List ℕ) → ℕ → ℕ → ℕ → List Page
run f perm end page = pages_from f perm page ((end - page) / 4096)

-- a loop has placed the pages before `page`, and none of the frames from c on is free: the whole run leaves what the rest does
pub record Ran (f : ℕ → List ℕ) (perm owner end first : ℕ) (m t : Store) (page c : ℕ) : Type 0 where
  pub frames : length t.frames ≡ length m.frames
  pub book : length t.book ≡ length m.book
  pub aligned : page % 4096 ≡ 0
  pub onward : first ≤ page
  pub passed : Passed c t.book
  pub rest : place m owner (run f perm end first) ≡ place t owner (run f perm end page)

pub ran-start : (f : ℕ → List ℕ) (perm owner end first : ℕ) (m : Store) (c : ℕ) → first % 4096 ≡ 0 → Passed c m.book → Ran f perm owner end first m m first c
ran-start f perm owner end first m c al passed = record { frames = refl; book = refl; aligned = al; onward = omega arith; passed = passed; rest = refl }

pub ran-at : (f : ℕ → List ℕ) (perm owner end first : ℕ) (m t : Store) (page c q : ℕ) → page ≡ q → Ran f perm owner end first m t page c → Ran f perm owner end first m t q c
ran-at f perm owner end first m t page c q e ran = subst (λ (p : ℕ). Ran f perm owner end first m t p c) e ran

module _ (f : ℕ → List ℕ) (perm owner end first : ℕ) (m t : Store) (page c : ℕ) (hi : owner ≤ 16) (ran : Ran f perm owner end first m t page c) where
  one : pages_of f (segment first end perm ∷ []) ≡ run f perm end first
  one = append-nil (run f perm end first)

  -- the next page takes the highest free frame
  pub ran-turn : end % 4096 ≡ 0 → page < end → (k : ℕ) → highest (is_free t.book) c ≡ Some k → (u : Store)
      → u ≡ hold t owner (record { page = page; perm = perm; bytes = f page }) (Some k) → length u.frames ≡ length t.frames
      → Ran f perm owner end first m u (page + 4096) k
  unfolding place
  ran-turn ae h k e u eu l =
      let p : Page = record { page = page; perm = perm; bytes = f page } in
      let left : List Page = run f perm end (page + 4096) in
      let w : ℕ = word_of page owner perm in
      let al = ran.aligned in
      let d : (end - page) / 4096 ≡ suc ((end - (page + 4096)) / 4096) = omega arith in
      let eb : u.book ≡ enter t.book k owner w 1 = ap (λ (x : Store). x.book) eu in
      let found = free-found t.book c ran.passed k e in
      record {
        frames = l ∙ ran.frames;
        book = ap length eb ∙ enter-length t.book k owner w 1 ∙ ran.book;
        aligned = omega arith;
        onward = omega (arith, ran.onward);
        passed = rw eb (passed-taken t.book c ran.passed k owner w hi e);
        rest =
            ran.rest ∙ ap (λ (j : ℕ). place t owner (pages_from f perm page j)) d ∙ ap (λ (o : Option ℕ). place (hold t owner p o) owner left) found.1
            ∙ ap (λ (x : Store). place x owner left) (sym eu);
      }

  -- no frame is left
  pub ran-full : highest (is_free t.book) c ≡ None → (t ≡ place m owner (pages_of f (segment first end perm ∷ []))) × Passed 0 t.book
  ran-full e =
      let none_left = passed_none t.book c ran.passed e in
      (sym (ap (place m owner) one ∙ ran.rest ∙ place_none t owner (run f perm end page) (highest-none (is_free t.book) (frame_count t.book) (λ k h. none_left.1 k (omega arith) h))), none_left)

  -- no page is left
  pub ran-end : end ≤ page → (t ≡ place m owner (pages_of f (segment first end perm ∷ []))) × Passed c t.book
  unfolding place
  ran-end h =
      let z : (end - page) / 4096 ≡ 0 = omega arith in
      (sym (ap (place m owner) one ∙ ran.rest ∙ ap (λ (k : ℕ). place t owner (pages_from f perm page k)) z), ran.passed)
