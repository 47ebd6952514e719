-- Shared text and rodata: nobody notices, and what it saves. Text and rodata are counted once, data, bss and stack for each process.
use Prim.Native.Nat.{ℕ, zero, suc, ◌+◌, ◌*◌, ◌/◌, ◌<◌}
use native.Mathlib.Nat.{mul_comm, mul-suc}
use native.Mathlib.Omega.{arith}
use mathlib.Core.Path.{◌≡◌, refl, sym, ap, ◌∙◌}
use mathlib.Core.Bool.{Bool, true, not}
use mathlib.Core.List.{List, [], ◌∷◌, ◌++◌}
use lib.Dec.{eqb}
use borrow.Author.Tests.{eqb-false, eq-eqb}
use Rattle.spec.proofs.Bools.{split, both, clash, within-test}
use Rattle.spec.proofs.Counts.{count_none}
use Rattle.spec.proofs.Free.{free-place, length-pages, count-append, pokes-book}
use Rattle.spec.proofs.Taken.{start-takes}
use Rattle.spec.specs.Tests.{◌is◌, ◌isnt◌, all, filter}
use Rattle.spec.specs.Book.{valid, frame_count, mapping, holders, count_below, is_free, free, frame_of, stack, bss_segment, page_count, text_only, data_only, pieces_of, proc_at}
use Rattle.spec.specs.Frames.{pages_of, share, frame_bytes}
use Rattle.spec.specs.Program.{Program}
use Rattle.spec.specs.Image.{program_of}
use Rattle.spec.specs.Exec.{program_segments, program_bss, start_pieces, args_of}
use Rattle.spec.specs.Machine.{start, fork, Call, begins, forks, accepted, Outcome, outcome, Machine, begun, copied}
use Rattle.spec.specs.World.{State, taken, view, answer, after, copy}
use Rattle.spec.specs.History.{state, put, Begin}
use Rattle.spec.specs.Sharing.{calls, elsewhere, Family, one, one_more, Sharing}
use Rattle.spec.specs.declared.UserSegment.{UserSegment}
use Rattle.spec.specs.declared.Setup.{Setup}
use Rattle.spec.specs.declared.Form.{Form}
use Rattle.spec_laws.proofs.Lists.{Each}
use Rattle.spec_laws.proofs.Owned.{valid-means}
use Rattle.spec_laws.proofs.Place.{place-length}
use Rattle.spec_laws.proofs.Share.{unseen, share-length, free-share}
use Rattle.spec_history.proofs.Passed.{Good}
use Rattle.spec_history.proofs.Whole.{effect, good-after}
use Rattle.spec_history.proofs.OneState.{known, first}
use Rattle.spec_history.proofs.Accepted.{Forks, forks-child}
use Rattle.spec_history.proofs.EachCall.{each-call}
use Rattle.spec_history.proofs.Users.{put-else, lives-same, others-read, child-reads}
use Rattle.spec_history.proofs.Demand3.{laws}

-- ---- nobody notices

others : (n : ℕ) (g : List Call) → all (elsewhere n) g ≡ true → Each (λ c. n ≡ c.number → ⊥) g
others n [] e = tt
others n (c ∷ g) e =
    let b = both (elsewhere n c) (all (elsewhere n) g) e in
    (λ z. clash (elsewhere n c) b.0 (ap not (eq-eqb c.number n (sym z))), others n g b.1)

-- ---- pages counted

only-append : (t : UserSegment → Bool) (gs hs : List UserSegment) → filter t (gs ++ hs) ≡ filter t gs ++ filter t hs
only-append t [] hs = refl
only-append t (g ∷ gs) hs = split (t g) (λ q. rw q (ap (λ (x : List UserSegment). g ∷ x) (only-append t gs hs))) (λ q. rw q (only-append t gs hs))

-- pieces are text and data
text-data : (gs : List UserSegment) → page_count gs ≡ page_count (text_only gs) + page_count (data_only gs)
text-data [] = refl
text-data (g ∷ gs) = let h = text-data gs in split (g.perm is 3) (λ q. rw q (omega (arith, h))) (λ q. rw q (omega (arith, h)))

-- what a fork of a program copies is the data that its start took
begun-copied : (setup : Setup) (program : Program) (args : List (List ℕ)) → copied (begun setup program args) ≡ page_count (data_only (start_pieces setup program))
begun-copied setup program args =
    let gs : List UserSegment = program_segments program in
    let t : UserSegment → Bool = λ g. g.perm is 3 in
    let s : List UserSegment = stack setup ∷ [] in
    let b : List UserSegment = bss_segment (program_bss program) ∷ [] in
    let x : data_only ((gs ++ s) ++ b) ≡ (data_only gs ++ s) ++ b = only-append t (gs ++ s) b ∙ ap (λ (y : List UserSegment). y ++ b) (only-append t gs s) in
    ap page_count x ∙ count-append (data_only gs ++ s) b ∙ omega (arith, count-append (data_only gs) s, count-append (data_only gs) (bss_segment (program_bss program) ∷ s), ap page_count (only-append t gs (bss_segment (program_bss program) ∷ s)))

-- ---- frames counted

count-all : (t : ℕ → Bool) (c : ℕ) → ((k : ℕ) → k < c → t k ≡ true) → count_below t c ≡ c
count-all t zero h = refl
count-all t (suc c) h = let m = count-all t c (λ k l. h k (omega arith)) in rw (h c (omega arith)) (omega arith)

-- with no process every frame is free
all-free : (s : State) → Begin s → Good s → free s.store.book ≡ frame_count s.store.book
all-free s b g =
    let m = (known s g).facts.mappings in
    count-all (is_free s.store.book) (frame_count s.store.book)
    (λ k l. eq-eqb (holders s.store.book k) 0 (m.counts k l
    ∙ count_none (λ i. mapping s.store.book k (i + 1) isnt 0) 16 (λ i u. ap not (eq-eqb _ 0 (unseen s.store (i + 1) m (valid-one i u) (ap (λ (x : Machine). x.mem) (first s b (i + 1) (valid-one i u))) k l)))))
  where
    valid-one : (i : ℕ) → i < 16 → valid (i + 1) ≡ true
    valid-one i u = within-test 1 17 (i + 1) (omega arith) (omega arith)

-- frames are as many after a call
frames-start : (s : State) (n : ℕ) (form : Form) (image name bytes lengths : List ℕ) → outcome (answer s (calls n (start form image name bytes lengths))) ≡ accepted
    → frame_count (after s (calls n (start form image name bytes lengths))).store.book ≡ frame_count s.store.book
unfolding after
frames-start s n form image name bytes lengths e = rw (e, pokes-book, pokes-book) (ap (λ (k : ℕ). k / 17) (place-length s.store n _))

-- what a fork takes
module _ (s : State) (g : Good s) (n child : ℕ) (segments : List UserSegment) (e : outcome (answer s (calls n (fork child segments))) ≡ accepted) where
  took : Forks s n child
  took = forks-child s g n child segments e

  apart : child ≡ n → ⊥
  apart z = clash (taken s n) took.living (ap (taken s) (sym z) ∙ took.dead)

  abbrev pages : ℕ → List ℕ
  pages a = frame_bytes s.store.frames (frame_of s.store.book n a)

  left : after s (calls n (fork child segments)) ≡ copy s n child (proc_at s.procs n)
  unfolding after
  left = rw e

  frames-fork : frame_count (after s (calls n (fork child segments))).store.book ≡ frame_count s.store.book
  frames-fork =
      ap (λ (t : State). frame_count t.store.book) left
      ∙ ap (λ (k : ℕ). k / 17) (place-length (share s.store n child) child _ ∙ share-length s.store n child took.number took.child-number apart)

  free-fork : free (after s (calls n (fork child segments))).store.book + copied (view s n) ≡ free s.store.book
  free-fork =
      let gs : List UserSegment = data_only (pieces_of (proc_at s.procs n)) in
      let l = length-pages pages gs in
      let f = free-share s.store n child took.number took.child-number apart (known s g).facts.mappings in
      let p = free-place (share s.store n child) child (pages_of pages gs) (valid-means child took.child-number).1 (omega (arith, l, f, took.room)) in
      omega (arith, ap (λ (t : State). free t.store.book) left, l, f, p)

-- ---- a program and its forks

put-yes : {A : Type 0} (f : ℕ → A) (n q : ℕ) (x : A) → eqb q n ≡ true → put f n x q ≡ x
put-yes f n q x e = rw e

-- all who live would copy as much, and text is counted once
record Counted (s : State) (program : Program) (h : List Call) (k : ℕ) : Type 0 where
  frames : frame_count (state s h).store.book ≡ frame_count s.store.book
  alike : (q : ℕ) → valid q ≡ true → taken (state s h) q ≡ true → copied (view (state s h) q) ≡ page_count (data_only (start_pieces s.setup program))
  used : free (state s h).store.book + (page_count (text_only (start_pieces s.setup program)) + k * page_count (data_only (start_pieces s.setup program))) ≡ frame_count s.store.book

module _ (s : State) (b : Begin s) (form : Form) (image : List ℕ) where
  abbrev program : Program
  program = program_of s.setup form image

  good : (h : List Call) → Good (state s h)
  good h = good-after laws s b h

  counted : (h : List Call) (k : ℕ) → Family s form image h k → Counted s program h k
  unfolding effect
  counted h k (one n name bytes lengths e) =
      let c : Call = calls n (start form image name bytes lengths) in
      let r = each-call s (good []) c in
      let m : Machine = begun s.setup program (args_of bytes lengths) in
      let seen : (q : ℕ) → valid q ≡ true → view (after s c) q ≡ put (view s) n m q = λ q v. r.each q v ∙ ap (λ (o : Outcome). effect s.setup (view s) c begins o q) e in
      record {
        frames = frames-start s n form image name bytes lengths e;
        alike = λ q v t.
            split (eqb q n)
            (λ z. ap copied (seen q v ∙ put-yes (view s) n q m z) ∙ begun-copied s.setup program (args_of bytes lengths))
            (λ z. clash (taken (after s c) q) t (lives-same s (after s c) (good []) r.good q q v v (seen q v ∙ put-else (view s) n q m (eqb-false q n z)) ∙ b.nobody q));
        used = omega (arith, start-takes s n form image name bytes lengths e, all-free s b (good []), text-data (start_pieces s.setup program));
      }
  counted h k (one_more {h = earlier} {k = j} f n child segments e) =
      let c : Call = calls n (fork child segments) in
      let t : State = state s earlier in
      let i = counted earlier j f in
      let r = each-call t (good earlier) c in
      let w = took t (good earlier) n child segments e in
      let d : ℕ = page_count (data_only (start_pieces s.setup program)) in
      let mine : copied (view t n) ≡ d = i.alike n w.number w.living in
      let seen : (q : ℕ) → valid q ≡ true → view (after t c) q ≡ put (view t) child (view t n) q = λ q v. r.each q v ∙ ap (λ (o : Outcome). effect t.setup (view t) c (forks child segments) o q) e in
      record {
        frames = frames-fork t (good earlier) n child segments e ∙ i.frames;
        alike = λ q v u.
            split (eqb q child)
            (λ z. ap copied (seen q v ∙ put-yes (view t) child q (view t n) z) ∙ mine)
            (λ z.
            let x : view (after t c) q ≡ view t q = seen q v ∙ put-else (view t) child q (view t n) (eqb-false q child z) in
            ap copied x ∙ i.alike q v (sym (lives-same t (after t c) (good earlier) r.good q q v v x) ∙ u));
        used = omega (arith, free-fork t (good earlier) n child segments e, mine, i.used, mul_comm (suc j) d, mul-suc d j, mul_comm d j);
      }

pub sharing : Sharing
sharing = record {
  apart = λ s b h g n a v t e. others-read (state s h) (good-after laws s b h) n v t g (others n g e) a;
  child = λ s b h g n child a segments e o. child-reads (state s h) (good-after laws s b h) n child segments e g (others child g o) a;
  pupils = λ s b form image h k f. let c = counted s b form image h k f in omega (arith, c.frames, c.used);
}
