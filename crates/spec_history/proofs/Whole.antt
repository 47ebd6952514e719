-- The claim about whole lists of calls follows from laws about one state and one call alone.
use Prim.Native.Nat.{ℕ}
use mathlib.Core.Path.{◌≡◌, refl, sym, ap, ap₂, ◌∙◌}
use mathlib.Core.Bool.{Bool, true, false, not}
use mathlib.Core.List.{List, [], ◌∷◌, map}
use lib.Dec.{eqb}
use lib.ListN.{length}
use borrow.Author.Tests.{eqb-true, eqb-false}
use Rattle.spec.specs.Tests.{◌is◌, ◌⇒◌else◌}
use Rattle.spec.specs.Numbers.{page_up}
use Rattle.spec.specs.Book.{valid, free, pieces, perm_at, proc_at}
use Rattle.spec.specs.Machine.{Ask, start, replace, push, break, fork, end, user-range-ok, copy-from-user, copy-to-user, try-copy-str-from-user, Call, Kind, begins, forks, plain, kind, Outcome, accepted, refused, ended, Reply, outcome, Machine, off, moved_to, run, feed, judge, lengths_fit, living}
use Rattle.spec.specs.World.{State, taken, view, alone_for, answer, readable, brk, settle, leave, after}
use Rattle.spec.specs.History.{state, Asked, Entry, entry, Lines, put, later, join, lines, machine, held, held_perm, Explained, Begin, Claim}
use Rattle.spec.specs.declared.UserSegment.{UserSegment}
use Rattle.spec.specs.declared.Setup.{Setup}
use Rattle.spec_history.proofs.Passed.{Good, answered, accepted≢, ended≢, passed, stray, stray-out}

-- ---- put

pub put-split : {A : Type 0} (P : A → Type 0) (f : ℕ → A) (n : ℕ) (x : A) (p : ℕ) → (p ≡ n → P x) → ((p ≡ n → ⊥) → P (f p)) → P (put f n x p)
put-split P f n x p h k = go (eqb p n) refl
  where
    go : (b : Bool) → eqb p n ≡ b → P (b ⇒ x else f p)
    go true e = h (eqb-true p n e)
    go false e = k (eqb-false p n e)

pub put_self : {A : Type 0} (f : ℕ → A) (n p : ℕ) (a : A) → a ≡ f n → put f n a p ≡ f p
put_self f n p a e = put-split (λ x. x ≡ f p) f n a p (λ q. e ∙ ap f (sym q)) (λ ne. refl)

put_map : {A B : Type 0} (g : A → B) (f : ℕ → A) (n p : ℕ) (a : A) → g (put f n a p) ≡ put (λ q. g (f q)) n (g a) p
put_map g f n p a = go (eqb p n)
  where
    go : (b : Bool) → g (b ⇒ a else f p) ≡ (b ⇒ g a else g (f p))
    go true = refl
    go false = refl

put-cong : {A : Type 0} (f g : ℕ → A) (n p : ℕ) (a b : A) → a ≡ b → f p ≡ g p → put f n a p ≡ put g n b p
put-cong f g n p a b e h = ap₂ (λ x y. eqb p n ⇒ x else y) e h

-- ---- what a call makes of every process's machine

module _ (setup : Setup) where
  unfoldable pub effect : (ℕ → Machine) → Call → Kind → Outcome → ℕ → Machine
  effect ms c begins accepted = put ms c.number (run (off setup) c.ask)
  effect ms c begins refused = ms
  effect ms c begins ended = ms
  effect ms c (forks child segments) accepted = put ms child (ms c.number)
  effect ms c (forks child segments) refused = ms
  effect ms c (forks child segments) ended = put ms c.number (off setup)
  effect ms c plain o = put ms c.number (feed (ms c.number) c.ask o)

  effect-cong : (ms ks : ℕ → Machine) → ((q : ℕ) → valid q ≡ true → ms q ≡ ks q) → (c : Call) (k : Kind) (o : Outcome) (p : ℕ) → valid p ≡ true
      → valid c.number ≡ true → effect ms c k o p ≡ effect ks c k o p
  unfolding effect
  effect-cong ms ks e c begins accepted p v w = put-cong ms ks c.number p _ _ refl (e p v)
  effect-cong ms ks e c begins refused p v w = e p v
  effect-cong ms ks e c begins ended p v w = e p v
  effect-cong ms ks e c (forks child segments) accepted p v w = put-cong ms ks child p _ _ (e c.number w) (e p v)
  effect-cong ms ks e c (forks child segments) refused p v w = e p v
  effect-cong ms ks e c (forks child segments) ended p v w = put-cong ms ks c.number p _ _ refl (e p v)
  effect-cong ms ks e c plain o p v w = put-cong ms ks c.number p _ _ (ap (λ m. feed m c.ask o) (e c.number w)) (e p v)

  pub effect-refused : (ms : ℕ → Machine) (c : Call) (k : Kind) (p : ℕ) → effect ms c k refused p ≡ ms p
  unfolding effect
  effect-refused ms c begins p = refl
  effect-refused ms c (forks child segments) p = refl
  effect-refused ms c plain p = put_self ms c.number p _ refl

-- ---- what begins and what forks

-- a process that forks goes on as it was
fork-idle : (m : Machine) (q : Ask) (child : ℕ) (segments : List UserSegment) → kind q ≡ forks child segments → run m q ≡ m
fork-idle m (start form image name bytes lengths) child segments e = cc
fork-idle m (replace form image name argv) child segments e = cc
fork-idle m (push pc top bytes lengths) child segments e = cc
fork-idle m (break addr) child segments e = cc
fork-idle m (fork c s) child segments e = refl
fork-idle m end child segments e = cc
fork-idle m (user-range-ok addr len write) child segments e = cc
fork-idle m (copy-from-user buffer src) child segments e = cc
fork-idle m (copy-to-user dst bytes) child segments e = cc
fork-idle m (try-copy-str-from-user buffer src) child segments e = cc

-- what begins a process asks nothing of its machine but the setup
begins-any : (m k : Machine) (f al : ℕ) (t : ℕ → Bool) (n : ℕ) (q : Ask) → m.setup ≡ k.setup → kind q ≡ begins
    → judge m f al t (record { number = n; ask = q }) ≡ judge k f al t (record { number = n; ask = q })
unfolding judge
begins-any m k f al t n (start form image name bytes lengths) u e = rw u
begins-any m k f al t n (replace form image name argv) u e = cc
begins-any m k f al t n (push pc top bytes lengths) u e = cc
begins-any m k f al t n (break addr) u e = cc
begins-any m k f al t n (fork c s) u e = cc
begins-any m k f al t n end u e = cc
begins-any m k f al t n (user-range-ok addr len write) u e = cc
begins-any m k f al t n (copy-from-user buffer src) u e = cc
begins-any m k f al t n (copy-to-user dst bytes) u e = cc
begins-any m k f al t n (try-copy-str-from-user buffer src) u e = cc

-- ---- the setup never changes

run-setup : (m : Machine) (q : Ask) → (run m q).setup ≡ m.setup
run-setup m (start form image name bytes lengths) = refl
run-setup m (replace form image name argv) = refl
run-setup m (push pc top bytes lengths) = refl
run-setup m (break addr) = go (eqb addr 0)
  where
    go : (b : Bool) → (b ⇒ m else moved_to (page_up addr) m).setup ≡ m.setup
    go true = refl
    go false = refl
run-setup m (fork child segments) = refl
run-setup m end = refl
run-setup m (user-range-ok addr len write) = refl
run-setup m (copy-from-user buffer src) = refl
run-setup m (copy-to-user dst bytes) = refl
run-setup m (try-copy-str-from-user buffer src) = refl

feed-setup : (m : Machine) (q : Ask) (o : Outcome) → (feed m q o).setup ≡ m.setup
feed-setup m q accepted = run-setup m q
feed-setup m q refused = refl
feed-setup m q ended = refl

machine-setup : (setup : Setup) (l : List Entry) → (machine setup l).setup ≡ setup
machine-setup setup [] = refl
machine-setup setup (e ∷ l) = feed-setup (machine setup l) e.asked.call.ask (outcome e.answered) ∙ machine-setup setup l

settle-setup : (s : State) (n : ℕ) (q : Ask) → (settle s n q).setup ≡ s.setup
settle-setup s n (start form image name bytes lengths) = refl
settle-setup s n (replace form image name argv) = refl
settle-setup s n (push pc top bytes lengths) = refl
settle-setup s n (break addr) = go (eqb addr 0)
  where
    go : (b : Bool) → (b ⇒ s else brk s n (proc_at s.procs n) (page_up addr)).setup ≡ s.setup
    go true = refl
    go false = refl
settle-setup s n (fork child segments) = refl
settle-setup s n end = refl
settle-setup s n (user-range-ok addr len write) = refl
settle-setup s n (copy-from-user buffer src) = refl
settle-setup s n (copy-to-user dst bytes) = refl
settle-setup s n (try-copy-str-from-user buffer src) = refl

pub after-setup : (s : State) (c : Call) → (after s c).setup ≡ s.setup
unfolding after
after-setup s c = go (outcome (answer s c))
  where
    go : (o : Outcome) → (leave s c o).setup ≡ s.setup
    go accepted = settle-setup s c.number c.ask
    go refused = refl
    go ended = refl

-- the setup is fixed through a history
pub state-setup : (s : State) (h : List Call) → (state s h).setup ≡ s.setup
state-setup s [] = refl
state-setup s (c ∷ h) = after-setup (state s h) c ∙ state-setup s h

-- ---- a line that grows

module _ (setup : Setup) where
  module _ (l : Lines) (e : Entry) (n p : ℕ) where
    after-later : e.asked.taken-before n ≡ true → machine setup (later l e n p) ≡ put (λ q. machine setup (l q)) n (feed (machine setup (l n)) e.asked.call.ask (outcome e.answered)) p
    after-later t = rw t (put_map (machine setup) l n p (e ∷ l n))

    after-idle : feed (machine setup (l n)) e.asked.call.ask (outcome e.answered) ≡ machine setup (l n) → machine setup (later l e n p) ≡ machine setup (l p)
    after-idle h = go (e.asked.taken-before n)
      where
        go : (b : Bool) → machine setup ((b ⇒ put l n (e ∷ l n) else l) p) ≡ machine setup (l p)
        go true = put_map (machine setup) l n p (e ∷ l n) ∙ put_self (λ q. machine setup (l q)) n p _ h
        go false = refl

  module _ (l : Lines) (m : Machine) (f al : ℕ) (t : ℕ → Bool) (c : Call) (a : Reply) (p : ℕ) where
    abbrev made : Entry
    made = record { asked = record { call = c; free-before = f; alone-before = al; taken-before = t }; answered = a }

    counted : (o : Outcome) → outcome a ≡ o → t c.number ≡ true → machine setup (later l made c.number p) ≡ put (λ q. machine setup (l q)) c.number (feed (machine setup (l c.number)) c.ask o) p
    counted o r lv = after-later l made c.number p lv ∙ ap (λ x. put (λ q. machine setup (l q)) c.number (feed (machine setup (l c.number)) c.ask x) p) r

    uncounted : (o : Outcome) → outcome a ≡ o → feed (machine setup (l c.number)) c.ask o ≡ machine setup (l c.number) → machine setup (later l made c.number p) ≡ machine setup (l p)
    uncounted o r h = after-idle l made c.number p (ap (λ x. feed (machine setup (l c.number)) c.ask x) r ∙ h)

    line-law : (k : Kind) (o : Outcome) → kind c.ask ≡ k → outcome a ≡ o → outcome (judge m f al t c) ≡ o
        → machine setup (join l made c.number k o p) ≡ effect setup (λ q. machine setup (l q)) c k o p
    unfolding effect
    line-law begins accepted q r e = put_map (machine setup) l c.number p (made ∷ []) ∙ ap (λ x. put (λ z. machine setup (l z)) c.number (feed (off setup) c.ask x) p) r
    line-law begins refused q r e = refl
    line-law begins ended q r e = refl
    line-law (forks child segments) accepted q r e =
        let idle : feed (machine setup (l c.number)) c.ask accepted ≡ machine setup (l c.number) = fork-idle (machine setup (l c.number)) c.ask child segments q in
        put_map (machine setup) (later l made c.number) child p (made ∷ l c.number)
        ∙ put-cong (λ z. machine setup (later l made c.number z)) (λ z. machine setup (l z)) child p _ _ (ap (λ x. feed (machine setup (l c.number)) c.ask x) r ∙ idle) (uncounted accepted r idle)
    line-law (forks child segments) refused q r e = uncounted refused r refl
    line-law (forks child segments) ended q r e =
        counted ended r (sym (ap (living t c.number) q) ∙ (passed m f al t c ended e ended≢).lives)
        ∙ ap (λ u. put (λ z. machine setup (l z)) c.number (off u) p) (machine-setup setup (l c.number))
    line-law plain accepted q r e = counted accepted r (sym (ap (living t c.number) q) ∙ (passed m f al t c accepted e accepted≢).lives)
    line-law plain refused q r e = uncounted refused r refl ∙ sym (put_self (λ z. machine setup (l z)) c.number p _ refl)
    line-law plain ended q r e = counted ended r (sym (ap (living t c.number) q) ∙ (passed m f al t c ended e ended≢).lives)

  -- ---- every answer of a grown line is explained

  later-told : (l : Lines) (e : Entry) (n p : ℕ) → Explained setup (e ∷ l n) → Explained setup (l p) → Explained setup (later l e n p)
  later-told l e n p x y = go (e.asked.taken-before n)
    where
      go : (b : Bool) → Explained setup ((b ⇒ put l n (e ∷ l n) else l) p)
      go true = put-split (Explained setup) l n (e ∷ l n) p (λ q. x) (λ ne. y)
      go false = y

  join-told : (l : Lines) (e : Entry) (p : ℕ) (k : Kind) (o : Outcome) → kind e.asked.call.ask ≡ k
      → Explained setup (e ∷ l e.asked.call.number) → Explained setup (l p) → Explained setup (join l e e.asked.call.number k o p)
  join-told l e p begins accepted q x y =
      put-split (Explained setup) l e.asked.call.number (e ∷ []) p
      (λ z. (x.0 ∙ begins-any _ _ e.asked.free-before e.asked.alone-before e.asked.taken-before e.asked.call.number e.asked.call.ask (machine-setup setup (l e.asked.call.number)) q, tt)) (λ ne. y)
  join-told l e p begins refused q x y = y
  join-told l e p begins ended q x y = y
  join-told l e p (forks child segments) accepted q x y =
      put-split (Explained setup) (later l e e.asked.call.number) child (e ∷ l e.asked.call.number) p (λ z. x) (λ ne. later-told l e e.asked.call.number p x y)
  join-told l e p (forks child segments) refused q x y = later-told l e e.asked.call.number p x y
  join-told l e p (forks child segments) ended q x y = later-told l e e.asked.call.number p x y
  join-told l e p plain o q x y = later-told l e e.asked.call.number p x y

-- ---- what is left to prove, of one state or of one call

pub record Laws : Type 0 where
  pub first : (s : State) → Begin s → (n : ℕ) → valid n ≡ true → view s n ≡ off s.setup
  pub kept : (s : State) → Good s → (c : Call) → Good (after s c)
  pub seen : (s : State) → Good s → (c : Call) (n : ℕ) → valid n ≡ true → view (after s c) n ≡ effect s.setup (view s) c (kind c.ask) (outcome (answer s c)) n
  pub reads : (s : State) → Good s → (n a : ℕ) → valid n ≡ true → readable s n a ≡ held (view s n) a
  pub pages : (s : State) → Good s → (n a : ℕ) → valid n ≡ true → held_perm (view s n) a ≡ perm_at (pieces (view s n).segments (view s n).bss) a
  pub numbers : (s : State) → Good s → (n : ℕ) → valid n ≡ true → taken s n ≡ not (length (view s n).segments is 0)

module _ (laws : Laws) (s : State) (b : Begin s) where
  pub good-after : (h : List Call) → Good (state s h)
  good-after [] = record { types = b.types; sizes = b.sizes; setup = b.setup; book = b.book }
  good-after (c ∷ h) = laws.kept (state s h) (good-after h) c

  abbrev Seen : List Call → Type 0
  Seen h = (p : ℕ) → valid p ≡ true → view (state s h) p ≡ machine s.setup (lines s h p)

  pub heard : (h : List Call) → Seen h → (c : Call) → answer (state s h) c ≡ judge (machine s.setup (lines s h c.number)) (free (state s h).store.book) (alone_for (state s h) c) (taken (state s h)) c
  heard h ih c = answered (state s h) (good-after h) c ∙ go (valid c.number) refl
    where
      go : (v : Bool) → valid c.number ≡ v
          → judge (view (state s h) c.number) (free (state s h).store.book) (alone_for (state s h) c) (taken (state s h)) c ≡ judge (machine s.setup (lines s h c.number)) (free (state s h).store.book) (alone_for (state s h) c) (taken (state s h)) c
      go true v = ap (λ m. judge m (free (state s h).store.book) (alone_for (state s h) c) (taken (state s h)) c) (ih c.number v)
      go false v = stray _ _ _ _ c v ∙ sym (stray _ _ _ _ c v)

  moved : (h : List Call) → Seen h → (c : Call) (p : ℕ) → valid p ≡ true
      → effect s.setup (view (state s h)) c (kind c.ask) (outcome (answer (state s h) c)) p ≡ effect s.setup (λ q. machine s.setup (lines s h q)) c (kind c.ask) (outcome (answer (state s h) c)) p
  moved h ih c p vp = go (valid c.number) refl
    where
      go : (v : Bool) → valid c.number ≡ v
          → effect s.setup (view (state s h)) c (kind c.ask) (outcome (answer (state s h) c)) p ≡ effect s.setup (λ q. machine s.setup (lines s h q)) c (kind c.ask) (outcome (answer (state s h) c)) p
      go true v = effect-cong s.setup (view (state s h)) (λ q. machine s.setup (lines s h q)) ih c (kind c.ask) (outcome (answer (state s h) c)) p vp v
      go false v =
          let out : outcome (answer (state s h) c) ≡ refused =
          ap outcome (answered (state s h) (good-after h) c ∙ stray (view (state s h) c.number) (free (state s h).store.book) (alone_for (state s h) c) (taken (state s h)) c v) ∙ stray-out (lengths_fit c.ask) c.ask in
          ap (λ o. effect s.setup (view (state s h)) c (kind c.ask) o p) out
          ∙ effect-refused s.setup (view (state s h)) c (kind c.ask) p ∙ ih p vp ∙ sym (effect-refused s.setup (λ q. machine s.setup (lines s h q)) c (kind c.ask) p)
          ∙ ap (λ o. effect s.setup (λ q. machine s.setup (lines s h q)) c (kind c.ask) o p) (sym out)

  pub seen-after : (h : List Call) → Seen h
  seen-after [] p v = laws.first s b p v
  seen-after (c ∷ h) p v =
      laws.seen (state s h) (good-after h) c p v
      ∙ ap (λ u. effect u (view (state s h)) c (kind c.ask) (outcome (answer (state s h) c)) p) (state-setup s h)
      ∙ moved h (seen-after h) c p v
      ∙ sym (line-law s.setup (lines s h) _ (free (state s h).store.book) (alone_for (state s h) c) (taken (state s h)) c (answer (state s h) c) p (kind c.ask) _ refl refl (ap outcome (sym (heard h (seen-after h) c))))

  told-after : (h : List Call) (p : ℕ) → Explained s.setup (lines s h p)
  told-after [] p = tt
  told-after (c ∷ h) p =
      join-told s.setup (lines s h) (entry (state s h) c (answer (state s h) c)) p (kind c.ask) _ refl (heard h (seen-after h) c, told-after h c.number) (told-after h p)

-- ---- two histories

entry-eq : (d e : Entry) → d.asked ≡ e.asked → d.answered ≡ e.answered → d ≡ e
entry-eq d e p q = λ i. record { asked = p i; answered = q i }

alike : (setup : Setup) (k l : List Entry) → Explained setup k → Explained setup l → map (λ e. e.asked) k ≡ map (λ e. e.asked) l → k ≡ l
alike setup [] [] x y q = refl
alike setup [] (e ∷ l) x y q = cc
alike setup (d ∷ k) [] x y q = cc
alike setup (d ∷ k) (e ∷ l) x y q =
    let same : k ≡ l = alike setup k l x.1 y.1 (cc) in
    let asked-same : d.asked ≡ e.asked = cc in
    ap₂ ◌∷◌ (entry-eq d e asked-same (x.0 ∙ ap₂ (λ (m : Machine) (q : Asked). judge m q.free-before q.alone-before q.taken-before q.call) (ap (machine setup) same) asked-same ∙ sym y.0)) same

pub claim : Laws → Claim
claim laws = record {
  setup = state-setup;
  bytes = λ s b h n a v. laws.reads (state s h) (good-after laws s b h) n a v ∙ ap (λ m. held m a) (seen-after laws s b h n v);
  pages = λ s b h n a v. rw (← seen-after laws s b h n v) (laws.pages (state s h) (good-after laws s b h) n a v);
  numbers = λ s b h n v. laws.numbers (state s h) (good-after laws s b h) n v ∙ ap (λ m. not (length m.segments is 0)) (seen-after laws s b h n v);
  answers = λ s b h n. told-after laws s b h n;
  alike = λ s t b c u h g n v q.
      let same : lines s h n ≡ lines t g n = alike s.setup (lines s h n) (lines t g n) (told-after laws s b h n) (rw u (told-after laws t c g n)) q in (
        ap (map (λ e. e.answered)) same,
        λ a.
            laws.reads (state s h) (good-after laws s b h) n a v
            ∙ ap (λ m. held m a) (seen-after laws s b h n v ∙ ap₂ machine u same ∙ sym (seen-after laws t c g n v))
            ∙ sym (laws.reads (state t g) (good-after laws t c g) n a v),
      );
}
