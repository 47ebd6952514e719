-- Laws of one state: what its test says, what a dead number sees, which numbers are taken, which pages and bytes are seen.
use Prim.Native.Nat.{ℕ, suc, ◌-◌}
use native.Mathlib.Omega.{arith}
use mathlib.Core.Path.{◌≡◌, refl, sym, ap, ◌∙◌}
use mathlib.Core.Bool.{Bool, true, false, not}
use Rattle.std.specs.Prelude.{Option, None, Some}
use mathlib.Core.List.{List, [], ◌∷◌, ◌++◌}
use lib.ListN.{length}
use borrow.Author.Tests.{ne_eqb}
use Rattle.spec.proofs.Bools.{split, clash}
use Rattle.spec.proofs.Ranges.{access-passed, either, one-fine}
use Rattle.spec.specs.Tests.{◌is◌, ◌⇒◌else◌}
use Rattle.spec.specs.Numbers.{page_down}
use Rattle.spec.specs.Book.{valid, frame_of, lives, used, perm_at, pieces, proc_at}
use Rattle.spec.specs.Sound.{Sound}
use Rattle.spec.specs.Frames.{cell_in}
use Rattle.spec.specs.Access.{cell_ok, ◌names◌else◌, access, byte_of, bytes_at, Checked}
use Rattle.spec.specs.Machine.{copy-from-user, Call, Reply, outcome, refuse, judge, Machine, off}
use Rattle.spec.specs.World.{State, taken, view, given, readable}
use Rattle.spec.specs.History.{Begin, byte_in, held, held_perm}
use Rattle.spec.specs.declared.UserSegment.{UserSegment}
use Rattle.spec.specs.declared.Proc.{Proc}
use Rattle.spec.specs.declared.Answer.TheVariants.{Done, EndedAt}
use Rattle.spec_laws.proofs.Frame.{Fits, sized-fits, mem-perm}
use Rattle.spec_laws.proofs.Record.{Whole, typed-whole, dead-zero}
use Rattle.spec_laws.proofs.Shape.{shape-used}
use Rattle.spec_laws.proofs.Facts.{Shaped, sound-facts, sound-perm, dead-frame, found_between}
use Rattle.spec_history.proofs.Passed.{Good, good-setup, answered}

-- what a good state is known by
pub record Known (s : State) : Type 0 where
  pub whole : Whole s.procs
  pub fits : Fits s.store
  pub facts : Sound s.setup s.store.book s.procs

pub known : (s : State) → Good s → Known s
known s g =
    let w = typed-whole s g.types in
    record { whole = w; fits = sized-fits s.store g.sizes; facts = sound-facts s.setup (good-setup s g) s.store.book s.procs w g.book }

-- ---- a number is taken while its view holds segments

pub taken_is : (s : State) (n : ℕ) → valid n ≡ true → taken s n ≡ lives (proc_at s.procs n)
taken_is s n v = rw v

-- a living process's record has its shape
pub living-shape : (s : State) → Good s → (n : ℕ) → valid n ≡ true → taken s n ≡ true → Shaped s.setup (proc_at s.procs n)
living-shape s g n v t = (known s g).facts.shape n v (sym (taken_is s n v) ∙ t)

some-there : (gs : List UserSegment) (g : UserSegment) → not (length (gs ++ g ∷ []) is 0) ≡ true
some-there [] g = refl
some-there (h ∷ gs) g = ap not (ne_eqb (suc (length (gs ++ g ∷ []))) 0 (λ z. omega arith))

pub numbers : (s : State) → Good s → (n : ℕ) → valid n ≡ true → taken s n ≡ not (length (view s n).segments is 0)
numbers s g n v =
    let k = known s g in
    let p : Proc = proc_at s.procs n in
    taken_is s n v
    ∙ split (lives p)
    (λ q. let h = k.facts.shape n v q in q ∙ sym (ap (λ (x : List UserSegment). not (length x is 0)) (shape-used s.setup p h.0 h.1) ∙ some-there h.0 _))
    (λ q. q ∙ sym (ap (λ (x : Proc). not (length (used x.segments) is 0)) (dead-zero p (k.whole.each (n - 1)) q)))

-- ---- a dead number sees nothing

pub dead-view : (s : State) → Good s → (n : ℕ) → valid n ≡ true → taken s n ≡ false → view s n ≡ off s.setup
dead-view s g n v t =
    let k = known s g in
    let d : lives (proc_at s.procs n) ≡ false = sym (taken_is s n v) ∙ t in
    let p = dead-zero (proc_at s.procs n) (k.whole.each (n - 1)) d in
    let cell : (a : ℕ) → (view s n).mem a ≡ None = λ a. ap (cell_in s.store n a) (dead-frame s.setup s.store.book s.procs k.whole k.facts n v d (page_down a)) in
    λ i. record { setup = s.setup; segments = used (p i).segments; bss = (p i).bss; mem = λ a. cell a i }

begins-good : (s : State) → Begin s → Good s
begins-good s b = record { types = b.types; sizes = b.sizes; setup = b.setup; book = b.book }

pub first : (s : State) → Begin s → (n : ℕ) → valid n ≡ true → view s n ≡ off s.setup
first s b n v = dead-view s (begins-good s b) n v (b.nobody n)

-- ---- a process sees exactly its record's pages, with their permissions

pub pages : (s : State) → Good s → (n a : ℕ) → valid n ≡ true → held_perm (view s n) a ≡ perm_at (pieces (view s n).segments (view s n).bss) a
pages s g n a v = let k = known s g in mem-perm s.store n a ∙ sound-perm s.setup s.store.book s.procs k.whole k.facts n a v

-- ---- readable

abbrev one_byte : ℕ → ℕ → Call
one_byte n a = record { number = n; ask = copy-from-user (0 ∷ []) a }

-- the replies of copy_from_user of one byte, by its check
abbrev byte-reply : State → ℕ → ℕ → Checked → Reply
byte-reply s n a t = t names (λ address. record { says = EndedAt address; buffer = 0 ∷ [] }) else record { says = Done; buffer = bytes_at (view s n).mem a 1 }

read-chain : (v t : Bool) (x y z : Reply) → v ≡ true → (not v ⇒ x else not t ⇒ y else z) ≡ (not t ⇒ y else z)
read-chain v t x y z p = rw p

abbrev given-of : Reply → Option ℕ
given-of x = given x (outcome x)

-- one byte may be read exactly where a page is found
one_byte_lem : (s : State) → Good s → (n a : ℕ) → valid n ≡ true → (o : Option ℕ) → frame_of s.store.book n (page_down a) ≡ o
    → given-of (byte-reply s n a (access s.setup (view s n).mem false a 1)) ≡ byte_in (cell_in s.store n a o)
one_byte_lem s g n a v None e =
    either (access s.setup (view s n).mem false a 1)
    (λ q.
    let passed = ((access-passed s.setup (view s n).mem false a 1 q).each a (omega arith) (omega arith)).1 in
    clash false (sym (ap (λ (o : Option ℕ). cell_ok false (cell_in s.store n a o)) e) ∙ passed) refl)
    (λ b q. ap (λ (t : Checked). given-of (byte-reply s n a t)) q)
one_byte_lem s g n a v (Some k) e =
    let low = (found_between s.setup s.store.book s.procs (known s g).facts n a k v e).1 in
    ap (λ (t : Checked). given-of (byte-reply s n a t)) (one-fine s.setup (view s n).mem false a (low, ap (λ (o : Option ℕ). cell_ok false (cell_in s.store n a o)) e))
    ∙ ap (λ (o : Option ℕ). Some (byte_of (cell_in s.store n a o))) e

pub reads : (s : State) → Good s → (n a : ℕ) → valid n ≡ true → readable s n a ≡ held (view s n) a
unfolding judge
reads s g n a v =
    let z : Reply = byte-reply s n a (access s.setup (view s n).mem false a 1) in
    ap given-of (answered s g (one_byte n a) ∙ read-chain (valid n) (taken s n) (refuse 3 (one_byte n a).ask) (refuse 4 (one_byte n a).ask) z v)
    ∙ split (taken s n)
    (λ t. ap (λ (b : Bool). given-of (not b ⇒ refuse 4 (one_byte n a).ask else z)) t ∙ one_byte_lem s g n a v (frame_of s.store.book n (page_down a)) refl)
    (λ t. ap (λ (b : Bool). given-of (not b ⇒ refuse 4 (one_byte n a).ask else z)) t ∙ sym (ap (λ (m : Machine). held m a) (dead-view s g n v t)))
