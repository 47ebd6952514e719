-- What a program's author asks: whose bytes a call changes, what a child, a start and a moved break find, where a program's arguments
-- are, which starts fit, and what a bad address that is named tells.
-- Of any good state, and so after any list of calls.
use Rattle.std.specs.Prelude.{Err, None, Some}
use Prim.Native.Nat.{ℕ, ◌+◌, ◌-◌, ◌≤◌, ◌<◌}
use native.Mathlib.Omega.{arith}
use mathlib.Core.Path.{◌≡◌, refl, sym, ap, ◌∙◌}
use mathlib.Core.Bool.{Bool, true, false, not}
use mathlib.Core.List.{List, [], ◌∷◌, map}
use lib.ListN.{length}
use borrow.Author.Tests.{eq-eqb, ne_eqb}
use Rattle.spec.proofs.Args.{args-means}
use Rattle.spec.proofs.Ranges.{access-means, one-fine}
use Rattle.spec.proofs.Bools.{clash, neither, not-true, not-above, not-false, within-test, within-not}
use Rattle.spec.specs.Tests.{◌is◌, ◌isnt◌, ◌above◌, within, ◌⇒◌else◌, any, same, sum}
use Rattle.spec.specs.Numbers.{arg_limit, page_up}
use Rattle.spec.specs.Book.{valid, free, alone, same_segment, perm_at, page_count}
use Rattle.spec.specs.Access.{◌names◌else◌, access, Checked}
use Rattle.spec.specs.Program.{Segment, in_file, Program}
use Rattle.spec.specs.Image.{program_of}
use Rattle.spec.specs.Exec.{image_error, start_pieces, file_byte, loaded, args_of, strings, args_error, strings_at, argv_at, registers, pointers, pushed, args_read, copy_argv}
use Rattle.spec.specs.Segment.{moved}
use Rattle.spec.specs.Machine.{Ask, start, replace, push, break, fork, end, user-range-ok, Call, Kind, begins, forks, plain, kind, Outcome, accepted, refused, ended, outcome, number_of, value_of, plainly, Machine, off, begun, feed, copied, numbered, living, unclaimed, judge}
use Rattle.spec.specs.World.{State, taken, view, alone_for, answer, readable, after}
use Rattle.spec.specs.History.{state, put, lines, machine, byte_in, held, Begin, ArgsAt}
use Rattle.spec.specs.declared.UserSegment.{UserSegment}
use Rattle.spec.specs.declared.UserRegs.{UserRegs}
use Rattle.spec.specs.declared.Answer.{Answer}
use Rattle.spec.specs.declared.Answer.TheVariants.{Regs, Value, Done, No, Refused}
use Rattle.spec.specs.declared.Setup.{Setup}
use Rattle.spec.specs.declared.Form.{Form}
use Rattle.spec_laws.proofs.Lists.{Each}
use Rattle.spec_history.proofs.Passed.{Good, answered, accepted≢, weighs}
use Rattle.spec_history.proofs.Whole.{effect, good-after, seen-after}
use Rattle.spec_history.proofs.OneState.{reads, numbers}
use Rattle.spec_history.proofs.Accepted.{not-refused, starts, breaks, forks-child, ends}
use Rattle.spec_history.proofs.Ended.{forget-free}
use Rattle.spec_history.proofs.EachCall.{each-call}
use Rattle.spec_history.proofs.Arguments.{args_read_lem}
use Rattle.spec_history.proofs.Demand3.{laws}
use Rattle.spec_history.proofs.Named.{named, check, to_write, fed, fed-same, Names, weigh-names, named-passed, one-no, check-unreached, no-page-0, answer-tells}

abbrev call : ℕ → Ask → Call
call n q = record { number = n; ask = q }

pub put-here : {A : Type 0} (f : ℕ → A) (n : ℕ) (x : A) → put f n x n ≡ x
put-here f n x = rw (eq-eqb n n refl)

pub put-else : {A : Type 0} (f : ℕ → A) (n q : ℕ) (x : A) → (q ≡ n → ⊥) → put f n x q ≡ f q
put-else f n q x ne = rw (ne_eqb q n ne)

-- what is readable after a call whose outcome is known
reads-after : (s : State) → Good s → (c : Call) (o : Outcome) → outcome (answer s c) ≡ o → (q a : ℕ) → valid q ≡ true → readable (after s c) q a ≡ held (effect s.setup (view s) c (kind c.ask) o q) a
reads-after s g c o e q a v =
    let r = each-call s g c in
    reads (after s c) r.good q a v ∙ ap (λ (m : Machine). held m a) (r.each q v ∙ ap (λ (x : Outcome). effect s.setup (view s) c (kind c.ask) x q) e)

-- ---- whose bytes a call changes

-- no call changes what another living process sees
others-view : (s : State) → Good s → (c : Call) (q : ℕ) → valid q ≡ true → taken s q ≡ true → (q ≡ c.number → ⊥) → view (after s c) q ≡ view s q
unfolding effect
others-view s g c q v t ne = (each-call s g c).each q v ∙ go (kind c.ask) refl (outcome (answer s c)) refl
  where
    go : (k : Kind) → kind c.ask ≡ k → (o : Outcome) → outcome (answer s c) ≡ o → effect s.setup (view s) c k o q ≡ view s q
    go begins x accepted e = put-else (view s) c.number q _ ne
    go begins x refused e = refl
    go begins x ended e = refl
    go (forks child segments) x accepted e =
        let new : not (taken s child) ≡ true = ap (unclaimed (taken s) c.number) (sym x) ∙ (not-refused s g c accepted e accepted≢).new in
        put-else (view s) child q _ (λ z. clash (taken s q) t (ap (taken s) z ∙ not-true (taken s child) new))
    go (forks child segments) x refused e = refl
    go (forks child segments) x ended e = put-else (view s) c.number q (off s.setup) ne
    go plain x o e = put-else (view s) c.number q _ ne

-- who sees the same lives as before
pub lives-same : (s t : State) → Good s → Good t → (q p : ℕ) → valid q ≡ true → valid p ≡ true → view t q ≡ view s p → taken t q ≡ taken s p
lives-same s t g h q p v w e = numbers t h q v ∙ ap (λ (m : Machine). not (length m.segments is 0)) e ∙ sym (numbers s g p w)

-- nor does any list of calls of others
others_keep : (s : State) → Good s → (q : ℕ) → valid q ≡ true → taken s q ≡ true → (h : List Call) → Each (λ c. q ≡ c.number → ⊥) h
    → Good (state s h) × (view (state s h) q ≡ view s q)
others_keep s g q v t [] ne = (g, refl)
others_keep s g q v t (c ∷ h) ne =
    let r = others_keep s g q v t h ne.1 in (
      (each-call (state s h) r.0 c).good,
      others-view (state s h) r.0 c q v (lives-same s (state s h) g r.0 q q v v r.1 ∙ t) ne.0 ∙ r.1,
    )

-- so a process's readable bytes change by its own calls alone
pub others-read : (s : State) → Good s → (q : ℕ) → valid q ≡ true → taken s q ≡ true → (h : List Call) → Each (λ c. q ≡ c.number → ⊥) h → (a : ℕ) → readable (state s h) q a ≡ readable s q a
others-read s g q v t h ne a =
    let r = others_keep s g q v t h ne in
    reads (state s h) r.0 q a v ∙ ap (λ (m : Machine). held m a) r.1 ∙ sym (reads s g q a v)

-- ---- bad addresses (request 4)

-- a call that names one is a living process's, which has a number
record Living (s : State) (n : ℕ) (q : Ask) (a : ℕ) : Type 0 where
  number : valid n ≡ true
  lives : taken s n ≡ true
  told : Names (view s n) (free s.store.book) (alone_for s (call n q)) q a

named-lives : (s : State) → Good s → (n : ℕ) (q : Ask) (a : ℕ) → named (answer s (call n q)).says ≡ Some a → Living s n q a
named-lives s g n q a e =
    let p = named-passed s g (call n q) a e in
    let w = weigh-names (view s n) (free s.store.book) (alone_for s (call n q)) q a p.weighed in
    record { number = sym (ap (numbered n) w.own) ∙ p.number; lives = sym (ap (living (taken s) n) w.own) ∙ p.lives; told = w }

-- a process that holds the same gets the same answer
named-same : (s t : State) → Good s → Good t → (n : ℕ) (q : Ask) (a : ℕ) → view t n ≡ view s n → named (answer s (call n q)).says ≡ Some a → answer t (call n q) ≡ answer s (call n q)
named-same s t g h n q a same e =
    let p = named-passed s g (call n q) a e in
    let l = named-lives s g n q a e in
    let k = l.told.own in
    let lives : living (taken t) n (kind q) ≡ true = ap (living (taken t) n) k ∙ lives-same s t g h n n l.number l.number same ∙ l.lives in
    let new : unclaimed (taken t) n (kind q) ≡ true = ap (unclaimed (taken t) n) k in
    answered t h (call n q)
    ∙ ap (λ (m : Machine). judge m (free t.store.book) (alone_for t (call n q)) (taken t) (call n q)) same
    ∙ weighs (view s n) (free t.store.book) (alone_for t (call n q)) (taken t) (call n q) p.lengths p.list p.number lives new
    ∙ l.told.whatever-is-free (free t.store.book) (alone_for t (call n q))
    ∙ sym (answered s g (call n q) ∙ weighs (view s n) (free s.store.book) (alone_for s (call n q)) (taken s) (call n q) p.lengths p.list p.number p.lives p.new)

answers-range : (s : State) → Good s → (n addr len : ℕ) (write : Bool) → valid n ≡ true → taken s n ≡ true
    → answer s (call n (user-range-ok addr len write)) ≡ plainly (access s.setup (view s n).mem write addr len names No else Value 1)
answers-range s g n addr len write v t =
    answered s g (call n (user-range-ok addr len write))
    ∙ weighs (view s n) (free s.store.book) 0 (taken s) (call n (user-range-ok addr len write)) refl refl v t refl

-- 35 always comes with an address, which is the answer's value: no other refusal has that number
pub bad-told : (s : State) (c : Call) → number_of (answer s c).says ≡ 35 → named (answer s c).says ≡ Some (value_of (answer s c).says)
bad-told s c e = answer-tells s c e

-- the process can't access it: asked for that byte alone, in place of the call that named it, `user_range_ok` answers no and names it too
pub bad-stays-bad : (s : State) → Good s → (n : ℕ) (q : Ask) (a : ℕ) → named (answer s (call n q)).says ≡ Some a → answer s (call n (user-range-ok a 1 (to_write q))) ≡ plainly (No a)
bad-stays-bad s g n q a e =
    let l = named-lives s g n q a e in
    let no = check-unreached (view s n) q a (no-page-0 s g n l.number) l.told.by in
    answers-range s g n a 1 (to_write q) l.number l.lives ∙ ap (λ (t : Checked). plainly (t names No else Value 1)) (one-no s.setup (view s n).mem (to_write q) a no)

-- and of a range it is the lowest such byte: asked for a lower one of the range alone, `user_range_ok` answers yes
pub bad-lowest : (s : State) → Good s → (n addr len : ℕ) (write : Bool) (a : ℕ) → (answer s (call n (user-range-ok addr len write))).says ≡ No a
    → (b : ℕ) → addr ≤ b → b < a → answer s (call n (user-range-ok b 1 write)) ≡ plainly (Value 1)
bad-lowest s g n addr len write a e b l u =
    let p = named-lives s g n (user-range-ok addr len write) a (ap named e) in
    let low = (access-means.named s.setup (view s n).mem write addr len a p.told.by).lower b l u in
    answers-range s g n b 1 write p.number p.lives ∙ ap (λ (t : Checked). plainly (t names No else Value 1)) (one-fine s.setup (view s n).mem write b low)

-- it comes from the process's own line alone: it is what the call's check gives over the machine fed that line. Free frames, the numbers
-- taken and other processes' memory are nothing that the check is given
pub bad-by-line : (s : State) → Begin s → (h : List Call) (n : ℕ) (q : Ask) (a : ℕ) → named (answer (state s h) (call n q)).says ≡ Some a → check (machine s.setup (lines s h n)) q ≡ Err a
bad-by-line s b h n q a e =
    let l = named-lives (state s h) (good-after laws s b h) n q a e in
    ap (λ (m : Machine). check m q) (sym (seen-after laws s b h n l.number)) ∙ l.told.by

-- so the same call names the same address, and is answered alike, in any other history in which the process has made the same calls with
-- the same outcomes, whatever others did there, and however many frames are free
pub bad-alike : (s t : State) → Begin s → Begin t → s.setup ≡ t.setup → (h g : List Call) (n : ℕ) → map fed (lines s h n) ≡ map fed (lines t g n)
    → (q : Ask) (a : ℕ) → named (answer (state s h) (call n q)).says ≡ Some a → answer (state t g) (call n q) ≡ answer (state s h) (call n q)
bad-alike s t b d u h g n same q a e =
    let good = good-after laws s b h in
    let v = (named-lives (state s h) good n q a e).number in
    named-same (state s h) (state t g) good (good-after laws t d g) n q a
    (seen-after laws t d g n v ∙ ap (λ (x : Setup). machine x (lines t g n)) (sym u) ∙ fed-same s.setup (lines t g n) (lines s h n) (sym same) ∙ sym (seen-after laws s b h n v)) e

-- and calls of others between leave it as it is
pub bad-kept : (s : State) → Good s → (n : ℕ) (q : Ask) (a : ℕ) → named (answer s (call n q)).says ≡ Some a
    → (h : List Call) → Each (λ c. n ≡ c.number → ⊥) h → answer (state s h) (call n q) ≡ answer s (call n q)
bad-kept s g n q a e h ne =
    let l = named-lives s g n q a e in
    let k = others_keep s g n l.number l.lives h ne in
    named-same s (state s h) g k.0 n q a k.1 e

-- ---- fork

-- a child's bytes are its parent's at the fork, and then its own: whatever others do, it keeps them until it calls itself
pub child-reads : (s : State) → Good s → (n child : ℕ) (segments : List UserSegment) → outcome (answer s (call n (fork child segments))) ≡ accepted
    → (h : List Call) → Each (λ c. child ≡ c.number → ⊥) h → (a : ℕ) → readable (state (after s (call n (fork child segments))) h) child a ≡ readable s n a
unfolding effect
child-reads s g n child segments e h ne a =
    let f = forks-child s g n child segments e in
    let r = each-call s g (call n (fork child segments)) in
    let same : view (after s (call n (fork child segments))) child ≡ view s n =
    r.each child f.child-number ∙ ap (λ (o : Outcome). effect s.setup (view s) (call n (fork child segments)) (forks child segments) o child) e ∙ put-here (view s) child (view s n) in
    let t : taken (after s (call n (fork child segments))) child ≡ true = lives-same s (after s (call n (fork child segments))) g r.good child n f.child-number f.number same ∙ f.living in
    others-read (after s (call n (fork child segments))) r.good child f.child-number t h ne a
    ∙ reads (after s (call n (fork child segments))) r.good child a f.child-number ∙ ap (λ (m : Machine). held m a) same ∙ sym (reads s g n a f.number)

-- and the parent's stay as they were
pub parent-reads : (s : State) → Good s → (n child : ℕ) (segments : List UserSegment) → outcome (answer s (call n (fork child segments))) ≡ accepted
    → (a : ℕ) → readable (after s (call n (fork child segments))) n a ≡ readable s n a
unfolding effect
parent-reads s g n child segments e a =
    let f = forks-child s g n child segments e in
    reads-after s g (call n (fork child segments)) accepted e n a f.number
    ∙ ap (λ (m : Machine). held m a) (put-else (view s) child n (view s n) (λ z. clash (taken s n) f.living (ap (taken s) z ∙ f.dead))) ∙ sym (reads s g n a f.number)

-- ---- break

-- what a moved break leaves
moved-reads : (s : State) → Good s → (n addr : ℕ) → outcome (answer s (call n (break addr))) ≡ accepted → (addr ≡ 0 → ⊥)
    → (a : ℕ) → readable (after s (call n (break addr))) n a ≡ byte_in (moved (view s n).bss.end (page_up addr) (view s n).mem a)
unfolding effect
moved-reads s g n addr e nz a =
    reads-after s g (call n (break addr)) accepted e n a (breaks s g n addr e).number
    ∙ ap (λ (m : Machine). held m a) (put-here (view s) n (feed (view s n) (break addr) accepted)) ∙ rw (ne_eqb addr 0 nz)

-- new pages are zero
pub break-zero : (s : State) → Good s → (n addr : ℕ) → outcome (answer s (call n (break addr))) ≡ accepted
    → (a : ℕ) → (view s n).bss.end ≤ a → a < page_up addr → readable (after s (call n (break addr))) n a ≡ Some 0
break-zero s g n addr e a l u = moved-reads s g n addr e (λ z. omega arith) a ∙ rw (within-test (view s n).bss.end (page_up addr) a l u)

-- pages past the new end are gone
pub break-gone : (s : State) → Good s → (n addr : ℕ) → outcome (answer s (call n (break addr))) ≡ accepted → (addr ≡ 0 → ⊥)
    → (a : ℕ) → page_up addr ≤ a → a < (view s n).bss.end → readable (after s (call n (break addr))) n a ≡ None
break-gone s g n addr e nz a l u =
    moved-reads s g n addr e nz a
    ∙ rw (within-not (view s n).bss.end (page_up addr) a (λ x y. omega arith), within-test (page_up addr) (view s n).bss.end a l u)

-- all bytes below both ends stay: a shrink inside a page keeps the page's tail
pub break-keeps : (s : State) → Good s → (n addr : ℕ) → outcome (answer s (call n (break addr))) ≡ accepted
    → (a : ℕ) → a < page_up addr → a < (view s n).bss.end → readable (after s (call n (break addr))) n a ≡ readable s n a
break-keeps s g n addr e a l u =
    moved-reads s g n addr e (λ z. omega arith) a
    ∙ rw (within-not (view s n).bss.end (page_up addr) a (λ x y. omega arith), within-not (page_up addr) (view s n).bss.end a (λ x y. omega arith))
    (sym (reads s g n a (breaks s g n addr e).number))

-- ---- start

start-reads : (s : State) → Good s → (n : ℕ) (form : Form) (image name bytes lengths : List ℕ) → outcome (answer s (call n (start form image name bytes lengths))) ≡ accepted
    → (a : ℕ) → readable (after s (call n (start form image name bytes lengths))) n a ≡ byte_in (pushed s.setup.ustktop (args_of bytes lengths) (loaded s.setup (program_of s.setup form image)) a)
unfolding effect
start-reads s g n form image name bytes lengths e a =
    reads-after s g (call n (start form image name bytes lengths)) accepted e n a (starts s g n form image name bytes lengths e).number
    ∙ ap (λ (m : Machine). held m a) (put-here (view s) n (begun s.setup (program_of s.setup form image) (args_of bytes lengths)))

-- an address that neither strings nor pointers were written to
pub record Unpushed (setup : Setup) (args : List (List ℕ)) (a : ℕ) : Type 0 where
  pub no-string : within (strings_at setup.ustktop args) (strings_at setup.ustktop args + length (strings args)) a ≡ false
  pub no_pointer : within (argv_at setup.ustktop args) (argv_at setup.ustktop args + length (pointers (strings_at setup.ustktop args) args)) a ≡ false

-- in a page of a program or its stack it holds its file byte, or 0
start-byte : (s : State) → Good s → (n : ℕ) (form : Form) (image name bytes lengths : List ℕ) → outcome (answer s (call n (start form image name bytes lengths))) ≡ accepted
    → (a q : ℕ) → perm_at (start_pieces s.setup (program_of s.setup form image)) a ≡ Some q → Unpushed s.setup (args_of bytes lengths) a
    → readable (after s (call n (start form image name bytes lengths))) n a ≡ Some (file_byte (program_of s.setup form image).segments a)
start-byte s g n form image name bytes lengths e a q p out = start-reads s g n form image name bytes lengths e a ∙ rw (out.no_pointer, out.no-string, p)

-- so a page is zero but for file bytes and pushed arguments
pub start-zero : (s : State) → Good s → (n : ℕ) (form : Form) (image name bytes lengths : List ℕ) → outcome (answer s (call n (start form image name bytes lengths))) ≡ accepted
    → (a q : ℕ) → perm_at (start_pieces s.setup (program_of s.setup form image)) a ≡ Some q → Unpushed s.setup (args_of bytes lengths) a → any (in_file a) (program_of s.setup form image).segments ≡ false
    → readable (after s (call n (start form image name bytes lengths))) n a ≡ Some 0
start-zero s g n form image name bytes lengths e a q p out none_in = start-byte s g n form image name bytes lengths e a q p out ∙ ap Some (go (program_of s.setup form image).segments none_in)
  where
    go : (gs : List Segment) → any (in_file a) gs ≡ false → file_byte gs a ≡ 0
    go [] h = refl
    go (x ∷ gs) h = let r = neither (in_file a x) (any (in_file a) gs) h in rw r.0 (go gs r.1)

-- arguments lie in the top quarter of the stack
pub below-args : (s : State) → Good s → (n : ℕ) (form : Form) (image name bytes lengths : List ℕ) → outcome (answer s (call n (start form image name bytes lengths))) ≡ accepted
    → (a : ℕ) → a < s.setup.ustktop - arg_limit s.setup → Unpushed s.setup (args_of bytes lengths) a
below-args s g n form image name bytes lengths e a l =
    let args : List (List ℕ) = args_of bytes lengths in
    let small = (args-means s.setup args (starts s g n form image name bytes lengths e).args_fit).1 in
    record { no-string = within-not _ _ a (λ x y. omega arith); no_pointer = within-not _ _ a (λ x y. omega arith) }

-- ---- arguments

-- a program that was started finds the arguments given where its registers say
pub start-tells : (s : State) → Good s → (n : ℕ) (form : Form) (image name bytes lengths : List ℕ) (regs : UserRegs) → (answer s (call n (start form image name bytes lengths))).says ≡ Regs regs
    → ArgsAt s.setup (view (after s (call n (start form image name bytes lengths))) n).mem s.setup.ustktop (args_of bytes lengths) regs
start-tells s g n form image name bytes lengths regs e = args_read_lem s g (call n (start form image name bytes lengths)) regs e

-- one that replaced another finds those that the other had in memory
pub replace-tells : (s : State) → Good s → (n : ℕ) (form : Form) (image name : List ℕ) (argv : ℕ) (regs : UserRegs) → (answer s (call n (replace form image name argv))).says ≡ Regs regs
    → ArgsAt s.setup (view (after s (call n (replace form image name argv))) n).mem s.setup.ustktop (args_read (copy_argv s.setup (view s n).mem argv)) regs
replace-tells s g n form image name argv regs e = args_read_lem s g (call n (replace form image name argv)) regs e

-- and so does one that arguments are pushed to
pub push-tells : (s : State) → Good s → (n pc top : ℕ) (bytes lengths : List ℕ) (regs : UserRegs) → (answer s (call n (push pc top bytes lengths))).says ≡ Regs regs
    → ArgsAt s.setup (view (after s (call n (push pc top bytes lengths))) n).mem top (args_of bytes lengths) regs
push-tells s g n pc top bytes lengths regs e = args_read_lem s g (call n (push pc top bytes lengths)) regs e

-- ---- what fits is accepted

fits-chain : (a b c : Bool) (x y z w : Answer) → a ≡ false → b ≡ false → c ≡ false → (a ⇒ x else b ⇒ y else c ⇒ z else w) ≡ w
fits-chain a b c x y z w p q r = rw (p, q, r)

-- a start whose arguments and image fit, with free frames for its pages, on a number that is free
pub start_fits : (s : State) → Good s → (n : ℕ) (form : Form) (image name bytes lengths : List ℕ) → sum lengths ≡ length bytes → valid n ≡ true → taken s n ≡ false
    → args_error s.setup (args_of bytes lengths) ≡ 0 → image_error s.setup form image ≡ 0 → page_count (start_pieces s.setup (program_of s.setup form image)) ≤ free s.store.book
    → answer s (call n (start form image name bytes lengths)) ≡ plainly (Regs (registers (program_of s.setup form image).entry s.setup.ustktop (args_of bytes lengths)))
start_fits s g n form image name bytes lengths fit v t args_fit image-fits room =
    let program : Program = program_of s.setup form image in
    let args : List (List ℕ) = args_of bytes lengths in
    let zero-isnt : (k : ℕ) → k ≡ 0 → (k isnt 0) ≡ false = λ k z. ap not (eq-eqb k 0 z) in
    answered s g (call n (start form image name bytes lengths))
    ∙ weighs (view s n) (free s.store.book) 0 (taken s) (call n (start form image name bytes lengths)) (eq-eqb _ _ fit) refl v refl (not-false _ t)
    ∙ ap plainly (fits-chain (args_error s.setup args isnt 0) (image_error s.setup form image isnt 0) (page_count (start_pieces s.setup program) above free s.store.book) (Refused (args_error s.setup args)) (Refused (image_error s.setup form image)) (Refused 33) (Regs (registers program.entry s.setup.ustktop args))
    (zero-isnt _ args_fit) (zero-isnt _ image-fits) (not-above _ _ room))

-- a fork of a living process, with its list, on a number that is free, with free frames for what it copies
pub fork-fits : (s : State) → Good s → (n child : ℕ) (segments : List UserSegment) → valid n ≡ true → valid child ≡ true → taken s n ≡ true → taken s child ≡ false
    → same same_segment segments (view s n).segments ≡ true → copied (view s n) ≤ free s.store.book → answer s (call n (fork child segments)) ≡ plainly Done
fork-fits s g n child segments v u t d list room =
    answered s g (call n (fork child segments))
    ∙ weighs (view s n) (free s.store.book) 0 (taken s) (call n (fork child segments)) refl (rw (v, list)) (rw (v, u)) t (not-false _ d)
    ∙ ap (λ (b : Bool). plainly (b ⇒ Refused 33 else Done)) (not-above _ _ room)

-- ---- end

-- nothing is left, and as many frames come free as the process held alone
pub end_reads : (s : State) → Good s → (n : ℕ) → outcome (answer s (call n end)) ≡ accepted → (a : ℕ) → readable (after s (call n end)) n a ≡ None
unfolding effect
end_reads s g n e a = reads-after s g (call n end) accepted e n a (ends s g n e).number ∙ ap (λ (m : Machine). held m a) (put-here (view s) n (off s.setup))

pub end-frees : (s : State) → Good s → (n : ℕ) → outcome (answer s (call n end)) ≡ accepted → free (after s (call n end)).store.book ≡ free s.store.book + alone s.store.book n
unfolding after
end-frees s g n e = let h = ends s g n e in rw e (forget-free s g n h.number)
