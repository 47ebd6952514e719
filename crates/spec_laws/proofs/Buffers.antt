-- A refusal gives a lent buffer back as it was, but for the string copy's 35.
use Rattle.std.specs.Prelude.{Ok, Err}
use Prim.Native.Nat.{ℕ, ◌+◌}
use native.Mathlib.Omega.{arith}
use native.Mathlib.Numerals.{add-one}
use mathlib.Core.Path.{◌≡◌, refl, sym, ap, ◌∙◌}
use mathlib.Core.Bool.{Bool, true, false, not, ◌&&◌}
use mathlib.Core.List.{List, [], ◌∷◌}
use lib.ListN.{length, take}
use Rattle.spec.proofs.Bools.{split, clash}
use Rattle.spec.specs.Tests.{◌is◌, ◌isnt◌, ◌⇒◌else◌}
use Rattle.spec.specs.Book.{valid, free}
use Rattle.spec.specs.Numbers.{setup_error}
use Rattle.spec.proofs.Ranges.{either}
use Rattle.spec.specs.Frames.{Mem, sized}
use Rattle.spec.specs.Access.{◌names◌else◌, access, byte_of, bytes_at, copy_str, Checked}
use Rattle.spec.specs.Machine.{Ask, start, replace, push, break, fork, end, user-range-ok, copy-from-user, copy-to-user, try-copy-str-from-user, Call, accepted, refused, ended, Reply, outcome, outcome_of, number_of, lent, refuse, Machine, lengths_fit, kind, list_fits, numbered, living, unclaimed, weigh, judge}
use Rattle.spec.specs.World.{State, alone_for, sound, taken, view, answer}
use Rattle.spec.specs.declared.Answer.{Answer}
use Rattle.spec.specs.declared.Answer.TheVariants.{Value, Done, Refused, RefusedAt, EndedAt}
use Rattle.spec.specs.declared.Setup.{Setup}

-- the string copy's 35
abbrev stray_string : Ask → Answer → Bool
stray_string (start form image name bytes lengths) a = false
stray_string (replace form image name argv) a = false
stray_string (push pc top bytes lengths) a = false
stray_string (break addr) a = false
stray_string (fork child segments) a = false
stray_string end a = false
stray_string (user-range-ok addr len write) a = false
stray_string (copy-from-user buffer src) a = false
stray_string (copy-to-user dst bytes) a = false
stray_string (try-copy-str-from-user buffer src) a = number_of a is 35

-- what is left of a reply to a question
abbrev Kept : Ask → Reply → Type 0
Kept q r = outcome r ≡ refused → stray_string q r.says ≡ false → r.buffer ≡ lent q

-- a refusal of the table, or what follows it
refuse-kept : (t : Bool) (k : ℕ) (q : Ask) (r : Reply) → Kept q r → Kept q (t ⇒ refuse k q else r)
refuse-kept true k q r h = λ e f. refl
refuse-kept false k q r h = h

-- a copy ends the process or is done
copy-answers : (t : Checked) (x : ℕ → Reply) (y : Reply) → ((a : ℕ) → outcome (x a) ≡ ended) → outcome y ≡ accepted → outcome (t names x else y) ≡ refused → ⊥
copy-answers (Err a) x y p q e = let w : ended ≡ refused = sym (p a) ∙ e in let z : ◌≡◌ {A = ℕ} 0 1 = cc in omega arith
copy-answers (Ok _) x y p q e = let w : accepted ≡ refused = sym q ∙ e in let z : ◌≡◌ {A = ℕ} 0 1 = cc in omega arith

-- a string copy is refused with 35 alone
string-answers : (t : Checked) (n : ℕ) → outcome_of (t names RefusedAt else Value n) ≡ refused → (number_of (t names RefusedAt else Value n) is 35) ≡ false → ⊥
string-answers (Ok _) n e f = let z : ◌≡◌ {A = ℕ} 0 1 = cc in omega arith
string-answers (Err a) n e f = clash true refl f

-- of its own numbers a call gives only the string copy's 35 with a buffer that has changed
weigh-kept : (m : Machine) (free alone : ℕ) (q : Ask) → Kept q (weigh m free alone q)
weigh-kept m free alone (start form image name bytes lengths) e f = refl
weigh-kept m free alone (replace form image name argv) e f = refl
weigh-kept m free alone (push pc top bytes lengths) e f = refl
weigh-kept m free alone (break addr) e f = refl
weigh-kept m free alone (fork child segments) e f = refl
weigh-kept m free alone end e f = refl
weigh-kept m free alone (user-range-ok addr len write) e f = refl
weigh-kept m free alone (copy-from-user buffer src) e f =
    absurd (copy-answers (access m.setup m.mem false src (length buffer)) (λ a. record { says = EndedAt a; buffer = buffer }) (record { says = Done; buffer = bytes_at m.mem src (length buffer) }) (λ a. refl) refl e)
weigh-kept m free alone (copy-to-user dst bytes) e f = refl
weigh-kept m free alone (try-copy-str-from-user buffer src) e f = absurd (string-answers (copy_str m.setup m.mem buffer src).access (copy_str m.setup m.mem buffer src).size e f)

pub refused-lent : (s : State) (c : Call) → outcome (answer s c) ≡ refused → stray_string c.ask (answer s c).says ≡ false → (answer s c).buffer ≡ lent c.ask
unfolding answer judge
refused-lent s c =
    let q : Ask = c.ask in
    let m : Machine = view s c.number in
    let r₅ : Reply = not (unclaimed (taken s) c.number (kind q)) ⇒ refuse 5 q else weigh m (free s.store.book) (alone_for s c) q in
    let r₄ : Reply = not (living (taken s) c.number (kind q)) ⇒ refuse 4 q else r₅ in
    let r₃ : Reply = not (numbered c.number (kind q)) ⇒ refuse 3 q else r₄ in
    let r₂ : Reply = not (list_fits m c.number (kind q)) ⇒ refuse 2 q else r₃ in
    let r₁ : Reply = not (lengths_fit q) ⇒ refuse 1 q else r₂ in
    let r₀ : Reply = not (sound s) ⇒ refuse 2 q else r₁ in
    let r : Reply = setup_error s.setup isnt 0 ⇒ refuse (setup_error s.setup) q else r₀ in
    refuse-kept (not (sized s.store && lengths_fit q)) 1 q r
    (refuse-kept (setup_error s.setup isnt 0) (setup_error s.setup) q r₀
    (refuse-kept (not (sound s)) 2 q r₁
    (refuse-kept (not (lengths_fit q)) 1 q r₂
    (refuse-kept (not (list_fits m c.number (kind q))) 2 q r₃
    (refuse-kept (not (numbered c.number (kind q))) 3 q r₄
    (refuse-kept (not (living (taken s) c.number (kind q))) 4 q r₅
    (refuse-kept (not (unclaimed (taken s) c.number (kind q))) 5 q (weigh m (free s.store.book) (alone_for s c) q) (weigh-kept m (free s.store.book) (alone_for s c) q))))))))

-- ---- and what the string copy's 35 leaves

others-number : (t : Bool) (k a : ℕ) (q : Ask) (r : Reply) → (t ⇒ refuse k q else r).says ≡ RefusedAt a → (t ⇒ refuse k q else r) ≡ r
others-number true k a q r e = absurd (let w : Refused k ≡ RefusedAt a = e in let z : ◌≡◌ {A = ℕ} 0 1 = cc in omega arith)
others-number false k a q r e = refl

pub string-left : (s : State) (n : ℕ) (buffer : List ℕ) (src a : ℕ)
    → let c : Call = record { number = n; ask = try-copy-str-from-user buffer src } in
    (answer s c).says ≡ RefusedAt a → (answer s c).buffer ≡ (copy_str s.setup (view s n).mem buffer src).buffer
unfolding answer judge
string-left s n buffer src a e =
    let q : Ask = try-copy-str-from-user buffer src in
    let r₄ : Reply = weigh (view s n) (free s.store.book) 0 q in
    let r₃ : Reply = not (taken s n) ⇒ refuse 4 q else r₄ in
    let r₂ : Reply = not (valid n) ⇒ refuse 3 q else r₃ in
    let r₁ : Reply = not (sound s) ⇒ refuse 2 q else r₂ in
    let r₀ : Reply = setup_error s.setup isnt 0 ⇒ refuse (setup_error s.setup) q else r₁ in
    let p₀ = others-number (not (sized s.store && true)) 1 a q r₀ e in
    let p₁ = p₀ ∙ others-number (setup_error s.setup isnt 0) (setup_error s.setup) a q r₁ (ap (λ (r : Reply). r.says) (sym p₀) ∙ e) in
    let p₂ = others-number (not (sound s)) 2 a q r₂ (ap (λ (r : Reply). r.says) (sym p₁) ∙ e) in
    let p₃ = others-number (not (valid n)) 3 a q r₃ (ap (λ (r : Reply). r.says) (sym (p₁ ∙ p₂)) ∙ e) in
    let p₄ = others-number (not (taken s n)) 4 a q r₄ (ap (λ (r : Reply). r.says) (sym (p₁ ∙ p₂ ∙ p₃)) ∙ e) in
    ap (λ (r : Reply). r.buffer) (p₁ ∙ p₂ ∙ p₃ ∙ p₄)

-- bytes before the string's end, or a bad page, are copied
pub string-copied : (setup : Setup) (mem : Mem) (dst : List ℕ) (a : ℕ) → take (copy_str setup mem dst a).size (copy_str setup mem dst a).buffer ≡ bytes_at mem a (copy_str setup mem dst a).size
string-copied setup mem [] a = refl
string-copied setup mem (d ∷ dst) a =
    either (access setup mem false a 1)
    (λ q.
    split (byte_of (mem a) is 0)
    (λ z. rw (q, z))
    (λ z. rw (q, z, add-one (copy_str setup mem dst (a + 1)).size) (ap (λ (x : List ℕ). byte_of (mem a) ∷ x) (string-copied setup mem dst (a + 1)))))
    (λ b q. rw q)
