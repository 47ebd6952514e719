-- Pushed arguments read back as given, and top minus stack pointer is at most the argument limit: of any memory into which they may be
-- written, and so of what start, replace and push make of a machine.
use Rattle.std.specs.Prelude.{Ok, Option, None, Some}
use Prim.Native.Nat.{ℕ, zero, suc, ◌+◌, ◌*◌, ◌-◌, ◌/◌, ◌%◌, ◌^◌, ◌≤◌, ◌<◌}
use native.Mathlib.Omega.{arith}
use native.Mathlib.Nat.{not-suc-le-zero, le_of_suc-le-suc, add-zero}
use native.Mathlib.Numerals.{add-one}
use mathlib.Core.Path.{◌≡◌, refl, sym, ap, ap₂, ◌∙◌}
use mathlib.Core.Bool.{Bool, true, false}
use mathlib.Core.List.{List, [], ◌∷◌, ◌++◌, append_assoc, append-nil}
use lib.ListN.{length, get_or, take, drop, length-append, length-replicate, get_or-append}
use lib.Seq.{get_or-append-add, take_at}
use borrow.Author.Tests.{ne_eqb, eq-eqb}
use Rattle.spec.proofs.Bools.{neither, not-above, within-test, within-not}
use Rattle.spec.proofs.Ranges.{fine-all}
use Rattle.spec.proofs.Pushes.{Writable, Pushable, push-means}
use Rattle.spec.proofs.Args.{args-means, length-string, strings-append, strings-more, length-pointers}
use Rattle.spec.proofs.Lists.{any_append}
use Rattle.spec.specs.Tests.{◌is◌, ◌above◌, within, ◌⇒◌else◌, any, has}
use Rattle.spec.specs.Numbers.{arg_limit, le, le_bytes, bytes_from, SetupOk}
use Rattle.spec.specs.Frames.{Cell, Mem}
use Rattle.spec.specs.Access.{cell_ok, ◌names◌else◌, access, byte_of, bytes_at, rewrite, write, Str, longer, copy_str, Checked}
use Rattle.spec.specs.Program.{Program}
use Rattle.spec.specs.Image.{program_of}
use Rattle.spec.specs.Exec.{loaded, args_of, strings, stack_size, args_error, strings_at, argv_at, registers, pointers, push_access, pushed, Argv, bad, over, read, args_read, arg_buffer, argv_from, copy_argv}
use Rattle.spec.specs.Machine.{start, replace, push, Machine, run}
use Rattle.spec.specs.History.{ArgsAt, ArgsRead}
use Rattle.spec.specs.declared.Setup.{Setup}
use Rattle.spec.specs.declared.Form.{Form}

-- ---- writes

weak : (o : Option Cell) → cell_ok true o ≡ true → cell_ok false o ≡ true
weak None e = e
weak (Some c) e = refl

rewrite-ok : (w : Bool) (b : ℕ) (o : Option Cell) → cell_ok w (rewrite b o) ≡ cell_ok w o
rewrite-ok true b None = refl
rewrite-ok true b (Some c) = refl
rewrite-ok false b None = refl
rewrite-ok false b (Some c) = refl

write-ok : (w : Bool) (at : ℕ) (bs : List ℕ) (mem : Mem) (a : ℕ) → cell_ok w (write at bs mem a) ≡ cell_ok w (mem a)
write-ok w at bs mem a = go (within at (at + length bs) a)
  where
    go : (t : Bool) → cell_ok w (t ⇒ rewrite (get_or bs (a - at) 0) (mem a) else mem a) ≡ cell_ok w (mem a)
    go true = rewrite-ok w (get_or bs (a - at) 0) (mem a)
    go false = refl

rewrite-byte : (b : ℕ) (o : Option Cell) → cell_ok true o ≡ true → byte_of (rewrite b o) ≡ b
rewrite-byte b None e = absurd (let z : ◌≡◌ {A = ℕ} 0 1 = cc in omega arith)
rewrite-byte b (Some c) e = refl

write_byte : (at : ℕ) (bs : List ℕ) (mem : Mem) (j : ℕ) → j < length bs → cell_ok true (mem (at + j)) ≡ true → byte_of (write at bs mem (at + j)) ≡ get_or bs j 0
write_byte at bs mem j h e =
    rw (within-test at (at + length bs) (at + j) (omega arith) (omega arith))
    (rewrite-byte _ (mem (at + j)) e ∙ ap (λ (k : ℕ). get_or bs k 0) (omega arith))

write-past : (at : ℕ) (bs : List ℕ) (mem : Mem) (a : ℕ) → at + length bs ≤ a → write at bs mem a ≡ mem a
write-past at bs mem a h = rw (within-not at (at + length bs) a (λ l u. omega arith))

-- ---- bytes and numbers

bytes-are : (f : ℕ → ℕ) (xs : List ℕ) (a : ℕ) → ((j : ℕ) → j < length xs → f (a + j) ≡ get_or xs j 0) → bytes_from f a (length xs) ≡ xs
bytes-are f [] a h = refl
bytes-are f (x ∷ xs) a h =
    let e : f a ≡ x = rw (add-zero a) at (h 0 (omega arith)) in
    let more : bytes_from f (a + 1) (length xs) ≡ xs = bytes-are f xs (a + 1)
    (λ j l. let q : a + 1 + j ≡ a + suc j = omega arith in rw q (h (suc j) (omega arith))) in
    ap₂ {C = List ℕ} (λ y ys. y ∷ ys) e more

le-bytes : (s : ℕ) → s < 2 ^ 64 → le 8 (le_bytes 8 s) 0 ≡ s
le-bytes s h = omega arith

-- ---- one string

-- the two turns of a string copy, over tests that are variables
first-turn : (t : Checked) (z : Bool) (u : ℕ → Str) (v w : Str) → t ≡ Ok tt → z ≡ true → (t names u else z ⇒ v else w) ≡ v
first-turn t z u v w e f = rw (e, f)

next-turn : (t : Checked) (z : Bool) (u : ℕ → Str) (v w : Str) → t ≡ Ok tt → z ≡ false → (t names u else z ⇒ v else w) ≡ w
next-turn t z u v w e f = rw (e, f)

module _ (setup : Setup) where
  first-is : (mem : Mem) (d : ℕ) (dst : List ℕ) (p : ℕ) → access setup mem false p 1 ≡ Ok tt → byte_of (mem p) ≡ 0
      → copy_str setup mem (d ∷ dst) p ≡ record { access = Ok tt; size = 0; buffer = d ∷ dst }
  first-is mem d dst p r z = first-turn (access setup mem false p 1) (byte_of (mem p) is 0) _ _ _ r (eq-eqb _ _ z)

  next-is : (mem : Mem) (x : ℕ) (xs : List ℕ) (d : ℕ) (dst : List ℕ) (p : ℕ) → access setup mem false p 1 ≡ Ok tt → byte_of (mem p) ≡ x → (x is 0) ≡ false
      → copy_str setup mem dst (p + 1) ≡ record { access = Ok tt; size = length xs; buffer = xs ++ drop (length xs) dst }
      → copy_str setup mem (d ∷ dst) p ≡ record { access = Ok tt; size = suc (length xs); buffer = x ∷ xs ++ drop (length xs) dst }
  next-is mem x xs d dst p r b n e =
      next-turn (access setup mem false p 1) (byte_of (mem p) is 0) _ _ _ r (ap (λ (y : ℕ). y is 0) b ∙ n)
      ∙ ap₂ {C = Str} longer b e ∙ ap (λ (k : ℕ). record { access = Ok tt; size = k; buffer = x ∷ xs ++ drop (length xs) dst }) (add-one (length xs))

  copy_is : (mem : Mem) (a dst : List ℕ) (p : ℕ) → has 0 a ≡ false → length a < length dst
      → ((j : ℕ) → j ≤ length a → access setup mem false (p + j) 1 ≡ Ok tt)
      → ((j : ℕ) → j < length a → byte_of (mem (p + j)) ≡ get_or a j 0) → byte_of (mem (p + length a)) ≡ 0
      → copy_str setup mem dst p ≡ record { access = Ok tt; size = length a; buffer = a ++ drop (length a) dst }
  copy_is mem a [] p n l r b z = absurd (not-suc-le-zero l)
  copy_is mem [] (d ∷ dst) p n l r b z =
      let r₀ : access setup mem false p 1 ≡ (Ok tt) = rw (add-zero p) at (r 0 (omega arith)) in
      let z₀ : byte_of (mem p) ≡ 0 = rw (add-zero p) at z in
      first-is mem d dst p r₀ z₀
  copy_is mem (x ∷ xs) (d ∷ dst) p n l r b z =
      let r₀ : access setup mem false p 1 ≡ (Ok tt) = rw (add-zero p) at (r 0 (omega arith)) in
      let b₀ : byte_of (mem p) ≡ x = rw (add-zero p) at (b 0 (omega arith)) in
      let nx = neither (x is 0) (has 0 xs) n in
      next-is mem x xs d dst p r₀ b₀ nx.0 (copy_is mem xs dst (p + 1) nx.1 (le_of_suc-le-suc l)
      (λ j h. let q : p + 1 + j ≡ p + suc j = omega arith in rw q (r (suc j) (omega arith)))
      (λ j h. let q : p + 1 + j ≡ p + suc j = omega arith in rw q (b (suc j) (omega arith)))
      (let q : p + 1 + length xs ≡ p + suc (length xs) = omega arith in rw q z))

-- ---- the list of arguments

-- the pointer that stands before `rest`
abbrev next_ptr : ℕ → List (List ℕ) → ℕ
next_ptr p [] = 0
next_ptr p (a ∷ args) = p

turn_end : (t : Checked) (z : Bool) (w : Checked) (f g : Bool) (v r : Argv) → t ≡ Ok tt → z ≡ true
    → (t names bad else z ⇒ v else w names bad else f ⇒ over else g ⇒ over else r) ≡ v
turn_end t z w f g v r e₁ e₂ = rw (e₁, e₂)

turn-next : (t : Checked) (z : Bool) (w : Checked) (f g : Bool) (v r : Argv) → t ≡ Ok tt → z ≡ false → w ≡ Ok tt → f ≡ false → g ≡ false
    → (t names bad else z ⇒ v else w names bad else f ⇒ over else g ⇒ over else r) ≡ r
turn-next t z w f g v r e₁ e₂ e₃ e₄ e₅ = rw (e₁, e₂, e₃, e₄, e₅)

module _ (setup : Setup) where
  module _ (mem : Mem) (A S : ℕ) (args : List (List ℕ))
      (ptr_ok : (i : ℕ) → i ≤ length args → access setup mem false (A + 8 * i) 8 ≡ Ok tt)
      (ptr : (before rest : List (List ℕ)) → args ≡ before ++ rest → le 8 (bytes_at mem (A + 8 * length before) 8) 0 ≡ next_ptr (S + length (strings before)) rest)
      (str : (before : List (List ℕ)) (a : List ℕ) (ys : List (List ℕ)) → args ≡ before ++ a ∷ ys
      → copy_str setup mem (arg_buffer setup) (S + length (strings before)) ≡ record { access = Ok tt; size = length a; buffer = a ++ drop (length a) (arg_buffer setup) })
      (pos : 1 ≤ S) (fit : stack_size (length (strings args)) (length args) ≤ arg_limit setup) where
    go : (rest before : List (List ℕ)) (turns : ℕ) → args ≡ before ++ rest → length rest < turns → argv_from setup mem A before turns ≡ read args
    go [] before zero e l = absurd (not-suc-le-zero l)
    go (a ∷ ys) before zero e l = absurd (not-suc-le-zero l)
    go [] before (suc turns) e l =
        let n : args ≡ before = e ∙ append-nil before in
        let k : length before ≡ length args = ap length (sym n) in
        let s : ℕ = le 8 (bytes_at mem (A + 8 * length before) 8) 0 in
        let c : Str = copy_str setup mem (arg_buffer setup) s in
        let args' : List (List ℕ) = before ++ take c.size c.buffer ∷ [] in
        turn_end (access setup mem false (A + 8 * length before) 8) (s is 0) c.access (c.size is arg_limit setup) (stack_size (length (strings args')) (length args') above arg_limit setup)
        (read before) (argv_from setup mem A args' turns)
        (ptr_ok (length before) (omega arith)) (eq-eqb s 0 (ptr before [] e))
        ∙ ap read (sym n)
    go (a ∷ ys) before (suc turns) e l =
        let n : args ≡ (before ++ a ∷ []) ++ ys = e ∙ sym (append_assoc before (a ∷ []) ys) in
        let k₀ : length args ≡ length before + suc (length ys) = ap length e ∙ length-append before (a ∷ ys) in
        let p : ℕ = S + length (strings before) in
        let s : ℕ = le 8 (bytes_at mem (A + 8 * length before) 8) 0 in
        let es : s ≡ p = ptr before (a ∷ ys) e in
        let st : copy_str setup mem (arg_buffer setup) s ≡ record { access = Ok tt; size = length a; buffer = a ++ drop (length a) (arg_buffer setup) } = ap (copy_str setup mem (arg_buffer setup)) es ∙ str before a ys e in
        let ta : take (copy_str setup mem (arg_buffer setup) s).size (copy_str setup mem (arg_buffer setup) s).buffer ≡ a =
        ap (λ (q : Str). take q.size q.buffer) st ∙ take_at a (drop (length a) (arg_buffer setup)) (length a) refl in
        let l₁ : length (strings args) ≡ length (strings (before ++ a ∷ [])) + length (strings ys) = ap (λ (x : List (List ℕ)). length (strings x)) n ∙ ap length (strings-append (before ++ a ∷ []) ys) ∙ length-append (strings (before ++ a ∷ [])) (strings ys) in
        let l₂ : length (before ++ a ∷ []) ≡ length before + 1 = length-append before (a ∷ []) in
        let l₃ = strings-more before a in
        let args' : List (List ℕ) = before ++ take (copy_str setup mem (arg_buffer setup) s).size (copy_str setup mem (arg_buffer setup) s).buffer ∷ [] in
        let ea : args' ≡ before ++ a ∷ [] = ap (λ (x : List ℕ). before ++ x ∷ []) ta in
        let big : (stack_size (length (strings (before ++ a ∷ []))) (length (before ++ a ∷ [])) above arg_limit setup) ≡ false = not-above (stack_size (length (strings (before ++ a ∷ []))) (length (before ++ a ∷ []))) (arg_limit setup) (omega arith) in
        turn-next (access setup mem false (A + 8 * length before) 8) (s is 0) (copy_str setup mem (arg_buffer setup) s).access ((copy_str setup mem (arg_buffer setup) s).size is arg_limit setup) (stack_size (length (strings args')) (length args') above arg_limit setup)
        (read before) (argv_from setup mem A args' turns)
        (ptr_ok (length before) (omega arith))
        (ne_eqb s 0 (λ z. omega arith))
        (ap (λ (q : Str). q.access) st)
        (ap (λ (q : Str). q.size is arg_limit setup) st ∙ ne_eqb (length a) (arg_limit setup) (λ z. omega arith))
        (ap (λ (x : List (List ℕ)). stack_size (length (strings x)) (length x) above arg_limit setup) ea ∙ big)
        ∙ ap (λ (x : List (List ℕ)). (argv_from setup) mem A x turns) ea
        ∙ go ys (before ++ a ∷ []) turns n (le_of_suc-le-suc l)

-- ---- what stands in the pushed bytes

pointer-at : (before rest : List (List ℕ)) (s j : ℕ) → j < 8 → get_or (pointers s (before ++ rest)) (8 * length before + j) 0 ≡ get_or (le_bytes 8 (next_ptr (s + length (strings before)) rest)) j 0
pointer-at [] [] s j h = let q : 8 * 0 + j ≡ j = omega arith in ap (λ (k : ℕ). get_or (le_bytes 8 0) k 0) q
pointer-at [] (a ∷ rest) s j h =
    let q : 8 * 0 + j ≡ j = omega arith in
    ap (λ (k : ℕ). get_or (pointers s (a ∷ rest)) k 0) q
    ∙ get_or-append (le_bytes 8 s) (pointers (s + length a + 1) rest) 0 j h
    ∙ ap (λ (k : ℕ). get_or (le_bytes 8 k) j 0) (sym (add-zero s))
pointer-at (b ∷ before) rest s j h =
    let l = length-string b before in
    let q : 8 * suc (length before) + j ≡ 8 + (8 * length before + j) = omega arith in
    let q' : s + length b + 1 + length (strings before) ≡ s + length (strings (b ∷ before)) = omega arith in
    ap (λ (k : ℕ). get_or (pointers s (b ∷ before ++ rest)) k 0) q
    ∙ get_or-append-add (le_bytes 8 s) (pointers (s + length b + 1) (before ++ rest)) (8 * length before + j) 0
    ∙ pointer-at before rest (s + length b + 1) j h
    ∙ ap (λ (k : ℕ). get_or (le_bytes 8 (next_ptr k rest)) j 0) q'

string-at : (before : List (List ℕ)) (a : List ℕ) (ys : List (List ℕ)) (j : ℕ) → get_or (strings (before ++ a ∷ ys)) (length (strings before) + j) 0 ≡ get_or (a ++ 0 ∷ strings ys) j 0
string-at before a ys j = ap (λ (x : List ℕ). get_or x (length (strings before) + j) 0) (strings-append before (a ∷ ys)) ∙ get_or-append-add (strings before) (strings (a ∷ ys)) j 0

no_nul : (before : List (List ℕ)) (a : List ℕ) (ys : List (List ℕ)) → any (has 0) (before ++ a ∷ ys) ≡ false → has 0 a ≡ false
no_nul before a ys e = (neither (has 0 a) (any (has 0) ys) (neither (any (has 0) before) (any (has 0) (a ∷ ys)) (sym (any_append (has 0) before (a ∷ ys)) ∙ e)).1).0

-- ---- all together

module _ (setup : Setup) (ok : SetupOk setup) where
  module _ (mem : Mem) (top : ℕ) (args : List (List ℕ)) (may : Pushable setup mem top args) where
    S : ℕ
    S = strings_at top args

    kept : (w : Bool) (a : ℕ) → cell_ok w (pushed top args mem a) ≡ cell_ok w (mem a)
    kept w a = write-ok w (argv_at top args) (pointers (strings_at top args) args) (write (strings_at top args) (strings args) mem) a ∙ write-ok w (strings_at top args) (strings args) mem a

    part : (addr len b k : ℕ) → Writable setup mem addr len → 1 ≤ k → addr ≤ b → b + k ≤ addr + len → access setup (pushed top args mem) false b k ≡ Ok tt
    part addr len b k r h l u =
        fine-all setup (pushed top args mem) false b k (omega (arith, (r (b + k - 1) (omega arith) (omega arith)).0))
        (λ a x y. kept false a ∙ weak (mem a) (r a (omega arith) (omega arith)).1)

    ptr-byte : (j : ℕ) → j < 8 * (length args + 1) → byte_of (pushed top args mem (argv_at top args + j)) ≡ get_or (pointers (strings_at top args) args) j 0
    ptr-byte j h =
        write_byte (argv_at top args) (pointers (strings_at top args) args) (write (strings_at top args) (strings args) mem) j (rw (length-pointers args (strings_at top args)) h)
        (write-ok true (strings_at top args) (strings args) mem (argv_at top args + j) ∙ (may.pointers-at (argv_at top args + j) (omega arith) (omega arith)).1)

    str-byte : (j : ℕ) → j < length (strings args) → byte_of (pushed top args mem (strings_at top args + j)) ≡ get_or (strings args) j 0
    str-byte j h =
        let l = length-pointers args (strings_at top args) in
        ap byte_of (write-past (argv_at top args) (pointers (strings_at top args) args) (write (strings_at top args) (strings args) mem) (strings_at top args + j) (omega (arith, may.low)))
        ∙ write_byte (strings_at top args) (strings args) mem j h (may.strings-at (strings_at top args + j) (omega arith) (omega arith)).1

    ptrs : (before rest : List (List ℕ)) → args ≡ before ++ rest → le 8 (bytes_at (pushed top args mem) (argv_at top args + 8 * length before) 8) 0 ≡ next_ptr (strings_at top args + length (strings before)) rest
    ptrs before rest e =
        let n : length args ≡ length before + length rest = ap length e ∙ length-append before rest in
        ap (λ (x : List ℕ). le 8 x 0) (bytes-are (λ a. byte_of (pushed top args mem a)) (le_bytes 8 (next_ptr (strings_at top args + length (strings before)) rest)) (argv_at top args + 8 * length before)
        (λ j h.
        let q : argv_at top args + 8 * length before + j ≡ argv_at top args + (8 * length before + j) = omega arith in
        ap (λ (a : ℕ). byte_of (pushed top args mem a)) q
        ∙ ptr-byte (8 * length before + j) (omega arith)
        ∙ ap (λ (x : List (List ℕ)). get_or (pointers (strings_at top args) x) (8 * length before + j) 0) e
        ∙ pointer-at before rest (strings_at top args) j h))
        ∙ le-bytes _ (small rest e)
      where
        small : (r : List (List ℕ)) → args ≡ before ++ r → next_ptr (strings_at top args + length (strings before)) r < 2 ^ 64
        small [] q = omega arith
        small (a ∷ r) q =
            let m : length (strings args) ≡ length (strings before) + length (strings (a ∷ r)) = ap (λ (x : List (List ℕ)). length (strings x)) q ∙ ap length (strings-append before (a ∷ r)) ∙ length-append (strings before) (strings (a ∷ r)) in
            omega (arith, ok, (may.strings-at (strings_at top args + length (strings args) - 1) (omega (arith, length-string a r)) (omega (arith, length-string a r))).0)

    strs : any (has 0) args ≡ false → stack_size (length (strings args)) (length args) ≤ arg_limit setup → (before : List (List ℕ)) (a : List ℕ) (ys : List (List ℕ)) → args ≡ before ++ a ∷ ys
        → copy_str setup (pushed top args mem) (arg_buffer setup) (strings_at top args + length (strings before)) ≡ record { access = Ok tt; size = length a; buffer = a ++ drop (length a) (arg_buffer setup) }
    unfolding arg_buffer
    strs nul fit before a ys e =
        let m : length (strings args) ≡ length (strings before) + length (strings (a ∷ ys)) = ap (λ (x : List (List ℕ)). length (strings x)) e ∙ ap length (strings-append before (a ∷ ys)) ∙ length-append (strings before) (strings (a ∷ ys)) in
        let l = length-string a ys in
        let b : (j : ℕ) → j ≤ length a → byte_of (pushed top args mem (strings_at top args + length (strings before) + j)) ≡ get_or (a ++ 0 ∷ strings ys) j 0 =
        λ j h.
        let q : strings_at top args + length (strings before) + j ≡ strings_at top args + (length (strings before) + j) = omega arith in
        ap (λ (x : ℕ). byte_of (pushed top args mem x)) q ∙ str-byte (length (strings before) + j) (omega arith)
        ∙ ap (λ (x : List (List ℕ)). get_or (strings x) (length (strings before) + j) 0) e ∙ string-at before a ys j in
        copy_is setup (pushed top args mem) a (arg_buffer setup) (strings_at top args + length (strings before)) (no_nul before a ys (rw e at nul)) (rw (length-replicate {A = ℕ} (arg_limit setup) 0) (omega arith))
        (λ j h. part (strings_at top args) (length (strings args)) (strings_at top args + length (strings before) + j) 1 may.strings-at (omega arith) (omega arith) (omega arith))
        (λ j h. b j (omega arith) ∙ get_or-append a (0 ∷ strings ys) 0 j h)
        (b (length a) (omega arith) ∙ ap (λ (k : ℕ). get_or (a ++ 0 ∷ strings ys) k 0) (sym (add-zero (length a))) ∙ get_or-append-add a (0 ∷ strings ys) 0 0)

  read_back : (mem : Mem) (top : ℕ) (args : List (List ℕ)) → args_error setup args ≡ 0 → Pushable setup mem top args → copy_argv setup (pushed top args mem) (argv_at top args) ≡ read args
  unfolding copy_argv
  read_back mem top args e may =
      let fits = args-means setup args e in
      go setup (pushed top args mem) (argv_at top args) (strings_at top args) args
      (λ i h. part mem top args may (argv_at top args) (8 * (length args + 1)) (argv_at top args + 8 * i) 8 may.pointers-at (omega arith) (omega arith) (omega arith))
      (ptrs mem top args may) (strs mem top args may fits.0 fits.1) (omega (arith, may.low)) fits.1
      args [] (arg_limit setup) refl (omega arith)

  near : (pc top : ℕ) (args : List (List ℕ)) → top % 16 ≡ 0 → args_error setup args ≡ 0 → 8 * (length args + 1) ≤ strings_at top args / 8 * 8
      → ((registers pc top args).sp ≤ top) × (top - (registers pc top args).sp ≤ arg_limit setup)
  near pc top args h e low = let size = (args-means setup args e).1 in (omega arith, omega arith)

  -- what a push leaves
  pub args_at : (mem : Mem) (pc top : ℕ) (args : List (List ℕ)) → top % 16 ≡ 0 → args_error setup args ≡ 0 → push_access setup mem top args ≡ Ok tt
      → ArgsAt setup (pushed top args mem) top args (registers pc top args)
  args_at mem pc top args h e p =
      let may = push-means setup mem top args p in
      record { count = refl; read_back = read_back mem top args e may; near = near pc top args h e may.low }

-- ---- of calls

-- the stack of a program that has just been loaded may be written
pub record Stacked (setup : Setup) (program : Program) (args : List (List ℕ)) : Type 0 where
  pub accepted : SetupOk setup
  pub fit : args_error setup args ≡ 0
  pub room : push_access setup (loaded setup program) setup.ustktop args ≡ Ok tt

module _ (m : Machine) (pc : ℕ) where
  pub start-args : (form : Form) (image name bytes lengths : List ℕ) → Stacked m.setup (program_of m.setup form image) (args_of bytes lengths)
      → ArgsRead m (start form image name bytes lengths) (run m (start form image name bytes lengths)).mem (registers pc m.setup.ustktop (args_of bytes lengths))
  start-args form image name bytes lengths s = args_at m.setup s.accepted (loaded m.setup (program_of m.setup form image)) pc m.setup.ustktop (args_of bytes lengths) (omega (arith, s.accepted)) s.fit s.room

  pub replace-args : (form : Form) (image name : List ℕ) (argv : ℕ) → Stacked m.setup (program_of m.setup form image) (args_read (copy_argv m.setup m.mem argv))
      → ArgsRead m (replace form image name argv) (run m (replace form image name argv)).mem (registers pc m.setup.ustktop (args_read (copy_argv m.setup m.mem argv)))
  replace-args form image name argv s = args_at m.setup s.accepted (loaded m.setup (program_of m.setup form image)) pc m.setup.ustktop (args_read (copy_argv m.setup m.mem argv)) (omega (arith, s.accepted)) s.fit s.room

  pub push-args : SetupOk m.setup → (top : ℕ) (bytes lengths : List ℕ)
      → top % 16 ≡ 0 → args_error m.setup (args_of bytes lengths) ≡ 0 → push_access m.setup m.mem top (args_of bytes lengths) ≡ Ok tt
      → ArgsRead m (push pc top bytes lengths) (run m (push pc top bytes lengths)).mem (registers pc top (args_of bytes lengths))
  push-args ok top bytes lengths = args_at m.setup ok m.mem pc top (args_of bytes lengths)
