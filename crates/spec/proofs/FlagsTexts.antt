-- The lines of a flag table: which tables are accepted, that the lines of an accepted one are read as it, and that bytes which are read
-- are the lines of their table.
use Prim.Native.Nat.{ℕ, zero, suc, ◌+◌, ◌≤◌, ◌<◌}
use native.Mathlib.Omega.{arith}
use mathlib.Core.Path.{◌≡◌, refl, sym, ap, ap₂, subst, ◌∙◌}
use mathlib.Core.Bool.{Bool, true, false, ◌&&◌, ◌||◌, and-true, and-false, or-false}
use Rattle.std.specs.Prelude.{Option, None, Some}
use mathlib.Core.List.{List, [], ◌∷◌, ◌++◌, map, append_assoc, append-nil}
use lib.ListN.{length, take, drop, get_or, take-append-drop}
use lib.Seq.{drop-append_seam}
use borrow.Author.Tests.{eqb-true, eq-eqb, ne_eqb}
use Rattle.spec.specs.Tests.{◌is◌, ◌⇒◌else◌, all, any, same, ascii}
use Rattle.spec.specs.Flags.{built_in, row_ok, flags_ok}
use Rattle.spec.specs.FlagsText.{FlagsRead, flag_line, row_lines, flags_text, begins, code_at, on_code, read_rows, read_flags}
use Rattle.spec.specs.Tables.{last_rows, before, tables, among}
use Rattle.spec.proofs.Bools.{split}
use Rattle.spec.proofs.Lists.{any_append, same-means}
use Rattle.spec.proofs.Flags.{code-most}

-- ---- which tables are accepted

-- tests of which one stands in every element of a list
module _ {A B : Type 0} (f : A → B) (t : B → Bool) (a : Bool) (u : A → Bool) (each : (x : A) → t (f x) ≡ (a && u x)) where
  any-map : (xs : List A) → any t (map f xs) ≡ (a && any u xs)
  any-map [] = sym (and-false a)
  any-map (x ∷ xs) = ap₂ ◌||◌ (each x) (any-map xs) ∙ apart a (u x) (any u xs)
    where
      apart : (a b c : Bool) → (a && b || a && c) ≡ (a && (b || c))
      apart true b c = refl
      apart false b c = refl

-- a code before rows
among-before : (c : ℕ) (t : List ℕ) (cs : List ℕ) (rows : List (List ℕ)) → among (c ∷ t) (before cs rows) ≡ (any (λ x. c is x) cs && among t rows)
among-before c t [] rows = refl
among-before c t (x ∷ cs) rows =
    any_append (same ◌is◌ (c ∷ t)) (map (λ r. x ∷ r) rows) (before cs rows)
    ∙ ap₂ ◌||◌ (any-map (λ (r : List ℕ). x ∷ r) (same ◌is◌ (c ∷ t)) (c is x) (same ◌is◌ t) (λ r. refl) rows) (among-before c t cs rows)
    ∙ apart (c is x) (any (λ y. c is y) cs) (among t rows)
  where
    apart : (a b m : Bool) → (a && m || b && m) ≡ ((a || b) && m)
    apart true true m = each m
      where
        each : (m : Bool) → (m || m) ≡ m
        each true = refl
        each false = refl
    apart true false m = or-false m
    apart false b m = refl

among-last : (g h : ℕ) → among (g ∷ h ∷ []) last_rows ≡ ((g is 0 || g is 2 || g is 3) && h is 0)
among-last g h = three (g is 0) (g is 2) (g is 3) (h is 0)
  where
    three : (x y z m : Bool) → (x && (m && true) || (y && (m && true) || (z && (m && true) || false))) ≡ ((x || y || z) && m)
    three x y z false = simp and-false
    three true y z true = refl
    three false true z true = refl
    three false false true true = refl
    three false false false true = refl

among-tables : (a b c d e f g h : ℕ) → among (a ∷ b ∷ c ∷ d ∷ e ∷ f ∷ g ∷ h ∷ []) tables
    ≡ ((a is 0 && (b is 0 && (c is 0 && d is 0))) && ((e is 0 || e is 2) && ((f is 0 || f is 1 || f is 2) && ((g is 0 || g is 2 || g is 3) && h is 0))))
among-tables a b c d e f g h =
    any-map (λ (r : List ℕ). 0 ∷ 0 ∷ 0 ∷ 0 ∷ r) (same ◌is◌ (a ∷ b ∷ c ∷ d ∷ e ∷ f ∷ g ∷ h ∷ [])) (a is 0 && (b is 0 && (c is 0 && d is 0))) (same ◌is◌ (e ∷ f ∷ g ∷ h ∷ []))
    (λ r. zeros (a is 0) (b is 0) (c is 0) (d is 0) (same ◌is◌ (e ∷ f ∷ g ∷ h ∷ []) r)) (before (0 ∷ 2 ∷ []) (before (0 ∷ 1 ∷ 2 ∷ []) last_rows))
    ∙ ap (λ (m : Bool). (a is 0 && (b is 0 && (c is 0 && d is 0))) && m)
    (among-before e (f ∷ g ∷ h ∷ []) (0 ∷ 2 ∷ []) (before (0 ∷ 1 ∷ 2 ∷ []) last_rows)
    ∙ ap₂ ◌&&◌ (two (e is 0) (e is 2)) (among-before f (g ∷ h ∷ []) (0 ∷ 1 ∷ 2 ∷ []) last_rows ∙ ap₂ ◌&&◌ (three (f is 0) (f is 1) (f is 2)) (among-last g h)))
  where
    zeros : (a b c d m : Bool) → (a && (b && (c && (d && m)))) ≡ ((a && (b && (c && d))) && m)
    zeros true true true d m = refl
    zeros true true false d m = refl
    zeros true false c d m = refl
    zeros false b c d m = refl

    two : (x y : Bool) → (x || (y || false)) ≡ (x || y)
    two true y = refl
    two false y = or-false y

    three : (x y z : Bool) → (x || (y || (z || false))) ≡ (x || y || z)
    three true y z = refl
    three false true z = refl
    three false false z = or-false z

-- what each row may hold
closed : (x : Bool) → (x || false) ≡ x
closed x = or-false x

row-4 : (e : ℕ) → row_ok 4 e ≡ (e is 0 || e is 2)
row-4 e = choice (e is 0) (e is 1) (e is 2) (e is 3)
  where
    choice : (x y z w : Bool) → (x || (y && false || z || w && false)) ≡ (x || z)
    choice x y z w = simp (and-false, or-false)

row-5 : (f : ℕ) → row_ok 5 f ≡ (f is 0 || f is 1 || f is 2)
row-5 f = choice (f is 0) (f is 1) (f is 2) (f is 3)
  where
    choice : (x y z w : Bool) → (x || (y && true || z || w && false)) ≡ (x || y || z)
    choice true y z w = refl
    choice false y z w = simp (and-true, and-false, or-false)

row-6 : (g : ℕ) → row_ok 6 g ≡ (g is 0 || g is 2 || g is 3)
row-6 g = choice (g is 0) (g is 1) (g is 2) (g is 3)
  where
    choice : (x y z w : Bool) → (x || (y && false || z || w && true)) ≡ (x || z || w)
    choice true y z w = refl
    choice false y z w = simp (and-true, and-false)

-- all rows, from the last to the first and from the first to the last
turned : (a b c d e f g h : Bool) → (h && (g && (f && (e && (d && (c && (b && (a && true)))))))) ≡ ((a && (b && (c && d))) && (e && (f && (g && h))))
turned false b c d e f g h = simp and-false
turned true false c d e f g h = simp and-false
turned true true false d e f g h = simp and-false
turned true true true false e f g h = simp and-false
turned true true true true false f g h = simp and-false
turned true true true true true false g h = simp and-false
turned true true true true true true false h = simp and-false
turned true true true true true true true h = and-true h

rows_are : (a b c d e f g h : ℕ) → flags_ok (a ∷ b ∷ c ∷ d ∷ e ∷ f ∷ g ∷ h ∷ [])
    ≡ ((a is 0 && (b is 0 && (c is 0 && d is 0))) && ((e is 0 || e is 2) && ((f is 0 || f is 1 || f is 2) && ((g is 0 || g is 2 || g is 3) && h is 0))))
unfolding flags_ok
rows_are a b c d e f g h =
    turned (row_ok 0 a) (row_ok 1 b) (row_ok 2 c) (row_ok 3 d) (row_ok 4 e) (row_ok 5 f) (row_ok 6 g) (row_ok 7 h)
    ∙ ap₂ ◌&&◌ (ap₂ ◌&&◌ (closed (a is 0)) (ap₂ ◌&&◌ (closed (b is 0)) (ap₂ ◌&&◌ (closed (c is 0)) (closed (d is 0)))))
    (ap₂ ◌&&◌ (row-4 e) (ap₂ ◌&&◌ (row-5 f) (ap₂ ◌&&◌ (row-6 g) (closed (h is 0)))))

pub these : (flags : List ℕ) → length flags ≡ 8 → flags_ok flags ≡ among flags tables
these [] n = absurd (omega arith)
these (a ∷ []) n = absurd (omega arith)
these (a ∷ b ∷ []) n = absurd (omega arith)
these (a ∷ b ∷ c ∷ []) n = absurd (omega arith)
these (a ∷ b ∷ c ∷ d ∷ []) n = absurd (omega arith)
these (a ∷ b ∷ c ∷ d ∷ e ∷ []) n = absurd (omega arith)
these (a ∷ b ∷ c ∷ d ∷ e ∷ f ∷ []) n = absurd (omega arith)
these (a ∷ b ∷ c ∷ d ∷ e ∷ f ∷ g ∷ []) n = absurd (omega arith)
these (a ∷ b ∷ c ∷ d ∷ e ∷ f ∷ g ∷ h ∷ []) n = rows_are a b c d e f g h ∙ sym (among-tables a b c d e f g h)
these (a ∷ b ∷ c ∷ d ∷ e ∷ f ∷ g ∷ h ∷ i ∷ flags) n = absurd (omega arith)

-- ---- a row's line

-- the first of four codes that passes a test
module _ (t : ℕ → Bool) where
  abbrev first_of : Option ℕ
  first_of = t 0 ⇒ Some 0 else t 1 ⇒ Some 1 else t 2 ⇒ Some 2 else t 3 ⇒ Some 3 else None

  first_passes : (c : ℕ) → first_of ≡ Some c → t c ≡ true
  first_passes c e =
      split (t 0) (λ q. passed 0 q (rw q at e)) (λ q₀.
      split (t 1) (λ q. passed 1 q (rw (q₀, q) at e)) (λ q₁.
      split (t 2) (λ q. passed 2 q (rw (q₀, q₁, q) at e)) (λ q₂.
      split (t 3) (λ q. passed 3 q (rw (q₀, q₁, q₂, q) at e)) (λ q₃.
      never (rw (q₀, q₁, q₂, q₃) at e)))))
    where
      passed : (k : ℕ) → t k ≡ true → Some k ≡ Some c → t c ≡ true
      passed k q s = let z : k ≡ c = cc in subst (λ (n : ℕ). t n ≡ true) z q

      never : None ≡ Some c → t c ≡ true
      never s = absurd (let z : ◌≡◌ {A = ℕ} 0 1 = cc in omega arith)

  pub first-is : (c : ℕ) → c < 4 → ((k : ℕ) → k < c → t k ≡ false) → t c ≡ true → Some c ≡ first_of
  first-is zero h f e = rw e
  first-is (suc zero) h f e = rw (f 0 (omega arith), e)
  first-is (suc (suc zero)) h f e = rw (f 0 (omega arith), f 1 (omega arith), e)
  first-is (suc (suc (suc zero))) h f e = rw (f 0 (omega arith), f 1 (omega arith), f 2 (omega arith), e)
  first-is (suc (suc (suc (suc c)))) h f e = absurd (omega arith)

  pub first-none : ((k : ℕ) → k < 4 → t k ≡ false) → None ≡ first_of
  first-none f = rw (f 0 (omega arith), f 1 (omega arith), f 2 (omega arith), f 3 (omega arith))

-- a line begins with itself alone
line-front : (row c : ℕ) (rest : List ℕ) → c ≤ 3 → code_at row (flag_line row c ++ rest) ≡ Some c
line-front row zero rest h = rw (eq-eqb (48 + row) (48 + row) refl)
line-front row (suc zero) rest h = rw (eq-eqb (48 + row) (48 + row) refl)
line-front row (suc (suc zero)) rest h = rw (eq-eqb (48 + row) (48 + row) refl)
line-front row (suc (suc (suc zero))) rest h = rw (eq-eqb (48 + row) (48 + row) refl)
line-front row (suc (suc (suc (suc c)))) rest h = absurd (omega arith)

-- bytes with a row's code begin with its line
line_of : (row : ℕ) (bytes : List ℕ) (c : ℕ) → code_at row bytes ≡ Some c → flag_line row c ++ drop (length (flag_line row c)) bytes ≡ bytes
line_of row bytes c e =
    let q = first_passes (begins row bytes) c e in
    let line = flag_line row c in
    ap (λ (l : List ℕ). l ++ drop (length line) bytes) (sym (same-means ◌is◌ eqb-true (take (length line) bytes) line q))
    ∙ take-append-drop (length line) bytes

-- ---- lines that are written are read

lines-read : (codes : List ℕ) (row : ℕ) (before : List ℕ) → ((k : ℕ) → k < length codes → get_or codes k 0 ≤ 3)
    → read_rows row (length codes) before (row_lines flag_line row codes) ≡ read_rows row 0 (before ++ codes) []
lines-read [] row before f = ap (λ (l : List ℕ). read_rows row 0 l []) (sym (append-nil before))
lines-read (c ∷ codes) row before f =
    let rest = row_lines flag_line (row + 1) codes in
    ap (λ (o : Option ℕ). on_code o (λ code. read_rows (row + 1) (length codes) (before ++ code ∷ []) (drop (length (flag_line row code)) (flag_line row c ++ rest)))) (line-front row c rest (f 0 (omega arith)))
    ∙ ap (read_rows (row + 1) (length codes) (before ++ c ∷ [])) (drop-append_seam (flag_line row c) rest)
    ∙ lines-read codes (row + 1) (before ++ c ∷ []) (λ k h. f (suc k) (omega arith))
    ∙ ap (λ (l : List ℕ). read_rows row 0 l []) (append_assoc before (c ∷ []) codes)

-- what is written of an accepted table is read as that table
pub read_back : (flags : List ℕ) → length flags ≡ 8 → flags_ok flags ≡ true → read_flags (flags_text flags) ≡ record { error = 0; flags = flags }
unfolding read_flags flags_text
read_back flags n ok =
    ap (λ (k : ℕ). read_rows 0 k [] (row_lines flag_line 0 flags)) (sym n)
    ∙ lines-read flags 0 [] (λ k h. code-most flags k ok (omega arith))
    ∙ rw ok

-- ---- bytes that are read are lines

-- what is read of so many rows: codes, their lines and no byte besides, and a table that is accepted
record Written (row : ℕ) (before bytes : List ℕ) (r : FlagsRead) : Type 0 where
  codes : List ℕ
  table : r.flags ≡ before ++ codes
  lines : row_lines flag_line row codes ≡ bytes
  accepted : flags_ok r.flags ≡ true

rows_written : (k row : ℕ) (before bytes : List ℕ) → (read_rows row k before bytes).error ≡ 0 → Written row before bytes (read_rows row k before bytes)
rows_written zero row before [] e =
    split (flags_ok before)
    (λ q. rw q (record { codes = []; table = sym (append-nil before); lines = refl; accepted = q }))
    (λ q. absurd (let z = rw q at e in omega (arith, z)))
rows_written zero row before (b ∷ bytes) e = absurd (let z = rw (ne_eqb (suc (length bytes)) 0 (λ q. omega arith)) at e in omega (arith, z))
rows_written (suc k) row before bytes e = next (code_at row bytes) refl e (λ c. rows_written k (row + 1) (before ++ c ∷ []) (drop (length (flag_line row c)) bytes))
  where
    after : ℕ → FlagsRead
    after code = read_rows (row + 1) k (before ++ code ∷ []) (drop (length (flag_line row code)) bytes)

    next : (o : Option ℕ) → code_at row bytes ≡ o → (on_code o after).error ≡ 0
        → ((c : ℕ) → (after c).error ≡ 0 → Written (row + 1) (before ++ c ∷ []) (drop (length (flag_line row c)) bytes) (after c)) → Written row before bytes (on_code o after)
    next None p z f = absurd (omega (arith, z))
    next (Some c) p z f =
        let w = f c z in
        record {
          codes = c ∷ w.codes;
          table = w.table ∙ append_assoc before (c ∷ []) w.codes;
          lines = ap (λ (l : List ℕ). flag_line row c ++ l) w.lines ∙ line_of row bytes c p;
          accepted = w.accepted;
        }

-- where bytes are read, they are the lines of the table
pub written_back : (bytes : List ℕ) → (read_flags bytes).error ≡ 0 → (flags_text (read_flags bytes).flags ≡ bytes) × (flags_ok (read_flags bytes).flags ≡ true)
unfolding read_flags flags_text
written_back bytes e =
    let w = rows_written 8 0 [] bytes e in
    (ap (row_lines flag_line 0) w.table ∙ w.lines, w.accepted)

-- ---- worked examples

-- rows 0 to 3 refused
abbrev front : List ℕ
front = ascii "flags0=refused\nflags1=refused\nflags2=refused\nflags3=refused\n"

-- the built-in table is written as the request says
pub built-in-text : flags_text built_in ≡ front ++ ascii "flags4=rodata\nflags5=text\nflags6=data\nflags7=refused\n"
unfolding flags_text
built-in-text = refl

abbrev texts : List (List ℕ × ℕ)
texts =
    ([], 39)
    ∷ (front ++ ascii "flags4=rodata\nflags5=text\nflags6=data\nflags7=refused\n", 0)
    ∷ (front ++ ascii "flags4=refused\nflags5=refused\nflags6=rodata\nflags7=refused\n", 0)
    ∷ (front ++ ascii "flags4=rodata\nflags5=text\nflags6=data\nflags7=refused", 39)
    ∷ (front ++ ascii "flags4=rodata\nflags5=text\nflags6=data\nflags7=refused\n\n", 39)
    ∷ (front ++ ascii "flags4=rodata\r\nflags5=text\nflags6=data\nflags7=refused\n", 39)
    ∷ (front ++ ascii "flags4=rodata\nflags6=data\nflags5=text\nflags7=refused\n", 39)
    ∷ (front ++ ascii "flags4=rodata\nflags5=text\nflags6=data\n", 39)
    ∷ (front ++ ascii "flags4=rodata\nflags5=Text\nflags6=data\nflags7=refused\n", 39)
    ∷ (front ++ ascii "flags4=rodata\nflags5= text\nflags6=data\nflags7=refused\n", 39)
    ∷ (front ++ ascii "flags4=rodata\nflags5=text\nflags6=data\nflags7=data\n", 39)
    ∷ (front ++ ascii "flags4=text\nflags5=text\nflags6=data\nflags7=refused\n", 39)
    ∷ []

pub texts-hold : all (λ row. (read_flags row.0).error is row.1) texts ≡ true
unfolding read_flags flags_ok
texts-hold = refl
