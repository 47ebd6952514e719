-- `copies_ok` meets its contract. The loop's invariant: the copies of the arguments so far may be written, and the others' decide.
use Prim.Native.Nat.{ℕ, suc, ◌+◌}
use native.Mathlib.Omega.{arith}
use native.Mathlib.Numerals.{add-one}
use mathlib.Core.Path.{◌≡◌, refl, sym, ap, ap₂, ◌∙◌}
use mathlib.Core.List.{List, [], ◌∷◌}
use lib.ListN.{drop, get_or, drop_of_length-le}
use lib.Seq.{drop-cons}
use Rattle.std.specs.Prelude.{Ok, Err}
use Rattle.std.proofs.lemmas.Result.{err_from_is_err_and}
use Rattle.spec.specs.Tests.{sum}
use Rattle.spec.specs.Access.{Checked, ◌names◌else◌}
use Rattle.spec.specs.Exec.{first_bad}
use Rattle.exec_args.specs.Sizes.{copies_by}
use Rattle.call_push.proofs.Ranges.{first-last, copies-one}
use Rattle.call_push.proofs.push_args.copies_ok.Goals as goal
use Rattle.call_push.proofs.push_args.copies_ok.Invariants.{memory}
use Rattle.call_push.proofs.push_args.copies_ok.Goals.{After-arg_ok}

-- where one argument has been checked
module _ (c : After-arg_ok) where
  abbrev lengths : List ℕ
  lengths = c.args.lengths.now

  abbrev n : ℕ
  n = get_or lengths c.loop-n.n-index 0

  abbrev rest : List ℕ
  rest = drop (suc c.loop-n.n-index) lengths

  cons : drop c.loop-n.n-index lengths ≡ n ∷ rest
  cons = drop-cons lengths c.loop-n.n-index 0 (omega arith)

  sums : sum (drop c.loop-n.n-index lengths) ≡ n + sum rest
  sums = ap sum cons

  step : (frames : List ℕ) → let mem = memory frames c.args.pages.now.book.now c.args.pages.now.number in
      first_bad c.args.pages.now.setup mem (copies_by c.args.s c.args.p lengths)
      ≡ (c.arg_ok.result names Err else first_bad c.args.pages.now.setup mem (copies_by (c.loop-n.at + n + 1) (c.loop-n.pointer + 8) rest))
  step frames =
      let mem = memory frames c.args.pages.now.book.now c.args.pages.now.number in
      c.loop-n.invariant.2 frames
      ∙ ap (λ (x : List ℕ). first_bad c.args.pages.now.setup mem (copies_by c.loop-n.at c.loop-n.pointer x)) cons
      ∙ copies-one c.args.pages.now.setup mem c.loop-n.at n c.loop-n.pointer rest c.arg_ok.result (c.arg_ok.ensures frames)

  -- as far as it was told
  told : (r : Checked) → c.arg_ok.result ≡ r → (frames : List ℕ) → let mem = memory frames c.args.pages.now.book.now c.args.pages.now.number in
      first_bad c.args.pages.now.setup mem (copies_by c.args.s c.args.p lengths) ≡ (r names Err else first_bad c.args.pages.now.setup mem (copies_by (c.loop-n.at + n + 1) (c.loop-n.pointer + 8) rest))
  told r e frames =
      step frames ∙ ap (λ (t : Checked). t names Err else first_bad c.args.pages.now.setup (memory frames c.args.pages.now.book.now c.args.pages.now.number) (copies_by (c.loop-n.at + n + 1) (c.loop-n.pointer + 8) rest)) e

pub loop-n-init : goal.loop-n-init
loop-n-init c = (omega arith, omega arith, λ frames. refl)

pub arg_ok-requires : goal.arg_ok-requires
arg_ok-requires c =
    let i = c.loop-n in
    let e : sum (drop i.n-index c.args.lengths.now) ≡ get_or c.args.lengths.now i.n-index 0 + sum (drop (suc i.n-index) c.args.lengths.now) = ap sum (drop-cons c.args.lengths.now i.n-index 0 (omega arith)) in
    omega (arith, i.invariant.0)

pub returns-in_err-arg_ok : goal.returns-in_err-arg_ok
returns-in_err-arg_ok c frames =
    let r = err_from_is_err_and c.from_residual.result c.from_residual.ensures.1 in
    r.1 ∙ ap Err r.2 ∙ sym (told (goal.at.returns-in_err-arg_ok c).After-arg_ok (Err c.in_err-arg_ok.field-0.0) c.in_err-arg_ok.was frames)

pub overflow_add-at : goal.overflow_add-at
overflow_add-at c = omega (arith, sums (goal.at.overflow_add-at c).After-arg_ok, c.loop-n.invariant.0)

pub overflow_add-at-in-loop-n : goal.overflow_add-at-in-loop-n
overflow_add-at-in-loop-n c = omega (arith, sums (goal.at.overflow_add-at-in-loop-n c).After-arg_ok, c.loop-n.invariant.0)

pub overflow_add-pointer : goal.overflow_add-pointer
overflow_add-pointer c = omega (arith, c.loop-n.invariant.1)

pub loop-n-preserved : goal.loop-n-preserved
loop-n-preserved c =
    let d = (goal.at.loop-n-preserved c).After-arg_ok in
    let e : drop (c.loop-n.n-index + 1) (lengths d) ≡ rest d = ap (λ (j : ℕ). drop j (lengths d)) (add-one c.loop-n.n-index) in
    let a : c.loop-n.at + n d + 1 ≡ c.loop-n.at + (n d + 1) = omega arith in (
      omega (arith, sums d, ap sum e, c.loop-n.invariant.0),
      omega (arith, c.loop-n.invariant.1),
      λ frames.
          let mem = memory frames c.args.pages.now.book.now c.args.pages.now.number in
          told d (Ok c.in_ok-arg_ok.field-0) c.in_ok-arg_ok.was frames ∙ ap₂ (λ (x : ℕ) (y : List ℕ). first_bad c.args.pages.now.setup mem (copies_by x (c.loop-n.pointer + 8) y)) a (sym e),
    )

pub returns : goal.returns
returns c frames =
    let i = c.loop-n in
    let mem = memory frames c.args.pages.now.book.now c.args.pages.now.number in
    let e : drop i.n-index c.args.lengths.now ≡ [] = drop_of_length-le c.args.lengths.now {i = i.n-index} (omega arith) in
    c.user_range_ok.ensures frames
    ∙ sym (i.invariant.2 frames ∙ ap (λ (x : List ℕ). first_bad c.args.pages.now.setup mem (copies_by i.at i.pointer x)) e ∙ first-last c.args.pages.now.setup mem i.pointer 8)
