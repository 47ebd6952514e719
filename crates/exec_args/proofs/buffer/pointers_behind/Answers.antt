-- `buffer::pointers_behind` meets its contract. The loop's invariant: the strings are as they were, the next one begins at `from`, and the
-- pointers from it on, put at their place, would complete the buffer.
use mathlib.Core.Path.{◌≡◌, refl, sym, ap, subst, ◌∙◌}
use Prim.Native.Nat.{ℕ, ◌+◌, ◌-◌, ◌*◌, ◌≤◌, ◌<◌}
use native.Mathlib.Omega.{arith}
use mathlib.Core.List.{List, []}
use lib.ListN.{length, get_or, take, drop, drop_of_length-le}
use lib.Seq.{length-take-le}
use Rattle.spec.specs.Numbers.{le_bytes}
use Rattle.spec.specs.Frames.{put}
use Rattle.spec.specs.Exec.{strings, pointers}
use Rattle.kstr.specs.Nul.{to_nul}
use Rattle.exec_args.specs.Laid.{Standing}
use Rattle.exec_args.proofs.Behind.{Along, along-none, along-room, along-nul, along-next, laid-put}
use Rattle.exec_args.proofs.buffer.pointers_behind.Goals as goal
use Rattle.exec_args.proofs.buffer.pointers_behind.Goals.{After-to_nul, Start}

-- the strings are as long as told
sized : (s : Start) → (args : List (List ℕ)) → Standing args (take s.args.size s.args.buf.now) s.args.count → s.args.size ≡ length (strings args)
sized s args t = sym (length-take-le s.args.size s.args.buf.now (omega (arith, s.requires.count_in_bounds.0))) ∙ ap length t.bytes-are

-- where a NUL was found
module _ (c : After-to_nul) where
  abbrev first : ℕ
  first = c.args.top - c.args.size

  module _ (args : List (List ℕ)) (standing : Standing args (take c.args.size c.args.buf.now) c.args.count) where
    abbrev text : List ℕ
    text = get_or args c.loop-i.i []

    more : c.loop-i.i < length args
    more = omega (arith, standing.counted, c.loop-i-test.true)

    room : c.args.size + 8 * (length args + 1) ≤ length c.loop-i.buf
    room = omega (arith, standing.counted, c.loop-i.invariant.1, c.requires.count_in_bounds.0)

    along : Along first c.args.size c.args.buf.now args c.loop-i.buf c.loop-i.from c.loop-i.i
    along = c.loop-i.invariant.2 args standing

    found : c.to_nul.result ≡ length text
    found =
        c.to_nul.ensures ∙ ap (λ (b : List ℕ). to_nul (take (c.args.size - c.loop-i.from) (drop c.loop-i.from b))) c.pointer_into.ensures
        ∙ along-nul first c.args.size c.args.buf.now args c.loop-i.buf c.loop-i.from c.loop-i.i standing.no_nul more room along (sized (goal.at.After-to_nul c).Start args standing)

    further : c.to_nul.result + 1 + c.loop-i.from ≤ c.args.size
    further = omega (arith, found, sized (goal.at.After-to_nul c).Start args standing, along-room first c.args.size c.args.buf.now args c.loop-i.buf c.loop-i.from c.loop-i.i standing.no_nul more room along)

pub loop-i-init : goal.loop-i-init
loop-i-init c =
    let a = c.args in
    (omega arith, refl, λ args s. along-none (a.top - a.size) a.size a.buf.now args a.count s)

pub overflow_add-from : goal.overflow_add-from
overflow_add-from c = omega (arith, further c c.requires.by_index.0 c.requires.by_index.1)

pub overflow_add-from-in-loop-i : goal.overflow_add-from-in-loop-i
overflow_add-from-in-loop-i c = omega (arith, further c c.requires.by_index.0 c.requires.by_index.1)

pub loop-i-preserved : goal.loop-i-preserved
loop-i-preserved c =
    let v = c.loop-i in
    let a = c.args in (
      omega (arith, further c c.requires.by_index.0 c.requires.by_index.1),
      omega arith,
      λ args t.
          subst (λ (b : List ℕ). Along (first (goal.at.loop-i-preserved c).After-to_nul) a.size a.buf.now args b (v.from + (c.to_nul.result + 1)) (v.i + 1)) (sym c.pointer_into.ensures)
          (along-next (first (goal.at.loop-i-preserved c).After-to_nul) a.size a.buf.now args v.buf v.from v.i t.no_nul (more c args t) (room c args t) (along c args t) c.to_nul.result (found c args t)),
    )

pub returns : goal.returns
returns c args standing =
    let v = c.loop-i in
    let a = c.args in
    let past : length args ≤ v.i = omega (arith, standing.counted, c.loop-i-test.false) in
    laid-put a.top args a.size (sized (goal.at.returns c).Start args standing) a.buf.now _ (omega (arith, standing.counted, c.requires.count_in_bounds.0)) standing.bytes-are
    (c.pointer_into-2.ensures ∙ ap (λ (k : ℕ). put v.buf (a.size + 8 * k) (le_bytes 8 0)) (let z : a.count ≡ v.i = omega arith in z)
    ∙ sym ((v.invariant.2 args standing).more ∙ ap (λ (x : List (List ℕ)). put v.buf (a.size + 8 * v.i) (pointers (a.top - a.size + v.from) x)) (drop_of_length-le args past)))
