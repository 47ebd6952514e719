-- Demand 3 and demand 2's sentence on arguments, and their tie to the code: of definitions, and of functions under `Does`.
-- Assumes nothing.
use mathlib.Core.Path.{sym, ap, ap₂, subst, ◌∙◌}
use mathlib.Core.Bool.{not}
use mathlib.Core.List.{List, map}
use lib.ListN.{length}
use Rattle.spec.specs.Tests.{◌is◌}
use Rattle.spec.specs.Book.{free}
use Rattle.spec.proofs.Runs.{calls_of, ran}
use Rattle.spec.specs.Machine.{Reply, judge}
use Rattle.spec.specs.World.{State, taken, view, alone_for, answer, readable, after}
use Rattle.spec.specs.History.{Entry, state, lines_of, machine, held, Claim, ArgsRead, Arguments, Runs}
use Rattle.spec_history.proofs.Passed.{Good}
use Rattle.spec_history.proofs.Whole.{Laws, claim, good-after, seen-after, heard}
use Rattle.spec_history.proofs.OneState.{first, reads, pages, numbers}
use Rattle.spec_history.proofs.EachCall.{each-call}
use Rattle.spec_history.proofs.Arguments.{args_read_lem}

pub laws : Laws
laws = record { first = first; kept = λ s g c. (each-call s g c).good; seen = λ s g c. (each-call s g c).each; reads = reads; pages = pages; numbers = numbers }

-- one claim about whole lists of the ten calls, in any order, with no hypothesis
pub demand3 : Claim
demand3 = claim laws

-- demand 2's sentence on arguments, after any calls
pub arguments : Arguments
unfolding after
arguments s b h c regs e = args_read_lem (state s h) (good-after laws s b h) c regs e

-- ---- the tie to the code: a run of functions is one of the definitions

pub runs : Runs
runs = record {
  found = λ s t b h r. rw (ran s t h r).0 (let g = good-after laws s b (calls_of h) in (demand3.setup s (calls_of h), g.sizes, g.book));
  bytes = λ s t b h r n a v. let x = ran s t h r in ap (λ (y : State). readable y n a) x.0 ∙ demand3.bytes s b (calls_of h) n a v ∙ ap (λ (k : List Entry). held (machine s.setup (lines_of k n)) a) (sym x.1);
  numbers = λ s t b h r n v.
      let x = ran s t h r in
      ap (λ (y : State). taken y n) x.0 ∙ demand3.numbers s b (calls_of h) n v ∙ ap (λ (k : List Entry). not (length (machine s.setup (lines_of k n)).segments is 0)) (sym x.1);
  answers = λ s t u b h r c a d.
      let x = ran s t h r in
      d.said ∙ ap (λ (y : State). answer y c) x.0 ∙ heard laws s b (calls_of h) (seen-after laws s b (calls_of h)) c
      ∙ ap₂ (λ (y : State) (k : List Entry). judge (machine s.setup (lines_of k c.number)) (free y.store.book) (alone_for y c) (taken y) c) (sym x.0) (sym x.1);
  arguments = λ s t u b h r c a regs d e.
      let g : Good t = rw (ran s t h r).0 (good-after laws s b (calls_of h)) in
      subst (λ (y : State). ArgsRead (view t c.number) c.ask (view y c.number).mem regs) (sym d.left) (args_read_lem t g c regs (ap (λ (y : Reply). y.says) (sym d.said) ∙ e));
  alike = λ s t u v b d k h g r q n w e.
      let x = ran s t h r in
      let y = ran u v g q in
      let same = demand3.alike s u b d k (calls_of h) (calls_of g) n w (rw (← x.1, ← y.1) e) in (
        ap (λ (k : List Entry). map (λ (z : Entry). z.answered) (lines_of k n)) x.1 ∙ same.0 ∙ ap (λ (k : List Entry). map (λ (z : Entry). z.answered) (lines_of k n)) (sym y.1),
        λ a. ap (λ (z : State). readable z n a) x.0 ∙ same.1 a ∙ ap (λ (z : State). readable z n a) (sym y.0),
      );
}
