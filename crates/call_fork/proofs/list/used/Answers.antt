use Rattle.std.proofs.Common.{rules, ◌≡◌, true, false}
use Rattle.std.proofs.lemmas.Iterator.{YieldsList-from_slice, IsFirst-from_position}
use borrow.Author.Tests.{tests}
use Rattle.spec.specs.Book.{unused}
use Rattle.call_fork.proofs.Places.{before-first}
use Rattle.call_fork.proofs.list.used.Goals as goal

pub returns : goal.returns
returns c =
    let h = IsFirst-from_position _ _ _ (λ g. unused g ≡ true) (λ g. unused g ≡ false) c.position.ensures.ran (YieldsList-from_slice c.args.places.now cc) (λ x q k. search (rules, tests)) (λ x q k. search (rules, tests)) in
    before-first c.args.places.now c.position.result c.unwrap_or-end.result h (rw c.told-places c.unwrap_or-end.ensures)
