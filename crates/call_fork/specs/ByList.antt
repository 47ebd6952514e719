-- What a fork with a lent list is refused with. A list unlike the record is 2, at that number's place in the order; all else is as
-- in a fork with the record's own. 33 is judged before anything is shared.
-- Assumes nothing.
use Rattle.std.specs.Prelude.{ℕ, Bool, not, ◌&&◌}
use Rattle.spec.specs.Tests.{◌isnt◌, ◌below◌, ◌above◌, ◌⇒◌else◌, ◌or_else◌}
use Rattle.spec.specs.Book.{valid, free}
use Rattle.spec.specs.Machine.{copied}
use Rattle.spec.specs.World.{State, view}
use Rattle.call_front.specs.Numbers.{fork_error}

-- 1, 38, 39 and 2 to 5 in their order; `alike`: the list is the record's segments. A list that is not is 2, behind 1, 38 and 39
unfoldable pub list_error : State → ℕ → ℕ → Bool → ℕ
list_error s n child alike = ((not alike && fork_error s n child isnt 1) && fork_error s n child below 38) && valid n ⇒ 2 else fork_error s n child

-- then 33, if the free frames don't hold a copy
unfoldable pub fork_number : State → ℕ → ℕ → Bool → ℕ
fork_number s n child alike = list_error s n child alike or_else (copied (view s n) above free s.store.book ⇒ 33 else 0)
