-- Numbers 1, 38, 39 and 2 to 5, which come first in every call, in this order: the first that is given, or 0. The specification gives them in
-- `answer` and `judge`, call by call; here they stand once for each kind of call, as the functions look them up.
-- Assumes nothing.
use Rattle.std.specs.Prelude.{ℕ, Bool, true, not, ◌&&◌}
use Rattle.spec.specs.Tests.{◌⇒◌else◌, ◌or_else◌}
use Rattle.spec.specs.Numbers.{setup_error}
use Rattle.spec.specs.Book.{valid}
use Rattle.spec.specs.Frames.{sized}
use Rattle.spec.specs.World.{State, sound, taken}

-- 1, 38, 39, 2 and 3; `fits`: the call's argument lengths sum to their bytes
unfoldable pub number_error : State → ℕ → Bool → ℕ
number_error s n fits =
    not (sized s.store && fits) ⇒ 1 else
    setup_error s.setup or_else
    not (sound s) ⇒ 2 else
    not (valid n) ⇒ 3 else
    0

-- 1 to 4 of a call that a living process makes for itself
unfoldable pub plain_error : State → ℕ → Bool → ℕ
plain_error s n fits =
    number_error s n fits or_else
    (not (taken s n) ⇒ 4 else 0)

-- 1, 2, 3 and 5 of a start
unfoldable pub begin_error : State → ℕ → Bool → ℕ
begin_error s n fits =
    number_error s n fits or_else
    (not (not (taken s n)) ⇒ 5 else 0)

-- 1 to 5 of a fork whose list is the record's own
unfoldable pub fork_error : State → ℕ → ℕ → ℕ
fork_error s n child =
    number_error s n true or_else
    (not (valid child) ⇒ 3 else
    not (taken s n) ⇒ 4 else
    not (not (taken s child)) ⇒ 5 else
    0)
