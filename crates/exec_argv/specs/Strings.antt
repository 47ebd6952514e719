-- What one string more comes to: 35, 33, or the string behind those before it. It is one step of the specification's `argv_from`,
-- over a lent buffer.
-- Assumes nothing.
use Rattle.std.specs.Prelude.{ℕ, ◌+◌, ◌-◌, ◌<◌, ◌≡◌, List, [], ◌∷◌, ◌++◌, length, take, replicate, Result, Ok, Err}
use Rattle.spec.specs.Tests.{◌is◌, ◌above◌, ◌⇒◌else◌}
use Rattle.spec.specs.Numbers.{arg_limit}
use Rattle.spec.specs.Frames.{put}
use Rattle.spec.specs.Access.{◌names◌else◌, Str}
use Rattle.spec.specs.Exec.{stack_size}
use Rattle.spec.specs.declared.Setup.{Setup}
use Rattle.uaccess.specs.declared.strings.Unread.{Unread}
use Rattle.uaccess.specs.Copied.{copied}
use Rattle.exec_argv.specs.declared.ArgvError.{ArgvError}
use Rattle.exec_argv.specs.declared.ArgvError.TheVariants.{Bad, Over}

-- the string t, as it was read behind `used` bytes: what the copy tells is told, and where it is within the limit with them, it stands
-- behind them
pub record Told (limit : ℕ) (t : Str) (used : ℕ) (before : List ℕ) (r : Result ℕ Unread) (after : List ℕ) : Type 0 where
  pub said : copied r t.buffer ≡ t
  pub text : t.size < limit - used → after ≡ put before used (take t.size t.buffer)

-- a string more behind `used` bytes of `count` strings: a bad address where it can't be read, over the limit, or its length
abbrev pub more_of : Setup → Str → ℕ → ℕ → Result ℕ ArgvError
more_of setup str used count =
    str.access names (λ address. Err (Bad address)) else
    str.size is arg_limit setup ⇒ Err Over else
    stack_size (used + str.size + 1) (count + 1) above arg_limit setup ⇒ Err Over else
    Ok str.size

-- the buffer that it leaves: all zeros where it is refused; or the string with its NUL behind those before it
abbrev pub added_to : List ℕ → ℕ → Str → Result ℕ ArgvError → List ℕ
added_to before used t (Err (Bad address)) = replicate (length before) 0
added_to before used t (Err Over) = replicate (length before) 0
added_to before used t (Ok n) = put before used (take t.size t.buffer ++ 0 ∷ [])

pub record Added (setup : Setup) (t : Str) (used count : ℕ) (before : List ℕ) (r : Result ℕ ArgvError) (after : List ℕ) : Type 0 where
  pub said : r ≡ more_of setup t used count
  pub bytes : after ≡ added_to before used t r
