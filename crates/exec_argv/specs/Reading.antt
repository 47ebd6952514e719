-- What reading the arguments of replace comes to, with what it leaves in the lent buffer. It is the specification's `copy_argv`; its
-- steps stand in the modules pointers and copy_arg.
-- Assumes nothing.
use Rattle.std.specs.Prelude.{◌≡◌, ℕ, List, length, replicate, Result, Ok, Err}
use Rattle.spec.specs.Frames.{put}
use Rattle.spec.specs.Exec.{strings, Argv, bad, over, read}
use Rattle.exec_argv.specs.declared.ArgvError.{ArgvError}
use Rattle.exec_argv.specs.declared.ArgvError.TheVariants.{Bad, Over}
use Rattle.exec_argv.specs.declared.Strings.{Strings}

-- what `copy_argv` tells: the bad address, that the arguments are over the limit, or their sizes
abbrev pub held_of : Argv → Result Strings ArgvError
held_of (bad address) = Err (Bad address)
held_of over = Err Over
held_of (read args) = Ok (record { used = length (strings args); count = length args })

-- the buffer that it leaves: all zeros where it is refused; or the arguments' strings from its start on, and the rest as it was
abbrev pub left_in : List ℕ → Argv → List ℕ
left_in before (bad address) = replicate (length before) 0
left_in before over = replicate (length before) 0
left_in before (read args) = put before 0 (strings args)

pub record Reads (a : Argv) (before : List ℕ) (r : Result Strings ArgvError) (after : List ℕ) : Type 0 where
  pub said : r ≡ held_of a
  pub bytes : after ≡ left_in before a
