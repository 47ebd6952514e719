-- Arguments in a buffer: their strings, each with its NUL, and the pointers to them behind those.
-- Assumes nothing.
use Rattle.std.specs.Prelude.{ℕ, ◌+◌, ◌*◌, ◌≤◌, ◌≡◌, false, List, length, take, drop}
use Rattle.spec.specs.Tests.{any, has}
use Rattle.spec.specs.Exec.{strings, strings_at, pointers}

-- bytes are the strings of `count` arguments, of which none has a NUL
pub record Standing (args : List (List ℕ)) (bytes : List ℕ) (count : ℕ) : Type 0 where
  pub bytes-are : bytes ≡ strings args
  pub counted : length args ≡ count
  pub no_nul : any (has 0) args ≡ false

-- a buffer begins with the `size` bytes of arguments' strings, and behind them are the pointers of a push below `top`
pub record Laid (top : ℕ) (args : List (List ℕ)) (size : ℕ) (buf : List ℕ) : Type 0 where
  pub sized : size ≡ length (strings args)
  pub fits : size + 8 * (length args + 1) ≤ length buf
  pub strings-are : take size buf ≡ strings args
  pub pointers-are : take (8 * (length args + 1)) (drop size buf) ≡ pointers (strings_at top args) args
