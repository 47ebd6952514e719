-- The checks of an a.out: by its length, and then by its header's words.
use Prim.Native.Nat.{ℕ, ◌≤◌, ◌<◌}
use mathlib.Core.Path.{◌≡◌}
use mathlib.Core.List.{List}
use lib.ListN.{length}
use borrow.Author.Tests.{lt-ltb, le-ltb}
use Rattle.spec.specs.Aout.{aout_error}
use Rattle.spec.specs.declared.Setup.{Setup}
use Rattle.image.specs.Places.{exec_of, exec_error}

pub too_short : (setup : Setup) (expected : ℕ) (image : List ℕ) → length image < 32 → 42 ≡ aout_error setup expected image
unfolding aout_error
too_short setup expected image h = rw (lt-ltb (length image) 32 h)

pub by-words : (setup : Setup) (expected : ℕ) (image : List ℕ) → 32 ≤ length image → exec_error setup expected (length image) (exec_of image) ≡ aout_error setup expected image
unfolding aout_error exec_error
by-words setup expected image h = rw (le-ltb (length image) 32 h)
