-- A place of the array of pointers: a string's address, the null at its end, or none that can be read. It is one step of the
-- specification's `argv_from`.
-- Assumes nothing.
use Rattle.std.specs.Prelude.{ℕ, false, Option, None, Some, Result, Ok, Err}
use Rattle.spec.specs.Tests.{◌is◌, ◌⇒◌else◌}
use Rattle.spec.specs.Numbers.{le}
use Rattle.spec.specs.Frames.{Mem}
use Rattle.spec.specs.Access.{◌names◌else◌, access, bytes_at}
use Rattle.spec.specs.declared.Setup.{Setup}

-- the bad address of one that can't be read, none for the null behind the last pointer, or the address of a string
abbrev pub pointer_at : Setup → Mem → ℕ → Result (Option ℕ) ℕ
pointer_at setup mem at =
    let s : ℕ = le 8 (bytes_at mem at 8) 0 in
    access setup mem false at 8 names Err else
    s is 0 ⇒ Ok None else
    Ok (Some s)
