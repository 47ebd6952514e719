-- What a string copy comes to. The specification's `copy_str` goes byte by byte; the code goes page by page and looks for the NUL in
-- each part.
-- Assumes nothing.
use Rattle.std.specs.Prelude.{ℕ, List, Result, Ok, Err}
use Rattle.spec.specs.Access.{Str}
use Rattle.uaccess.specs.declared.strings.Unread.{Unread}

-- a copy's answer, with the buffer that it leaves
abbrev pub copied : Result ℕ Unread → List ℕ → Str
copied (Ok n) buffer = record { access = Ok tt; size = n; buffer = buffer }
copied (Err e) buffer = record { access = Err e.address; size = e.size; buffer = buffer }
