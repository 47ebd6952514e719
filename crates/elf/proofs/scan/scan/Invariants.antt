-- `scan::scan` meets its contract. The invariant: what the checks come to is what they come to over the headers that are left.
-- Assumes nothing.
use mathlib.Core.Path.{◌≡◌}
use mathlib.Core.Bool.{false}
use Prim.Native.Nat.{◌+◌, ◌-◌, ◌*◌}
use Rattle.elf.specs.Scan.{scan_error, left}
use Rattle.elf.proofs.scan.scan.Given as goal

abbrev pub invariant-loop-i : goal.invariant-loop-i
invariant-loop-i l =
    scan_error l.flags l.image l.entry 0 false (left l.image l.phoff l.phnum) ≡ scan_error l.flags l.image l.entry l.seen.end l.seen.found (left l.image (l.phoff + 56 * l.i) (l.phnum - l.i))
