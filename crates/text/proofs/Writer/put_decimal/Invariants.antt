-- `text::Writer::put_decimal` meets its contract. The invariant: the digits of what is left, in front of those written.
-- Assumes nothing.
use mathlib.Core.Path.{◌≡◌}
use mathlib.Core.List.{◌++◌}
use Prim.Native.Nat.{◌^◌, ◌≤◌, ◌<◌}
use lib.ListN.{length, drop}
use Rattle.spec.specs.Listing.{decimal_of}
use Rattle.text.specs.Text.{number_text}
use Rattle.text.proofs.Writer.put_decimal.Given as goal

abbrev pub invariant-loop-m : goal.invariant-loop-m
invariant-loop-m l = (0 < l.i) × (l.i ≤ 20) × (l.m < 10 ^ l.i) × (length l.digits ≡ 20) × (number_text l.n ≡ decimal_of l.i l.m ++ drop l.i l.digits)

abbrev pub decreases-loop-m : goal.decreases-loop-m
decreases-loop-m l = l.i
