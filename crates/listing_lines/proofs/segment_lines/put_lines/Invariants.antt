-- `segment_lines::put_lines` meets its contract. The invariant: the lines of the segments passed are put.
-- Assumes nothing.
use Rattle.std.proofs.Common.{◌≡◌, ◌+◌, ◌*◌, ◌≤◌, take}
use Rattle.text.specs.Text.{Puts}
use Rattle.listing_lines.specs.Lines.{lines_text}
use Rattle.listing_lines.proofs.segment_lines.put_lines.Given as goal

abbrev pub invariant-loop-u : goal.invariant-loop-u
invariant-loop-u l = record {
  same_reference : l.w.out.ghost_name ≡ l.initial.w.out.ghost_name;
  puts : Puts l.initial.w.out.now l.initial.w.len (lines_text (take l.u-index l.segments)) l.w.out.now l.w.len;
  room : l.w.len ≤ l.initial.w.len + 57 * l.u-index;
}
