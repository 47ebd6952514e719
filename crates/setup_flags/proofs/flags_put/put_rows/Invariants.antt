-- `flags_put::put_rows` meets its contract. The invariant: the lines of the rows passed are put.
-- Assumes nothing.
use Rattle.std.proofs.Common.{◌≡◌, ◌+◌, ◌*◌, ◌≤◌, length, take}
use Rattle.spec.specs.FlagsText.{table_line, row_lines}
use Rattle.text.specs.Text.{Puts}
use Rattle.setup_flags.proofs.flags_put.put_rows.Given as goal

abbrev pub invariant-loop-row : goal.invariant-loop-row
invariant-loop-row l = record {
  same_reference : l.w.out.ghost_name ≡ l.initial.w.out.ghost_name;
  codes : length l.flags ≡ 8;
  puts : Puts l.initial.w.out.now l.initial.w.len (row_lines table_line 0 (take l.row l.flags)) l.w.out.now l.w.len;
  room : l.w.len ≤ l.initial.w.len + 12 * l.row;
}
