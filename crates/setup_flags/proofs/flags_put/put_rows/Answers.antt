-- `flags_put::put_rows` meets its contract: line after line; an accepted table has codes below 4.
-- Assumes nothing.
use Rattle.std.proofs.Common.{arith}
use Rattle.spec.specs.FlagsText.{table_line}
use Rattle.spec.proofs.Flags.{code-most}
use Rattle.text.proofs.Behind.{behind, same_text}
use Rattle.setup_flags.proofs.Lines.{lines_next}
use Rattle.setup_flags.proofs.flags_put.put_rows.Goals as goal

pub overflow_add-code : goal.overflow_add-code
overflow_add-code c = omega (arith, code-most c.args.flags c.loop-row.row c.requires.0 (omega arith))

pub loop-row-preserved : goal.loop-row-preserved
loop-row-preserved c =
    let l = c.loop-row in
    let p = c.put_line.ensures in
    record {
      same_reference = cc (p.same_reference, l.invariant.same_reference);
      codes = l.invariant.codes;
      puts = same_text (lines_next table_line c.args.flags l.row (omega arith)) (behind l.invariant.puts p.puts);
      room = omega (arith, p.upper_bound, l.invariant.room);
    }
