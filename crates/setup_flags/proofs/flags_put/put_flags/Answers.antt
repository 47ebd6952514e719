-- `flags_put::put_flags` meets its contract: line after line.
-- Assumes nothing.
use Rattle.std.proofs.Common.{arith, ap, List, ℕ, length, get_or}
use Rattle.spec.specs.FlagsText.{flag_line}
use Rattle.text.proofs.Behind.{behind, same_text}
use Rattle.setup_flags.specs.Texts.{line_of}
use Rattle.setup_flags.proofs.Lines.{lines_next}
use Rattle.setup_flags.proofs.flags_put.put_flags.Goals as goal

pub loop-row-preserved : goal.loop-row-preserved
loop-row-preserved c =
    let l = c.loop-row in
    let p = c.put_line.ensures in
    let n = ap length c.flag_head.ensures in
    record {
      same_reference = cc (p.same_reference, l.invariant.same_reference);
      codes = l.invariant.codes;
      puts = same_text (lines_next flag_line c.args.flags l.row (omega arith)) (behind l.invariant.puts (same_text (ap (λ (head : List ℕ). line_of head (get_or c.args.flags l.row 0)) c.flag_head.ensures) p.puts));
      room = omega (arith, p.upper_bound, l.invariant.room);
    }
