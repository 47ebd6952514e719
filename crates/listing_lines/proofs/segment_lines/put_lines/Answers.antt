-- `segment_lines::put_lines` meets its contract: line after line.
-- Assumes nothing.
use Rattle.std.proofs.Common.{arith, sym, refl}
use Rattle.spec.specs.Book.{zero_segment}
use Rattle.text.proofs.Behind.{behind, same_text, puts_none}
use Rattle.listing_lines.proofs.Parts.{lines_none, lines_next}
use Rattle.listing_lines.proofs.segment_lines.put_lines.Goals as goal

pub loop-u-init : goal.loop-u-init
loop-u-init c =
    let a = c.args in
    record { same_reference = refl; puts = same_text (sym lines_none) (puts_none a.w.now.out.now a.w.now.len (omega arith)); room = omega arith }

pub loop-u-preserved : goal.loop-u-preserved
loop-u-preserved c =
    let l = c.loop-u in
    let p = c.put_line.ensures in
    record {
      same_reference = cc (p.same_reference, l.invariant.same_reference);
      puts = same_text (lines_next c.args.segments.now zero_segment l.u-index (omega arith)) (behind l.invariant.puts p.puts);
      room = omega (arith, p.upper_bound, l.invariant.room);
    }
