-- `put_plan` meets its contract: five texts, one behind the other.
-- Assumes nothing.
use Rattle.std.proofs.Common.{arith}
use Rattle.text.proofs.Behind.{behind, same_text, same-room}
use Rattle.listing_lines.proofs.Listed.{plan-few, plan-listed}
use Rattle.listing_lines.proofs.put_plan.Goals as goal

pub put_lines-requires : goal.put_lines-requires
put_lines-requires c =
    let few = plan-few c.args.p.now in
    let entry = c.put_field.ensures in
    omega (arith, few, c.requires.room, entry.upper_bound, same-room entry.puts)

pub put-requires : goal.put-requires
put-requires c =
    let few = plan-few c.args.p.now in
    let entry = c.put_field.ensures in
    let lines = c.put_lines.ensures in
    omega (arith, few, c.requires.room, entry.upper_bound, same-room entry.puts, lines.upper_bound, same-room lines.puts)

pub put_span-requires : goal.put_span-requires
put_span-requires c =
    let few = plan-few c.args.p.now in
    let entry = c.put_field.ensures in
    let lines = c.put_lines.ensures in
    let name = c.put.ensures in
    omega (arith, few, c.requires.room, entry.upper_bound, same-room entry.puts, lines.upper_bound, same-room lines.puts, name.puts.place, same-room name.puts)

pub put_field-requires-2 : goal.put_field-requires-2
put_field-requires-2 c =
    let few = plan-few c.args.p.now in
    let entry = c.put_field.ensures in
    let lines = c.put_lines.ensures in
    let name = c.put.ensures in
    let span = c.put_span.ensures in
    omega (arith, few, c.requires.room, entry.upper_bound, same-room entry.puts, lines.upper_bound, same-room lines.puts, name.puts.place, same-room name.puts, span.upper_bound, same-room span.puts)

pub returns-clause-puts : goal.returns-clause-puts
returns-clause-puts c =
    same_text (plan-listed c.args.p.now c.requires.deposit_numbers)
    (behind (behind (behind (behind c.put_field.ensures.puts c.put_lines.ensures.puts) c.put.ensures.puts) c.put_span.ensures.puts) c.put_field-2.ensures.puts)
