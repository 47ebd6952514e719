-- `flags_put::put_table` meets its contract: the refusal, or the rows.
-- Assumes nothing.
use Rattle.std.proofs.Common.{arith, sym, ap, ◌∙◌}
use Rattle.spec.specs.Flags.{flags_ok}
use Rattle.spec.specs.FlagsText.{FlagsRead as Read}
use Rattle.spec.proofs.Refused.{refused-not-0}
use Rattle.text.proofs.Behind.{same_text}
use Rattle.setup_flags.proofs.Texts.{file_ok, refused-text, shown-text}
use Rattle.setup_flags.proofs.flags_put.put_table.Goals as goal

pub returns-in-Err-clause-puts : goal.returns-in-Err-clause-puts
returns-in-Err-clause-puts c =
    same_text (refused-text c.args.bytes.now _ (ap (λ (x : Read). x.error) c.in-Err.ensures) (refused-not-0 _)) c.put.ensures.puts

pub put_rows-requires : goal.put_rows-requires
put_rows-requires c =
    let e = c.in-Ok.ensures in
    (ap (λ (x : Read). flags_ok x.flags) e ∙ file_ok c.args.bytes.now (sym (ap (λ (x : Read). x.error) e)), omega arith)

pub returns-in-Ok-clause-puts : goal.returns-in-Ok-clause-puts
returns-in-Ok-clause-puts c =
    let e = c.in-Ok.ensures in
    same_text (shown-text c.args.bytes.now c.in-Ok.flags (ap (λ (x : Read). x.error) e) (ap (λ (x : Read). x.flags) e)) c.put_rows.ensures.puts
