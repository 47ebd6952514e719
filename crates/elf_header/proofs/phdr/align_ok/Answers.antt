-- `phdr::align_ok` meets its contract: each answer is a case of `align_ok`.
-- Assumes nothing.
use mathlib.Core.Path.{sym, ◌∙◌}
use borrow.Author.Rules.{rules}
use borrow.Author.Tests.{eqb-true, eqb-false, le-leb}
use Rattle.elf_header.proofs.Align.{asks_nothing, no_power, by-remainders}
use Rattle.elf_header.specs.Phdr.{phdr_of}
use Rattle.elf_header.proofs.phdr.align_ok.Goals as goal

pub returns-then-align-le1 : goal.returns-then-align-le1
returns-then-align-le1 c = le-leb _ _ c.if-align-le1.true ∙ asks_nothing (phdr_of _) (search rules)

pub returns-then-is_power_of_two : goal.returns-then-is_power_of_two
returns-then-is_power_of_two c = by-remainders (phdr_of _) (search rules) (search rules) (eqb-true _ _ (sym c.is_power_of_two.ensures ∙ c.if-is_power_of_two.true))

pub returns-else-is_power_of_two : goal.returns-else-is_power_of_two
returns-else-is_power_of_two c = c.if-is_power_of_two.false ∙ no_power (phdr_of _) (search rules) (search rules) (eqb-false _ _ (sym c.is_power_of_two.ensures ∙ c.if-is_power_of_two.false))
