-- `take` meets its contract.
use native.Mathlib.Omega.{arith}
use borrow.Author.Rules.{rules}
use mathlib.Core.Path.{refl, sym, ◌∙◌}
use mathlib.Core.Bool.{false≢true}
use Rattle.sound_table.proofs.Bits.{bit_is, bit-set}
use Rattle.sound_table.proofs.Notes.take.Goals as goal

pub returns-then-word-bit-ne0 : goal.returns-then-word-bit-ne0
returns-then-word-bit-ne0 c =
    record { yes = λ e. absurd (false≢true e); no = λ e. (λ z. c.if-word-bit-ne0.true (sym (bit_is c.args.self.now.bits c.args.rank) ∙ z), refl) }

pub with_bit-requires : goal.with_bit-requires
with_bit-requires c = (omega arith, c.if-word-bit-ne0.false)

pub returns : goal.returns
returns c =
    let bits = c.args.self.now.bits in
    let rank = c.args.rank in
    let z = c.if-word-bit-ne0.false in
    record { yes = λ _. (bit_is bits rank ∙ z, bit-set bits rank _ c.with_bit.ensures c.requires (search rules) z); no = λ n. absurd (false≢true (sym n)) }
