-- `part_of` meets its contract: of the owner's segments only the one that the search finds can have the word.
use Prim.Native.Nat.{◌*◌, ◌-◌}
use native.Mathlib.Omega.{arith}
use mathlib.Core.Path.{◌≡◌, sym, ap, ◌∙◌}
use Rattle.spec_laws.proofs.Lists.{by_order}
use Rattle.sound_plan.specs.Plan.{hits}
use Rattle.sound_plan.proofs.Seats.{ascending, span-only}
use Rattle.sound_plan.proofs.Plan.part_of.Goals as goal

pub segment_of-k-requires : goal.segment_of-k-requires
segment_of-k-requires c = (omega arith, ascending _ _ c.requires _ (omega arith) (omega arith))

pub returns-else-hits-2 : goal.returns-else-hits-2
returns-else-hits-2 c k l o =
    let w = c.args.w in
    let bss = 17 * c.owner_of-owner.result - 1 in
    let s = c.segment_of-k in
    by_order k bss
    (λ h. span-only _ _ c.requires (bss - 16) (omega arith) (omega arith) w s.result s.ensures (sym c.hits-2.ensures ∙ c.if-hits-2.false) k (omega arith) (omega arith))
    (λ h. let q : k ≡ bss = omega arith in ap (hits _ _ w) q ∙ sym c.hits.ensures ∙ c.if-hits.false)
