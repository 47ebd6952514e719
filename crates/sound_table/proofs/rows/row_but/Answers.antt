-- `row_but` meets its contract.
use Prim.Native.Nat.{ℕ, ◌+◌, ◌*◌, ◌-◌, ◌<◌}
use native.Mathlib.Omega.{arith}
use mathlib.Core.Path.{◌≡◌, refl, ◌∙◌}
use mathlib.Core.List.{List}
use lib.ListN.{get_or, take, drop}
use Rattle.std.proofs.lemmas.List.{get_or-take, get_or-drop}
use Rattle.sound_table.proofs.Folds.{but-next}
use Rattle.sound_table.proofs.rows.row_but.Goals as goal

-- a place of a part of a list
part-at : (m : List ℕ) (at k i : ℕ) → i < k → get_or (take k (drop at m)) i 0 ≡ get_or m (at + i) 0
part-at m at k i h = get_or-take k (drop at m) i 0 h ∙ get_or-drop at m i 0

pub loop-i-init : goal.loop-i-init
loop-i-init c = λ z i l. absurd (omega arith)

pub loop-i-preserved : goal.loop-i-preserved
loop-i-preserved c =
    let l = c.loop-i in
    but-next c.args.book.now (17 * c.args.k) c.args.n l.i l.a _ _ refl (omega (arith, c.type_inv.book (17 * c.args.k + l.i)))
    (λ ne. part-at c.args.masks.now (15 - c.args.n) _ l.i (omega (arith, c.requires.1)) ∙ c.requires.2.1 (15 - c.args.n + l.i) (omega (arith, c.requires.1)) (λ e. ne (omega (arith, c.requires.1)))) l.invariant

pub returns : goal.returns
returns c = λ z i h ne. c.loop-i.invariant z i (omega arith) ne
