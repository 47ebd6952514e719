-- `kstr::after_slash` meets its contract: no `/` stands behind the last, if there is one.
use Rattle.std.proofs.Common.{rules, arith, ◌≡◌, ◌<◌, ℕ, length, get_or, add-one}
use Rattle.kstr.proofs.Names.{elem-whole, after_first, has-none, none-behind}
use Rattle.kstr.proofs.after_slash.Goals as goal

pub returns-in-Some : goal.returns-in-Some
returns-in-Some c =
    let s = c.args.name.now in
    let i = c.in-Some.i in
    let h : (i < length s) × (get_or s i 0 ≡ 47) × ((k : ℕ) → i < k → k < length s → get_or s k 0 ≡ 47 → ⊥) = search rules in
    (omega arith, rw (add-one i) (after_first s i h.0 h.1 (none-behind 47 s i h.2)))

pub returns-in-None : goal.returns-in-None
returns-in-None c =
    let s = c.args.name.now in
    let h : (k : ℕ) → k < length s → get_or s k 0 ≡ 47 → ⊥ = search rules in
    (omega arith, elem-whole s (has-none 47 s h))
