-- `store` meets its contract.
use Prim.Native.Nat.{ℕ, ◌+◌, ◌-◌, ◌<◌, ◌≤◌}
use native.Mathlib.Omega.{arith}
use borrow.Author.Rules.{rules}
use mathlib.Core.Path.{◌≡◌, refl}
use mathlib.Core.List.{List}
use lib.ListN.{length, set, length-set}
use lib.Seq.{get_or-set_same, get_or-set_other}
use Rattle.sound_table.specs.Table.{Stored}
use Rattle.sound_table.proofs.Pass.store.Goals as goal

-- a rank that is not among the process's
none : (first count : ℕ) (table : List ℕ) (t v : ℕ) → length table ≡ 1024 → ((u : ℕ) → u < count → first + u ≡ t → ⊥) → Stored first count table table t v
none first count table t v long f = record { here = λ u l e. absurd (f u l e); other = λ u g. refl; long = long }

one : (first count : ℕ) (table : List ℕ) (t v : ℕ) → length table ≡ 1024 → count ≤ 1024 → first ≤ t → t - first < count → Stored first count table (set table (t - first) v) t v
one first count table t v long few lo hi = record {
  here = λ u l e. let d : u ≡ t - first = omega arith in rw d (get_or-set_same table (t - first) v 0 (omega arith));
  other = λ u g. get_or-set_other table (t - first) u v 0 (λ e. g (omega arith) (omega arith));
  long = simp length-set long;
}

pub returns-then-rank-self : goal.returns-then-rank-self
returns-then-rank-self c = let p = c.args.self.now in one p.own p.pages c.args.table.now c.args.rank _ (search rules) p.few (omega arith) (omega arith)

pub returns-else-self-rank : goal.returns-else-self-rank
returns-else-self-rank c = let p = c.args.self.now in none p.own p.pages c.args.table.now c.args.rank _ (search rules) (λ u l e. grind arith)
