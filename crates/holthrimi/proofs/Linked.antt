-- A run of exported functions is a run under `Does`, as C hears it.
use Prim.Native.Nat.{ℕ}
use mathlib.Core.Path.{◌≡◌, refl, ap₂}
use mathlib.Core.List.{List, [], ◌∷◌}
use Rattle.spec.specs.Machine.{Call}
use Rattle.spec.specs.World.{answer}
use Rattle.spec.specs.History.{entry, none_yet, one_more}
use Rattle.holthrimi.specs.Tells.{Heard, no_call, one-call, LinkedRuns}
use Rattle.holthrimi.specs.declared.told.Told.{Told}

heard-eq : (c : Call) (o p : Told) (b d : List ℕ) → o ≡ p → b ≡ d → ◌≡◌ {A = Heard} (record { call = c; told = o; buffer = b }) (record { call = c; told = p; buffer = d })
heard-eq c o p b d e f = λ i. record { call = c; told = e i; buffer = f i }

pub linked : LinkedRuns
linked s t h no_call = ([], (none_yet, refl))
linked s t h (one-call {h = earlier} {t = before} {c = c} {o = o} {b = b} x d) =
    let r = linked s before earlier x in (
      entry before c (answer before c) ∷ r.0,
      (one_more r.1.0 (record { left = d.left; said = refl }), ap₂ (λ (y : Heard) (k : List Heard). y ∷ k) (heard-eq c o _ b _ d.said d.lent) r.1.1),
    )
