-- A run of functions that each did what its contract says leads to the definitions' state, and its entries are the definitions'.
use mathlib.Core.Path.{◌≡◌, refl, ap, ap₂, ◌∙◌}
use mathlib.Core.List.{List, ◌∷◌, map}
use Rattle.spec.specs.Machine.{Call, Reply}
use Rattle.spec.specs.World.{State, answer, after}
use Rattle.spec.specs.History.{Entry, state, entry, entries, Ran, none_yet, one_more}

abbrev pub calls_of : List Entry → List Call
calls_of h = map (λ e. e.asked.call) h

pub ran : (s t : State) (h : List Entry) → Ran s h t → (t ≡ state s (calls_of h)) × (h ≡ entries s (calls_of h))
ran s t h none_yet = (refl, refl)
ran s t h (one_more {h = earlier} {t = before} {c = c} {r = r} x d) =
    let e = ran s before earlier x in (
      d.left ∙ ap (λ (y : State). after y c) e.0,
      ap (λ (y : Reply). entry before c y ∷ earlier) d.said ∙ ap₂ (λ (y : State) (k : List Entry). entry y c (answer y c) ∷ k) e.0 e.1,
    )
