-- States, part by part.
use mathlib.Core.Path.{◌≡◌, ap₂}
use Rattle.spec.specs.Frames.{Store}
use Rattle.spec.specs.World.{State}
use Rattle.spec.specs.declared.Procs.{Procs}
use Rattle.spec.specs.declared.Setup.{Setup}

pub state-is : (u : Setup) (m m' : Store) (ps ps' : Procs) → m ≡ m' → ps ≡ ps' → ◌≡◌ {A = State} (record { setup = u; store = m; procs = ps }) (record { setup = u; store = m'; procs = ps' })
state-is u m m' ps ps' e f = ap₂ (λ (x : Store) (y : Procs). record { setup = u; store = x; procs = y }) e f
