-- A process that may be replaced.
use Prim.Native.Nat.{ℕ}
use mathlib.Core.Path.{◌≡◌}
use mathlib.Core.Bool.{true}
use mathlib.Core.List.{List}
use Rattle.spec.specs.Frames.{store}
use Rattle.spec.specs.World.{State, state_of}
use Rattle.spec.specs.declared.Procs.{Procs}
use Rattle.spec.specs.declared.Setup.{Setup}
use Rattle.spec_laws.proofs.Record.{Whole}
use Rattle.exec.specs.declared.Plan.{Plan}
use Rattle.call_front.specs.Numbers.{plain_error}
use Rattle.call_front.proofs.FirstNumbers.{Passed, plain-none, sizes-words}
use Rattle.call_front.proofs.Living.{passed-sound}
use Rattle.call_replace.specs.Entering.{Enterable}

module _ (setup : Setup) (frames book : List ℕ) (procs : Procs) (n : ℕ) (whole : Whole procs) (first : plain_error (state_of setup frames book procs) n true ≡ 0) where
  abbrev s : State
  s = state_of setup frames book procs

  passed : Passed s n true
  passed = (plain-none s n true first).0

  pub enterable : (plan : Plan) → plan.image.setup ≡ setup → Enterable (store frames book) n plan
  enterable plan same =
      let z = sizes-words frames book passed.sizes in
      record { sizes = z.0; words = z.3; most = z.2; mappings = rw same (passed-sound s n true whole passed).mappings; number = passed.number }
