-- The same of a `Pass`, which has the book, the plan, and the ranks of the process that makes the call.
-- Assumes nothing.
use Rattle.std.specs.Prelude.{ℕ, Bool, List, Option}
use Rattle.sound_table.specs.declared.Pass.{Pass}
use Rattle.sound_table.specs.Table.{Planned, Noted, Entered, Near, Passes, Passed}

-- the first n places are passed, with these bits and this table
abbrev pub Going : Pass → List ℕ → List ℕ → ℕ → Type 0
Going p bits table n = Planned p.book.now p.plan.now.tags p.plan.now.bases n × Noted p.book.now p.plan.now.tags p.plan.now.bases p.own p.pages bits table n

-- a word is entered, by any part, and by one
abbrev pub Enters : Pass → List ℕ → List ℕ → List ℕ → List ℕ → ℕ → ℕ → Bool → Type 0
Enters p bits table bits' later w k r = Entered p.plan.now.tags p.plan.now.bases p.own p.pages bits table bits' later w k r

abbrev pub EntersNear : Pass → List ℕ → List ℕ → List ℕ → List ℕ → ℕ → ℕ → Option Bool → Type 0
EntersNear p bits table bits' later w k r = Near p.plan.now.tags p.plan.now.bases p.own p.pages bits table bits' later w k r

-- frame k is passed, and all frames below c
abbrev pub PassesFrame : Pass → List ℕ → List ℕ → ℕ → Bool → Type 0
PassesFrame p bits later k r = Passes p.book.now p.plan.now.tags p.plan.now.bases p.own p.pages bits later k r

abbrev pub PassesTo : Pass → List ℕ → List ℕ → ℕ → Bool → Type 0
PassesTo p bits later c r = Passed p.book.now p.plan.now.tags p.plan.now.bases p.own p.pages bits later c r
