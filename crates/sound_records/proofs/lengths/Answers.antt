-- `lengths` meets its contract: it owns the records.
use Rattle.spec_laws.proofs.Record.{Whole}
use Rattle.sound_records.proofs.Whole.{whole-procs}
use Rattle.sound_records.proofs.lengths.Goals as goal
use Rattle.sound_records.proofs.lengths.Goals.{Start}

whole : (c : Start) → Whole c.args.procs
whole c = let g = c.well_formed.0.1.1.0 in whole-procs c.args.procs g.0 g.1.1 g.1.0.1

pub returns-clause-records : goal.returns-clause-records
returns-clause-records c = (whole (goal.at.returns-clause-records c).Start).records

pub returns-clause-each : goal.returns-clause-each
returns-clause-each c = let w = whole (goal.at.returns-clause-each c).Start in λ i. ((w.each i).segments, (w.each i).text)
