-- `place` meets its contract. The invariant: word `counter` starts at `at`.
use Rattle.std.proofs.Common.{◌≡◌}
use Rattle.replay_buffers.specs.Words.{place_of}
use Rattle.replay_buffers.proofs.words.place.Given as goal

abbrev pub invariant-loop : goal.invariant-loop
invariant-loop l = l.at ≡ place_of l.line l.counter
