-- `decimal` meets its contract. The invariant: the bytes up to `b-index` are digits, which stand for `n`.
use Rattle.std.proofs.Common.{◌≡◌, drop}
use Rattle.replay_buffers.specs.Words.{number_from, number_of}
use Rattle.replay_buffers.proofs.words.decimal.Given as goal

abbrev pub invariant-loop-b : goal.invariant-loop-b
invariant-loop-b l = number_of l.word ≡ number_from l.n (drop l.b-index l.word)
