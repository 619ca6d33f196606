-- In each round so far some event was made.
use Rattle.std.proofs.Common.{◌≡◌, None}
use Rattle.stream_job.specs.Streams.{StreamMoves}
use Rattle.stream_job.proofs.stream.Stream.rounds.Given as goal

abbrev pub invariant-loop : goal.invariant-loop
invariant-loop l = StreamMoves l.counter l.fn.self l.self × (l.self.met ≡ None)
