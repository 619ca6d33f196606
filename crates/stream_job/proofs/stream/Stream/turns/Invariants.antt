-- Each turn so far made an event, behind those of the steps in a row.
use Rattle.std.proofs.Common.{◌≡◌, ◌+◌, None}
use Rattle.stream_job.specs.Rounds.{of_moved}
use Rattle.stream_job.specs.Streams.{StreamMoves}
use Rattle.stream_job.proofs.stream.Stream.turns.Given as goal

abbrev pub invariant-loop-made : goal.invariant-loop-made
invariant-loop-made l =
    StreamMoves (of_moved l.passed + l.made) l.fn.self l.self × (l.self.met ≡ None)
