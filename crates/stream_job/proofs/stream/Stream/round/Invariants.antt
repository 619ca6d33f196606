-- Some event was made, where some task moved.
use Rattle.std.proofs.Common.{◌≡◌, None}
use Rattle.stream_job.specs.Rounds.{of_moved}
use Rattle.stream_job.specs.Streams.{StreamMoves}
use Rattle.stream_job.proofs.stream.Stream.round.Given as goal

abbrev pub invariant-loop-t : goal.invariant-loop-t
invariant-loop-t l = StreamMoves (of_moved l.moved) l.fn.self l.self × (l.self.met ≡ None)
