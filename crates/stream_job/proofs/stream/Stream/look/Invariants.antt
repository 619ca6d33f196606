-- Nothing changed, and of the tasks so far it is known who rests and who stands.
use Rattle.std.proofs.Common.{◌≡◌}
use Rattle.stream_job.specs.Rounds.{LooksSo}
use Rattle.stream_job.proofs.stream.Stream.look.Given as goal

abbrev pub invariant-loop-t : goal.invariant-loop-t
invariant-loop-t l = (l.self ≡ l.fn.self) × LooksSo l.fn.self l.t l.before
