use Rattle.std.proofs.Common.{◌≡◌, length}
use Rattle.phase_stream.proofs.Sinking.{sinks_before}
use Rattle.phase_stream.proofs.sink.sink_number.Given as goal

-- the sinks before this task were counted
abbrev pub invariant-loop-t : goal.invariant-loop-t
invariant-loop-t l = l.number ≡ length (sinks_before l.job l.t)
