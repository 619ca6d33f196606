use Rattle.phase_stream.specs.Sessions.{Forgets}
use Rattle.phase_stream.proofs.session.forget_all.Given as goal

-- the stream stands so after the sinks before this one
abbrev pub invariant-loop-sink : goal.invariant-loop-sink
invariant-loop-sink l = Forgets l.sink l.fn.stream l.stream
