use Rattle.stream_job.specs.Streams.{line_room}
use Rattle.stream_job.proofs.StreamLines.{AreLinesBefore}
use Rattle.stream_job.proofs.sink_lines.bounded_lines.Given as goal

-- the sinks among the tasks before this one
abbrev pub invariant-loop-t : goal.invariant-loop-t
invariant-loop-t l = AreLinesBefore l.job (line_room l.job) l.t l.lines.items
