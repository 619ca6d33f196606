use Rattle.stream_lists.specs.Jobs.{least}
use Rattle.stream_lists.specs.Spans.{span_in}
use Rattle.stream_job.proofs.StreamLines.{AreLinesBefore}
use Rattle.stream_job.proofs.opening.opened_lines.Given as goal

-- the sinks among the tasks before this one
abbrev pub invariant-loop-t : goal.invariant-loop-t
invariant-loop-t l =
    AreLinesBefore l.job (λ t. (span_in (least l.job) t).steps) l.t l.lines.items
