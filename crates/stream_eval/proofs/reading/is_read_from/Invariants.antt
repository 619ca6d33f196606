use Rattle.std.proofs.Common.{◌≡◌, ◌-◌, length}
use Rattle.std.specs.List.{range_with_len, list_any}
use Rattle.stream_eval.specs.Composing.{reads_from}
use Rattle.stream_eval.proofs.reading.is_read_from.Given as goal

-- none of the tasks before this one reads it
abbrev pub invariant-loop-t : goal.invariant-loop-t
invariant-loop-t l =
    list_any (reads_from l.job l.p l.q) (range_with_len 0 (length l.job.graph.tasks))
    ≡ list_any (reads_from l.job l.p l.q) (range_with_len l.t (length l.job.graph.tasks - l.t))
