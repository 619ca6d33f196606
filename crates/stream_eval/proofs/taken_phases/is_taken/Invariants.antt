use Rattle.std.proofs.Common.{◌≡◌, ◌-◌, length}
use Rattle.std.specs.List.{range_with_len, list_any}
use Rattle.stream_lists.specs.Ranges.{task_takes}
use Rattle.stream_lists.specs.Spans.{schedule_of}
use Rattle.stream_eval.proofs.taken_phases.is_taken.Given as goal

-- none of the tasks before this one takes it
abbrev pub invariant-loop-t : goal.invariant-loop-t
invariant-loop-t l =
    list_any (task_takes l.job (schedule_of l.job) l.p l.n)
    (range_with_len 0 (length l.job.graph.tasks))
    ≡ list_any (task_takes l.job (schedule_of l.job) l.p l.n)
    (range_with_len l.t (length l.job.graph.tasks - l.t))
