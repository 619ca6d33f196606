use Rattle.std.proofs.Common.{◌≡◌, ℕ, ◌≤◌, Some, length}
use Rattle.std.specs.Prelude.{slice_get}
use Rattle.std.specs.List.{filter, range_with_len}
use Rattle.stream_lists.specs.Lists.{is_sink_at}
use Rattle.stream_job.specs.declared.task_state.TaskState.{TaskState}
use Rattle.stream_job.specs.Places.{IsOpened}
use Rattle.stream_job.proofs.opened_tasks.opened_tasks.Given as goal

-- the states of the tasks before this one, and how many of them are sinks
abbrev pub invariant-loop-t : goal.invariant-loop-t
invariant-loop-t l =
    (length l.tasks.items ≡ l.t)
    × ((t : ℕ) (state : TaskState) → slice_get l.tasks.items t ≡ Some state
    → IsOpened l.own l.job t state)
    × (l.sinks ≡ length (filter (is_sink_at l.job) (range_with_len 0 l.t)))
    × (l.sinks ≤ l.t)
