-- The values before this one are in range.
use Rattle.std.proofs.Common.{◌≡◌, drop}
use Rattle.stream_job.specs.Stepping.{in_range}
use Rattle.stream_job.proofs.task_state.TaskState.are_in_range.Given as goal

abbrev pub invariant-loop-value : goal.invariant-loop-value
invariant-loop-value l = in_range l.self.made.items ≡ in_range (drop l.value-index l.self.made.items)
