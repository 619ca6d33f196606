-- No more steps than the task makes of its own accord.
use Rattle.std.proofs.Common.{◌≤◌}
use Rattle.stream_tasks.proofs.task_state.TaskState.dealt_steps.Given as goal

abbrev pub invariant-loop-turn : goal.invariant-loop-turn
invariant-loop-turn l = l.steps ≤ l.self.own
