use Rattle.std.proofs.Common.{◌≡◌, ℕ, ◌<◌, true}
use Rattle.worker_pool.specs.NumberSets.{has}
use Rattle.worker_pool.proofs.task_sets.TaskSets.first_apart.Given as goal

-- those that are left are of them
abbrev pub invariant-loop-task : goal.invariant-loop-task
invariant-loop-task l = (t : ℕ) → t < 64 → has l.rest t ≡ true → has l.fn.tasks t ≡ true

-- fewer are left each time
abbrev pub decreases-loop-task : goal.decreases-loop-task
decreases-loop-task l = l.rest.bits
