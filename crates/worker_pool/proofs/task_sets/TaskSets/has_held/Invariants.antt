use Rattle.worker_pool.proofs.task_sets.TaskSets.has_held.Given as goal

-- fewer are left each time
abbrev pub decreases-loop-task : goal.decreases-loop-task
decreases-loop-task l = l.rest.bits
