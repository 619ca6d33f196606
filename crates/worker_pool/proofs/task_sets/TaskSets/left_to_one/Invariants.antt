use Rattle.worker_pool.proofs.task_sets.TaskSets.left_to_one.Given as goal

-- fewer are left each time
abbrev pub decreases-loop-task : goal.decreases-loop-task
decreases-loop-task l = l.rest.bits
