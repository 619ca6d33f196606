use Rattle.std.proofs.Common.{◌+◌, ◌-◌, ◌*◌}
use Rattle.thread_tests.proofs.churn.+by_parts+fn-by_parts-join_mut+arg2+fn-by_parts-join_mut+arg3.Given as goal

-- a thread has fewer parts than all
abbrev pub decreases-by_parts : goal.decreases-by_parts
decreases-by_parts g l = 2 * l.parts

abbrev pub decreases-join_mut+arg2 : goal.decreases-join_mut+arg2
decreases-join_mut+arg2 g l = 2 * (l.parts - l.half) + 1

abbrev pub decreases-join_mut+arg3 : goal.decreases-join_mut+arg3
decreases-join_mut+arg3 g l = 2 * l.half + 1
