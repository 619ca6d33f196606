use Rattle.std.proofs.Common.{◌+◌, ◌-◌, ◌*◌}
use Rattle.thread_tests.proofs.counting.+count_apart+fn-count_apart-join+arg2+fn-count_apart-join+arg3.Given as goal

-- a thread has fewer parts than all
abbrev pub decreases-count_apart : goal.decreases-count_apart
decreases-count_apart g l = 2 * l.parts

abbrev pub decreases-join+arg2 : goal.decreases-join+arg2
decreases-join+arg2 g l = 2 * (l.parts - l.half) + 1

abbrev pub decreases-join+arg3 : goal.decreases-join+arg3
decreases-join+arg3 g l = 2 * l.half + 1
