use Rattle.std.proofs.Common.{◌≡◌, ◌+◌, length}
use Rattle.stream_workers.specs.TasksLeft.{AreTasksLeft}
use Rattle.stream_workers.proofs.endings.end_all.Given as goal

-- what those so far leave behind, and the rest
abbrev pub invariant-loop-place : goal.invariant-loop-place
invariant-loop-place g l = (l.pool + length l.ends.items ≡ l.fn.pool)
    × AreTasksLeft g.J.Run.job g.J.Run.spots l.ends.items

abbrev pub decreases-loop-place : goal.decreases-loop-place
decreases-loop-place g l = l.pool
