-- What the filter has made so far.
use Rattle.std.proofs.Common.{◌≡◌, ◌≤◌, ◌-◌, map, length}
use Rattle.std.specs.Prelude.{take, vec_capacity}
use Rattle.graph_base.specs.Graphs.{task_at}
use Rattle.stream_lists.specs.Lists.{number}
use Rattle.stream_tasks.proofs.Taking.{MadeSoFar}
use Rattle.stream_tasks.proofs.turn.filter_all.Given as goal

abbrev pub invariant-loop-at : goal.invariant-loop-at
invariant-loop-at l =
    MadeSoFar (task_at l.job.graph l.t) (map number (take l.at l.outcomes)) l.fn.filter l.filter
    l.made.items
    × (vec_capacity l.made ≡ vec_capacity l.fn.made)
    × (l.at ≤ length l.outcomes)

-- the outcomes that are left
abbrev pub decreases-loop-at : goal.decreases-loop-at
decreases-loop-at l = length l.outcomes - l.at
