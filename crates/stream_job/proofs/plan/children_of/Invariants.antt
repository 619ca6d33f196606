use Rattle.std.proofs.Common.{◌≡◌}
use Rattle.std.specs.List.{range_with_len, filter}
use Rattle.graph_base.specs.Graphs.{task_at}
use Rattle.stream_job.specs.Plans.{is_child_of}
use Rattle.stream_job.proofs.plan.children_of.Given as goal

-- the children among the tasks before this one
abbrev pub invariant-loop-c : goal.invariant-loop-c
invariant-loop-c l =
    l.children.items
    ≡ filter (λ c. is_child_of l.t (task_at l.job.graph c).parent) (range_with_len 0 l.c)
