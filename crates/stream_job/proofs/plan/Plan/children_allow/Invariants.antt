-- What the first children allow.
use Rattle.std.proofs.Common.{◌≡◌, take}
use Rattle.std.specs.List.{fold}
use Rattle.graph_base.specs.Graphs.{task_at}
use Rattle.graph_runs.specs.NextBlocks.{child_allows}
use Rattle.stream_job.specs.Plans.{children_of}
use Rattle.stream_job.proofs.plan.Plan.children_allow.Given as goal

abbrev pub invariant-loop-c : goal.invariant-loop-c
invariant-loop-c l =
    l.allowed
    ≡ fold (λ s c. child_allows l.t l.begun (task_at l.job.graph c).parent s) l.steps
    (take l.c-index (children_of l.job l.t))
