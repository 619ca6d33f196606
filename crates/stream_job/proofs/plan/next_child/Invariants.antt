use Rattle.std.proofs.Common.{◌≡◌, ℕ, ◌<◌, ◌≤◌, Some}
use Rattle.graph_base.specs.declared.line.Parent.{Parent}
use Rattle.graph_base.specs.Graphs.{task_at}
use Rattle.stream_job.proofs.plan.next_child.Given as goal

-- none of the tasks before this one comes earlier
abbrev pub invariant-loop-c : goal.invariant-loop-c
invariant-loop-c l =
    (d : ℕ) → d < l.c → (it : Parent) → (task_at l.job.graph d).parent ≡ Some it → it.task ≡ l.t
    → l.steps ≤ it.at → l.next ≤ it.at
