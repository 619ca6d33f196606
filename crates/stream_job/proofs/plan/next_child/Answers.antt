-- Nor does this task.
use Rattle.std.proofs.Common.{◌≡◌, ◌≤◌, Some, ◌∙◌, arith}
use Rattle.stream_lists.proofs.Basics.{one_more}
use Rattle.graph_base.specs.declared.line.Parent.{Parent}
use Rattle.graph_base.specs.Graphs.{task_at}
use Rattle.stream_job.proofs.plan.next_child.Goals as goal

pub loop-c-preserved : goal.loop-c-preserved
loop-c-preserved c =
    let job = c.args.job.now in
    one_more (λ d. (it : Parent) → (task_at job.graph d).parent ≡ Some it → it.task ≡ c.args.t
    → c.args.steps ≤ it.at → c.earlier-next.result ≤ it.at) c.loop-c.c
    (λ d lt it is of late.
    omega (arith, c.loop-c.invariant d lt it is of late, c.earlier-next.ensures.less))
    (λ it is of late. c.earlier-next.ensures.child it (c.parent_of.ensures ∙ is) of late)
