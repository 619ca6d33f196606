-- A parent more, or none.
use Rattle.std.proofs.Common.{◌≡◌, ◌≤◌, ◌∙◌, ℕ, None, Some, length, sym, ap, subst, arith}
use Rattle.graph_base.specs.Graphs.{Graph, Task, task_at}
use Rattle.graph_base.specs.TaskLines.{IsGraph}
use Rattle.phase_stream.specs.Columns.{least_start}
use Rattle.stream_lists.proofs.SpansAbove.{parent-is}
use Rattle.phase_stream.proofs.LeastStarts.{least_few, least_of_child, least_of_first, least_of_root}
use Rattle.phase_stream.proofs.column.least_start.Goals as goal

pub returns-in-None : goal.returns-in-None
returns-in-None c =
    let job = c.args.job.now in
    let at : ℕ = c.loop.at in
    let graph : IsGraph job.graph = subst IsGraph c.graph.ensures.graph c.tasks-tasks.ensures.graph in
    let root : (task_at job.graph at).parent ≡ None =
    subst (λ (g : Graph). (task_at g at).parent ≡ None) c.graph-in-loop.ensures.graph
    (sym (ap (λ (t : Task). t.parent) c.task.ensures.task) ∙ c.in-None.is) in
    let none = least_of_root job at graph c.loop.invariant.0 root in
    let behind = c.loop.invariant.2 in
    omega (arith, none, behind)

pub loop-preserved : goal.loop-preserved
loop-preserved c =
    let job = c.args.job.now in
    let at : ℕ = c.loop.at in
    let u = c.in-Some.parent in
    let graph : IsGraph job.graph = subst IsGraph c.graph.ensures.graph c.tasks-tasks.ensures.graph in
    let parent : (task_at job.graph at).parent ≡ Some u =
    subst (λ (g : Graph). (task_at g at).parent ≡ Some u) c.graph-in-loop.ensures.graph
    (sym (ap (λ (t : Task). t.parent) c.task.ensures.task) ∙ c.in-Some.is) in
    let there = c.loop.invariant.0 in
    let within = c.loop.invariant.1 in
    let behind = c.loop.invariant.2 in
    let above = (parent-is job.graph at (task_at job.graph at) u (graph.tasks at there) parent).above in
    let child = least_of_child job at u graph there parent in
    let inside = c.requires in
    let few = least_few job (length job.graph.tasks) c.args.task graph inside inside in
    let tasks : length job.graph.tasks ≤ 64 = graph.few_tasks in
    let sum = c.saturating_add-start.ensures in (
      omega (arith, above, there),
      omega (arith, above, within),
      omega (arith, sum, behind, child, few, tasks, inside),
    )

pub returns : goal.returns
returns c =
    let job = c.args.job.now in
    let at : ℕ = c.loop.at in
    let graph : IsGraph job.graph = subst IsGraph c.graph.ensures.graph c.tasks-tasks.ensures.graph in
    let there = c.loop.invariant.0 in
    let within = c.loop.invariant.1 in
    let far = c.loop-test.false in
    let behind = c.loop.invariant.2 in
    let first : at ≡ 0 = omega (arith, within, far) in
    let none : least_start job at ≡ 0 =
    ap (least_start job) first ∙ least_of_first job graph (omega (arith, there)) in
    omega (arith, none, behind)
