-- The plan of a task stands behind those before it.
use Rattle.std.proofs.Common.{◌≡◌, [], ◌∷◌, ◌++◌, length, sym, ap, subst, ◌∙◌, arith}
use Rattle.std.specs.Prelude.{slice_get}
use Rattle.std.proofs.lemmas.List.{length-append}
use Rattle.stream_lists.proofs.Basics.{each-push}
use Rattle.graph_base.specs.Graphs.{Graph, source_number}
use Rattle.stream_job.specs.Plans.{IsTaskPlan}
use Rattle.stream_job.specs.declared.plan.TaskPlan.{TaskPlan}
use Rattle.stream_job.proofs.plan.Plan.new.Goals as goal

pub loop-t-preserved : goal.loop-t-preserved
loop-t-preserved c =
    let job = c.args.job.now in
    let tasks = c.loop-t.tasks.items in
    let one : TaskPlan = record {
      children = c.in_ok-children_of.field-0;
      source = c.source_number.result;
      from = 0;
      to = c.next_child.result;
    } in
    let items : c.push.new.self.items ≡ tasks ++ one ∷ [] = c.in_ok-push.ensures.items in
    let many = c.loop-t.invariant.0 in
    let more = length-append tasks (one ∷ []) in
    let long : length c.push.new.self.items ≡ length (tasks ++ one ∷ []) = ap length items in
    let here : IsTaskPlan job (length tasks) one =
    subst (λ u. IsTaskPlan job u one) (sym many)
    (record {
      children = c.in_ok-children_of.ensures;
      source = c.source_number.ensures
          ∙ ap (λ (graph : Graph). source_number graph.tasks c.loop-t.t) c.graph-in-loop-t.ensures.graph;
      none = c.next_child.ensures;
    }) in
    let all = each-push (IsTaskPlan job) tasks one c.loop-t.invariant.1 here in (
      omega arith,
      λ u it e. all u it (ap (λ l. slice_get l u) (sym items) ∙ e),
    )
