-- The child at the place that was looked up is this task.
use Rattle.std.proofs.Common.{◌≡◌, ◌≤◌, ◌<◌, ℕ, length, Some, sym, subst, ap, ◌∙◌, arith}
use Rattle.std.specs.Prelude.{slice_get}
use Rattle.std.proofs.lemmas.Bool.{leb-true}
use Rattle.std.proofs.lemmas.Option.{slice_get-get_or}
use Rattle.graph_base.specs.Graphs.{Graph, task_at}
use Rattle.graph_base.specs.Registrations.{registrations_of}
use Rattle.graph_runs.specs.Nexts.{registrations_at}
use Rattle.stream_tasks.proofs.task_state.TaskState.is_registered.Goals as goal

pub registrations-requires : goal.registrations-requires
registrations-requires c =
    let l = c.in-Some.ensures.lookup.3 in
    let items = c.deref.result.now in
    let found : slice_get c.args.self.now.children.items c.args.i ≡ Some c.in-Some.child.now =
    ap (λ xs. slice_get xs c.args.i) (sym c.deref.ensures.value)
    ∙ slice_get-get_or items c.args.i c.in-Some.child.now l.0
    ∙ ap Some (sym (l.1 c.in-Some.child.now)) in
    subst (λ (graph : Graph). c.in-Some.child.now.task < length graph.tasks) (sym c.graph.ensures.graph)
    (c.requires.children.each c.args.i c.in-Some.child.now found).of_task.there

pub returns-clause-registered : goal.returns-clause-registered
returns-clause-registered c = λ yes.
    let l = c.in-Some.ensures.lookup.3 in
    let items = c.deref.result.now in
    let found : slice_get c.args.self.now.children.items c.args.i ≡ Some c.in-Some.child.now =
    ap (λ xs. slice_get xs c.args.i) (sym c.deref.ensures.value)
    ∙ slice_get-get_or items c.args.i c.in-Some.child.now l.0
    ∙ ap Some (sym (l.1 c.in-Some.child.now)) in
    let is : c.in-Some.child.now.task ≡ c.args.task = c.if-child-task.false in
    let count : c.registrations.result ≡ length (registrations_at c.args.job.now c.args.task) =
    c.registrations.ensures.count
    ∙ ap (λ (graph : Graph). length (registrations_of graph (task_at graph c.in-Some.child.now.task))) c.graph.ensures.graph
    ∙ ap (λ (t : ℕ). length (registrations_at c.args.job.now t)) is in
    let made : c.registrations.result ≤ c.len.result = leb-true c.registrations.result c.len.result yes in
    let long : c.len.result ≡ length c.in-Some.child.now.numbers.items = c.len.ensures.value in
    let few = c.registrations.ensures.few in record {
      kid = c.in-Some.child.now;
      found = found;
      task = is;
      all = omega arith;
      few = omega arith;
    }
