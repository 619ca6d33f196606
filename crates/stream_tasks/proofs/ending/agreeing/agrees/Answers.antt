-- What was found of the task and of its parent.
use Rattle.std.proofs.Common.{◌≡◌, Some, None, IfSome, sym, ap, subst, ◌∙◌}
use Rattle.graph_base.specs.Graphs.{Graph, Task, task_at}
use Rattle.stream_tasks.specs.Joinings.{IsPlaced}
use Rattle.stream_tasks.specs.TaskLefts.{given_to}
use Rattle.stream_tasks.proofs.Agreed.{agreed_root, agreed_child, found_part, same_lists}
use Rattle.stream_tasks.proofs.ending.agreeing.agrees.Goals as goal

pub returns-in_default : goal.returns-in_default
returns-in_default c = λ e.
    (let root : (task_at c.args.job.now.graph c.args.c).parent ≡ None =
    ap (λ (g : Graph). (task_at g c.args.c).parent) (sym c.graph.ensures.graph)
    ∙ (ap (λ (t : Task). t.parent) (sym c.task.ensures.task) ∙ c.in_default.is) in
    let found = found_part c.part_at-own.result (λ part. IsPlaced c.args.parts.now c.args.c part.now)
    (sym c.is_some.ensures ∙ e) c.part_at-own.ensures.some in
    agreed_root c.args.job.now c.args.parts.now c.args.c found.0.now root found.1)

pub returns-then-parent-above : goal.returns-then-parent-above
returns-then-parent-above c = λ e.
    (let has : (task_at c.args.job.now.graph c.args.c).parent ≡ Some c.in-Some.parent =
    ap (λ (g : Graph). (task_at g c.args.c).parent) (sym c.graph.ensures.graph)
    ∙ (ap (λ (t : Task). t.parent) (sym c.task.ensures.task) ∙ c.in-Some.is) in
    let own : IsPlaced c.args.parts.now c.args.c c.in-Some-Some.own.now =
    subst (λ o. IfSome o (λ part. IsPlaced c.args.parts.now c.args.c part.now)) c.in-Some-Some.is-0
    c.part_at-own.ensures.some in
    let above : IsPlaced c.args.parts.now c.in-Some.parent.task c.in-Some-Some.above.now =
    subst (λ o. IfSome o (λ part. IsPlaced c.args.parts.now c.in-Some.parent.task part.now))
    c.in-Some-Some.is-1 c.part_at.ensures.some in
    let same : given_to c.in-Some-Some.above.now.given.items c.args.c
    ≡ c.in-Some-Some.own.now.numbers.items =
    ap (λ l. given_to l c.args.c) (sym c.deref-then-parent-above.ensures.value)
    ∙ (sym c.given_to-then-parent-above.ensures
    ∙ (same_lists c.given_to-then-parent-above.result.now c.as_slice.result.now
    (sym c.eq.ensures ∙ e) ∙ c.as_slice.ensures)) in
    agreed_child c.args.job.now c.args.parts.now c.args.c c.in-Some.parent c.in-Some-Some.own.now
    c.in-Some-Some.above.now has own above c.if-parent-above.true same)
