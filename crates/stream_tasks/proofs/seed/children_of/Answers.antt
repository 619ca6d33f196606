-- The next task is a child or not.
use Rattle.std.proofs.Common.{◌≡◌, ◌<◌, length, sym, ap, refl, ◌∙◌, subst, ◌+◌, Option, Some, None}
use Rattle.graph_base.specs.Graphs.{Graph}
use Rattle.stream_tasks.specs.Seeds.{AreChildrenBelow}
use Rattle.stream_tasks.specs.Children.{TellsChild}
use Rattle.stream_tasks.proofs.Seeding.{one_child, other_task}
use Rattle.stream_tasks.proofs.seed.children_of.Goals as goal
use Rattle.stream_tasks.proofs.seed.children_of.Goals.{in-Some+in_ok-push, in_default}

-- an answer that is none
none : {X : Type 0} (o : Option X) → ((x : X) → o ≡ Some x → ⊥) → o ≡ None
none None not = refl
none (Some x) not = absurd (not x refl)

pub loop-c-preserved : goal.loop-c-preserved
loop-c-preserved c =
    let job = c.args.job.now in
    let t = c.args.task in
    let n = c.loop-c.c in
    let children = c.loop-c.children.items in
    let few : n < length job.graph.tasks =
    subst (λ many. n < many)
    (c.tasks-c-end.ensures.count ∙ ap (λ (g : Graph). length g.tasks) c.graph.ensures.graph)
    c.loop-c-test.true in
    elim c.match-child_of.branch [
      | in-Some+in_ok-push w ↦
          (let told = w.in-Some.ensures in
          subst (AreChildrenBelow job t (n + 1))
          (sym (ap (λ v. v.items) w.children-is ∙ w.in_ok-push.ensures.items))
          (one_child job t n children _ told.0 c.loop-c.invariant few refl told.1 told.2 told.3
          w.new.ensures.items))
      | in_default w ↦
          (subst (AreChildrenBelow job t (n + 1)) (sym (ap (λ v. v.items) w.children-is))
          (other_task job t n children c.loop-c.invariant
          (subst (TellsChild job t n) (none c.child_of.result w.in_default.not-Some)
          c.child_of.ensures)))
    ]
