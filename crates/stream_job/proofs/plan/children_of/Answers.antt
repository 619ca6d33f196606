-- A child stands behind those before it.
use Rattle.std.proofs.Common.{ℕ, Bool, ◌∷◌, [], ◌++◌, sym, ap, ◌∙◌}
use Rattle.stream_lists.proofs.Firsts.{filter-skip, filter-take}
use Rattle.graph_base.specs.Graphs.{task_at}
use Rattle.stream_job.specs.Plans.{is_child_of}
use Rattle.stream_job.proofs.plan.children_of.Goals as goal
use Rattle.stream_job.proofs.plan.children_of.Goals.{then-is_child_of+in_ok-push, else-is_child_of}

pub loop-c-preserved : goal.loop-c-preserved
loop-c-preserved c =
    let job = c.args.job.now in
    let child : ℕ → Bool = λ d. is_child_of c.args.t (task_at job.graph d).parent in
    let d : ℕ = c.loop-c.c in
    let told = c.is_child_of.ensures ∙ ap (is_child_of c.args.t) c.parent_of.ensures in
    elim c.if-is_child_of.branch [
      | then-is_child_of+in_ok-push w ↦
          rw (w.children-is, w.in_ok-push.ensures.items)
          (ap (λ xs. xs ++ d ∷ []) c.loop-c.invariant
          ∙ sym (filter-take child d (sym told ∙ w.if-is_child_of.true)))
      | else-is_child_of w ↦
          rw w.children-is
          (c.loop-c.invariant ∙ sym (filter-skip child d (sym told ∙ w.if-is_child_of.false)))
    ]
