-- A task's steps are the most so far, or less than them.
use Rattle.std.proofs.Common.{◌≡◌, ℕ, ◌+◌, ◌<◌, ◌≤◌, ap, ◌∙◌, ◌⊎◌, inl, inr, arith}
use Rattle.std.proofs.lemmas.Bool.{cases_lt}
use Rattle.graph_base.specs.Graphs.{task_at}
use Rattle.stream_job.specs.Buffers.{most_steps}
use Rattle.stream_job.specs.declared.buffers.TheConstants.{OWN_STEPS}
use Rattle.stream_job.proofs.buffers.greatest_steps.Goals as goal

pub loop-t-preserved : goal.loop-t-preserved
loop-t-preserved c =
    let most : (c.loop-t.most ≤ c.max-most.result) × (c.task.result.now.block ≤ c.max-most.result) =
    grind (arith, c.max-most.ensures) in
    let own : OWN_STEPS ≤ c.loop-t.most = c.loop-t.invariant.0 in (
      omega (arith, own, most.0),
      λ u lt.
          (let here : c.task.result.now.block ≡ (task_at c.args.job.now.graph c.loop-t.t).block =
          ap (λ t. t.block) c.task.ensures.task
          ∙ ap (λ g. (task_at g c.loop-t.t).block) c.graph-in-loop-t.ensures.graph in
          by u most.0 most.1 here own lt (cases_lt u c.loop-t.t)),
    )
  where
    by : (u : ℕ) → c.loop-t.most ≤ c.max-most.result
        → c.task.result.now.block ≤ c.max-most.result
        → c.task.result.now.block ≡ (task_at c.args.job.now.graph c.loop-t.t).block
        → OWN_STEPS ≤ c.loop-t.most → u < c.loop-t.t + 1 → (u < c.loop-t.t) ⊎ (c.loop-t.t ≤ u)
        → most_steps c.args.job.now u ≤ c.max-most.result
    by u more few here own lt (inl before) =
        omega (arith, c.loop-t.invariant.1 u before)
    by u more few here own lt (inr at) =
        let same : u ≡ c.loop-t.t = omega arith in
        let it : (task_at c.args.job.now.graph u).block
        ≡ (task_at c.args.job.now.graph c.loop-t.t).block =
        ap (λ v. (task_at c.args.job.now.graph v).block) same in
        omega arith
