-- No child comes within these steps, so that all of them are allowed.
use Rattle.std.proofs.Common.{◌≡◌, ℕ, ◌-◌, ◌≤◌, length, refl, ap, sym, ◌∙◌, arith}
use Rattle.std.specs.List.{fold, range_with_len}
use Rattle.std.proofs.lemmas.Option.{slice_get_read}
use Rattle.graph_base.specs.Graphs.{task_at}
use Rattle.graph_runs.specs.NextBlocks.{child_allows, until_allows}
use Rattle.stream_job.specs.Plans.{IsTaskPlan}
use Rattle.stream_job.proofs.Blocks.{all-allow}
use Rattle.stream_job.proofs.plan.Plan.block.Goals as goal

pub returns-then-steps-saturating_sub : goal.returns-then-steps-saturating_sub
returns-then-steps-saturating_sub c = λ m begun.
    let job = c.args.job.now in
    let t = c.args.t in
    let b = c.args.begun in
    let steps = c.until_allows-steps.result in
    let plan = c.index-plan.result.now in
    let many = c.requires.plan.many in
    let there = c.requires.task in
    let is : IsTaskPlan job t plan =
    c.requires.plan.each t plan
    (slice_get_read c.args.self.now.tasks.items (length c.args.self.now.tasks.items) t plan refl
    (omega arith) c.index-plan.ensures) in
    let first : steps ≡ until_allows (task_at job.graph t).until b c.args.most =
    c.until_allows-steps.ensures
    ∙ ap (λ u. until_allows u b c.args.most) c.until_of.ensures in
    let left : steps ≤ plan.to - b =
    (omega (arith, c.if-steps-saturating_sub.true, c.saturating_sub.ensures)) in
    let lines = range_with_len 0 (length job.graph.tasks) in
    let all = all-allow job t plan.from plan.to b steps is.none c.if-plan-begun.true left in
    let allow : ℕ → ℕ → ℕ → ℕ = λ n s d. child_allows t n (task_at job.graph d).parent s in
    rw begun (ap (λ s. fold (allow b) s lines) (sym first) ∙ all)
