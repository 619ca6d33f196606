-- The loop goes through the children in their order, and the other lines allow all steps.
use Rattle.std.proofs.Common.{ℕ, ◌<◌, length, get_or, ap, sym, subst, ◌∙◌, arith}
use Rattle.std.proofs.lemmas.List.{take_all}
use Rattle.std.specs.List.{fold}
use Rattle.graph_base.specs.Graphs.{task_at}
use Rattle.graph_runs.specs.NextBlocks.{child_allows}
use Rattle.stream_job.specs.Plans.{children_of}
use Rattle.stream_job.proofs.Blocks.{children-allow}
use Rattle.stream_job.proofs.ChildLists.{child_there}
use Rattle.stream_job.proofs.plan.Plan.children_allow.Goals as goal

pub parent_of-requires : goal.parent_of-requires
parent_of-requires c =
    let job = c.args.job.now in
    let same = c.children-c-items.ensures in
    let long = ap length same in
    let test = c.loop-c-test.true in
    subst (λ xs. get_or xs c.loop-c.c-index 0 < length job.graph.tasks) (sym same)
    (child_there job c.args.t c.loop-c.c-index (omega arith))

pub returns : goal.returns
returns c =
    let job = c.args.job.now in
    let long = ap length c.children-c-items.ensures in
    let past = c.loop-c-test.false in
    let allow : ℕ → ℕ → ℕ =
    λ s d. child_allows c.args.t c.args.begun (task_at job.graph d).parent s in
    c.loop-c.invariant
    ∙ ap (fold allow c.args.steps)
    (take_all c.loop-c.c-index (children_of job c.args.t) (omega arith))
    ∙ children-allow job c.args.t c.args.begun c.args.steps
