-- A source's input is at its number, and keeps what it has still to signal.
use Rattle.std.proofs.Common.{◌≡◌, ◌<◌, ◌≤◌, true, length, sym, ap, ◌∙◌, arith}
use Rattle.graph_base.specs.Graphs.{is_source, sources_of, task_at}
use Rattle.graph_base.specs.declared.limits.TheConstants.{TASKS_MAX}
use Rattle.stream_job.proofs.Awaiting.{few_sources, input_there, input_read, no_source, of_source}
use Rattle.stream_job.proofs.stream_stops.awaited.Goals as goal
use Rattle.stream_job.proofs.stream_stops.awaited.Goals.{After-index}

pub returns-then-not-is_source : goal.returns-then-not-is_source
returns-then-not-is_source c = λ s m each at kept.
    no_source c.args.job.now c.args.machine.now c.args.inputs.now s m c.args.t
    (ap (λ g. is_source (task_at g c.args.t).kind) (sym c.graph.ensures.graph)
    ∙ sym c.is_source.ensures ∙ c.if-not-is_source.true)
    c.requires.inputs each at kept

is_one : (c : After-index) → is_source (task_at c.args.job.now.graph c.args.t).kind ≡ true
is_one c =
    ap (λ g. is_source (task_at g c.args.t).kind) (sym c.graph.ensures.graph)
    ∙ sym c.is_source.ensures ∙ c.if-not-is_source.false

there : (c : After-index) → c.index.result.now.source < length c.args.inputs.now
there c =
    input_there c.args.job.now c.args.plan.now c.args.inputs.now c.args.t c.index.result.now
    c.requires.plan c.requires.inputs c.requires.task (is_one c) c.index.ensures

pub offset_bounds-inputs-index : goal.offset_bounds-inputs-index
offset_bounds-inputs-index c =
    let graph = c.args.job.now.graph in
    let few : sources_of graph ≤ TASKS_MAX =
    few_sources graph c.requires.machine.1.1.graph.few_tasks in
    let many : length c.args.inputs.now ≡ sources_of graph = c.requires.inputs.many in
    let lt = there (goal.at.offset_bounds-inputs-index c).After-index in
    omega arith

pub bounds-inputs-index : goal.bounds-inputs-index
bounds-inputs-index c = there (goal.at.bounds-inputs-index c).After-index

pub returns : goal.returns
returns c = λ s m each at kept.
    of_source c.args.job.now c.args.machine.now c.args.inputs.now s m c.args.t
    c.index-2.result.now c.index-inputs-index.result c.awaits.result.now c.requires.task
    (is_one (goal.at.returns c).After-index) c.index-2.ensures
    (input_read c.args.job.now c.args.plan.now c.args.inputs.now c.args.t c.index.result.now
    c.index-inputs-index.result c.requires.plan c.requires.inputs c.requires.task
    (is_one (goal.at.returns c).After-index) c.index.ensures c.index-inputs-index.is)
    c.awaits.ensures at kept
