-- A block of the line, or as many steps as the bound of its phaser allows.
use Rattle.std.proofs.Common.{◌≡◌, ℕ, ◌≤◌, sym, ap, subst, ◌∙◌}
use Rattle.graph_base.specs.declared.line.Kind.TheVariants.{Sink, Source}
use Rattle.graph_base.specs.Graphs.{is_sink, is_source, phaser_at, task_at}
use Rattle.graph_runs.specs.Answers.{output_at}
use Rattle.graph_runs.specs.Moments.{input_at}
use Rattle.stream_lists.specs.Jobs.{Job, with_samples}
use Rattle.stream_lists.proofs.Basics.{sink_kind, source_kind}
use Rattle.stream_job.specs.Stepping.{MayStep}
use Rattle.stream_job.specs.Streams.{StreamState}
use Rattle.stream_job.proofs.Mosts.{line_may, may_signal_in}
use Rattle.stream_job.proofs.OwnSteps.{sink_may, source_may}
use Rattle.stream_job.proofs.stream.Stream.own_steps.Goals as goal
use Rattle.stream_job.proofs.stream.Stream.own_steps.Goals.{After-line_block-block}

-- what may be made by the fields may be made by the stream
as_view : (c : After-line_block-block) (steps : ℕ)
    → MayStep c.self.inside.job c.self.inside.machine c.args.t steps
    → MayStep c.args.self.now.job c.args.self.now.machine c.args.t steps
as_view c steps may =
    let P : StreamState → Type 0 = λ w. MayStep w.job w.machine c.args.t steps in
    subst P c.self.view_is may

-- a block of the line
by_block : (c : After-line_block-block)
    → MayStep c.args.self.now.job c.args.self.now.machine c.args.t c.line_block-block.result
by_block c =
    as_view c c.line_block-block.result
    (subst (λ n. MayStep c.self.inside.job c.self.inside.machine c.args.t n)
    (sym c.line_block-block.ensures)
    (line_may (with_samples c.self.invariant.0.0 c.self.inside.job) c.self.inside.machine
    c.self.invariant.0.1 c.args.t c.self.invariant.0.3.machine))

pub returns-then-block-gt1-clause-may : goal.returns-then-block-gt1-clause-may
returns-then-block-gt1-clause-may c =
    by_block (goal.at.returns-then-block-gt1-clause-may c).After-line_block-block

pub returns-then-is_source-clause-may : goal.returns-then-is_source-clause-may
returns-then-is_source-clause-may c =
    let at = c.self.invariant.0.3 in
    let job : Job = with_samples c.self.invariant.0.0 c.self.inside.job in
    let graph = c.self.inside.job.graph in
    let kind : (task_at graph c.args.t).kind ≡ Source =
    source_kind (task_at graph c.args.t).kind
    (ap (λ g. is_source (task_at g c.args.t).kind) (sym c.graph.ensures.graph)
    ∙ sym c.is_source.ensures ∙ c.if-is_source.true) in
    let bound : c.phaser.result.now.bound ≡ (phaser_at graph (output_at job c.args.t 0)).bound =
    ap (λ p. p.bound) c.phaser.ensures.phaser
    ∙ ap (λ g. (phaser_at g c.output_of-k.result.1).bound) c.graph-then-is_source.ensures.graph
    ∙ ap (λ p. (phaser_at graph p).bound) c.output_of-k.ensures.phaser in
    as_view (goal.at.returns-then-is_source-clause-may c).After-line_block-block
    c.own_steps.result
    (source_may job c.self.inside.machine c.args.t c.own_steps.result
    (may_signal_in job c.self.inside.machine c.self.invariant.0.1 c.args.t at.machine)
    at.machine.graph kind c.own_steps.ensures.some
    (subst (λ n. c.own_steps.result ≤ n) bound c.own_steps.ensures.bound))

pub returns-then-is_sink-clause-may : goal.returns-then-is_sink-clause-may
returns-then-is_sink-clause-may c =
    let at = c.self.invariant.0.3 in
    let job : Job = with_samples c.self.invariant.0.0 c.self.inside.job in
    let graph = c.self.inside.job.graph in
    let steps = c.own_steps-then-is_sink.result in
    let kind : (task_at graph c.args.t).kind ≡ Sink =
    sink_kind (task_at graph c.args.t).kind
    (ap (λ g. is_sink (task_at g c.args.t).kind) (sym c.graph-2.ensures.graph)
    ∙ sym c.is_sink.ensures ∙ c.if-is_sink.true) in
    let bound : c.phaser-then-is_sink.result.now.bound
    ≡ (phaser_at graph (input_at (task_at graph c.args.t) 0)).bound =
    ap (λ p. p.bound) c.phaser-then-is_sink.ensures.phaser
    ∙ ap (λ g. (phaser_at g c.input_of-p.result).bound) c.graph-then-is_sink.ensures.graph
    ∙ ap (λ p. (phaser_at graph p).bound) c.input_of-p.ensures.phaser in
    as_view (goal.at.returns-then-is_sink-clause-may c).After-line_block-block steps
    (sink_may job c.self.inside.machine c.args.t steps
    (may_signal_in job c.self.inside.machine c.self.invariant.0.1 c.args.t at.machine)
    at.machine.graph kind c.own_steps-then-is_sink.ensures.some
    (subst (λ n. steps ≤ n) bound c.own_steps-then-is_sink.ensures.bound))

pub returns-clause-may : goal.returns-clause-may
returns-clause-may c = by_block (goal.at.returns-clause-may c).After-line_block-block
