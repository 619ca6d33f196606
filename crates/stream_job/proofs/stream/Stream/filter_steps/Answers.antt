-- A filter makes no more steps than one event of it signals.
use Rattle.std.proofs.Common.{◌≡◌, ℕ, ◌<◌, ◌≤◌, length, sym, ap, subst, ◌∙◌, arith}
use Rattle.graph_base.specs.declared.line.Kind.TheVariants.{Fir}
use Rattle.graph_base.specs.Graphs.{phaser_at, task_at}
use Rattle.graph_runs.specs.Answers.{output_at}
use Rattle.stream_lists.specs.Jobs.{with_samples}
use Rattle.stream_job.specs.Machines.{most_in}
use Rattle.stream_job.specs.Stepping.{MayStep}
use Rattle.stream_job.specs.Streams.{StreamState}
use Rattle.stream_job.proofs.Mosts.{may_signal_in, most_is}
use Rattle.stream_job.proofs.OwnSteps.{fewer_may, most_within}
use Rattle.stream_job.proofs.Stopping.{state_at}
use Rattle.stream_job.proofs.stream.Stream.filter_steps.Goals as goal
use Rattle.stream_job.proofs.stream.Stream.filter_steps.Goals.{After-index-state}

task_there : (c : After-index-state) → c.args.t < length c.self.inside.job.graph.tasks
task_there c =
    let P : StreamState → Type 0 = λ w. c.args.t < length w.job.graph.tasks in
    subst P (sym c.self.view_is) c.requires.task

is_filter : (c : After-index-state) → (task_at c.self.inside.job.graph c.args.t).kind ≡ Fir
is_filter c =
    let P : StreamState → Type 0 = λ w. (task_at w.job.graph c.args.t).kind ≡ Fir in
    subst P (sym c.self.view_is) c.requires.kind

-- how much one event of it signals
most_here : (c : After-index-state)
    → c.index-state.result.now.most ≡ most_in c.self.inside.machine c.args.t
most_here c =
    let at = c.self.invariant.0.3 in
    let job = with_samples c.self.invariant.0.0 c.self.inside.job in
    sym (most_is c.self.inside.machine c.args.t c.index-state.result.now
    (state_at job c.self.inside.machine c.self.invariant.0.1 c.args.t c.index-state.result.now
    at.machine (task_there c) c.index-state.ensures))

most_some : (c : After-index-state) → 1 ≤ most_in c.self.inside.machine c.args.t
most_some c =
    (may_signal_in (with_samples c.self.invariant.0.0 c.self.inside.job) c.self.inside.machine
    c.self.invariant.0.1 c.args.t c.self.invariant.0.3.machine (task_there c)).block.some

may : (c : After-index-state) (steps : ℕ) → 1 ≤ steps
    → steps ≤ most_in c.self.inside.machine c.args.t
    → MayStep c.args.self.now.job c.args.self.now.machine c.args.t steps
may c steps some few =
    let P : StreamState → Type 0 = λ w. MayStep w.job w.machine c.args.t steps in
    subst P c.self.view_is
    (fewer_may (with_samples c.self.invariant.0.0 c.self.inside.job) c.self.inside.machine
    c.self.invariant.0.1 c.args.t steps c.self.invariant.0.3.machine (is_filter c) some few)

pub returns-then-state-eq1-clause-may : goal.returns-then-state-eq1-clause-may
returns-then-state-eq1-clause-may c =
    let a = (goal.at.returns-then-state-eq1-clause-may c).After-index-state in
    may a 1 (omega arith) (most_some a)

pub own_steps-requires : goal.own_steps-requires
own_steps-requires c =
    let a = (goal.at.own_steps-requires c).After-index-state in
    omega (arith, most_here a, most_some a)

pub returns-clause-may : goal.returns-clause-may
returns-clause-may c =
    let a = (goal.at.returns-clause-may c).After-index-state in
    may a c.own_steps.result c.own_steps.ensures.some
    (omega (arith, most_here a, c.own_steps.ensures.bound))

-- With more than one step the bound is more than one, and there is room for them.
pub returns-clause-room : goal.returns-clause-room
returns-clause-room c = λ more s m given at many some few.
    let a = (goal.at.returns-clause-room c).After-index-state in
    let job = with_samples c.self.invariant.0.0 c.self.inside.job in
    let within : most_in c.self.inside.machine c.args.t
    ≤ (phaser_at c.self.inside.job.graph (output_at c.self.inside.job c.args.t 0)).bound =
    most_within job c.self.inside.machine c.self.invariant.0.1 c.args.t c.self.invariant.0.3.machine
    (is_filter a) (task_there a) in
    let bound : c.phaser.result.now.bound
    ≡ (phaser_at c.self.inside.job.graph (output_at c.self.inside.job c.args.t 0)).bound =
    ap (λ p. p.bound) c.phaser.ensures.phaser
    ∙ ap (λ g. (phaser_at g c.output_of-k.result.1).bound) c.graph.ensures.graph
    ∙ ap (λ p. (phaser_at c.self.inside.job.graph p).bound) c.output_of-k.ensures.phaser in
    let left = c.own_steps.ensures.room more in
    c.phases_left.ensures
    (λ one. absurd (omega (arith, most_here a, c.own_steps.ensures.bound)))
    s m given at many some (omega arith)
