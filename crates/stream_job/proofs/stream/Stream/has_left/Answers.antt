-- The line of the sink names its task, and the machine has how that stands.
use Rattle.std.proofs.Common.{◌≡◌, ◌<◌, ℕ, ℤ, true, false, refl, List, None, length, not, sym, ap, subst, ◌∙◌, arith}
use Rattle.std.proofs.lemmas.Bool.{not-true}
use Rattle.graph_base.specs.Graphs.{task_at}
use Rattle.stream_lists.specs.Jobs.{with_samples}
use Rattle.stream_lists.specs.Lists.{is_sink_at, numbers_of, sinks_of, taken_from}
use Rattle.stream_lists.specs.Spans.{span_in}
use Rattle.stream_lists.proofs.Basics.{sink_kind}
use Rattle.graph_runs.specs.Feeds.{IsFed}
use Rattle.graph_runs.specs.Moments.{Moment, input_at, started}
use Rattle.graph_runs.specs.Nexts.{is_live}
use Rattle.graph_runs.specs.Settled.{IsReady}
use Rattle.graph_runs.specs.TaskPlaces.{StandsUpTo}
use Rattle.stream_job.specs.Gone.{has_gone}
use Rattle.stream_job.specs.Places.{place_in_state}
use Rattle.stream_job.specs.SinkLines.{kept_by}
use Rattle.stream_job.specs.Streams.{StreamState, IsStreamAt, ended_at}
use Rattle.stream_job.proofs.GivenLines.{line_task, sink_at, sink_there}
use Rattle.stream_job.proofs.Gone.{gone_by, gone_kept, gone_whole, left_input}
use Rattle.stream_job.proofs.SinksKeep.{sink_reads}
use Rattle.stream_job.proofs.Stopping.{state_at}
use Rattle.stream_job.proofs.stream.Stream.has_left.Goals as goal
use Rattle.stream_job.proofs.stream.Stream.has_left.Goals.{After-index, After-is_registered}

-- the stream as it was taken apart
abbrev inside : After-index → StreamState
inside c = record {
  job = c.self.inside.job;
  machine = c.self.inside.machine;
  inputs = c.self.inside.inputs.items;
  met = c.self.inside.met;
}

-- the sink's task
abbrev sink : After-index → ℕ
sink c = sink_at c.self.inside.job c.args.sink

within : (c : After-index) → c.args.sink < length (sinks_of c.self.inside.job)
within c =
    let R : StreamState → Type 0 = λ w. c.args.sink < length (sinks_of w.job) in
    subst R (sym c.self.view_is) c.requires

named : (c : After-index) → c.index.result.now.task ≡ sink c
named c =
    let (s, m, given, at) = c.self.invariant.0 in
    line_task c.self.inside.job given m c.self.inside.machine.lines.items c.args.sink
    c.index.result.now at.lines (within c) c.index.ensures

there : (c : After-index) → c.index.result.now.task < length c.self.inside.job.graph.tasks
there c =
    subst (λ t. t < length c.self.inside.job.graph.tasks) (sym (named c))
    (sink_there c.self.inside.job c.args.sink (within c)).1

pub index-state-requires : goal.index-state-requires
index-state-requires c =
    let lt = there (goal.at.index-state-requires c).After-index in
    let many = c.self.invariant.0.3.machine.tasks_many in
    let len = c.self.inside.machine.tasks.ok.0 in
    omega arith

pub is_registered-requires : goal.is_registered-requires
is_registered-requires c = there (goal.at.is_registered-requires c).After-index

pub is_live-requires : goal.is_live-requires
is_live-requires c = there (goal.at.is_live-requires c).After-index

-- what the machine has of the task
stands : (c : After-is_registered) (s : List (List ℤ)) (m : Moment) (given : ℕ → List ℤ)
    → IsStreamAt (inside c.before.before) s m given
    → StandsUpTo c.index-state.result.now.most (with_samples s c.self.inside.job) m
    c.index.result.now.task (place_in_state c.index-state.result.now)
stands c s m given at =
    let state = c.index-state.result.now in
    (at.machine.tasks c.index.result.now.task state (state_at (with_samples s c.self.inside.job)
    c.self.inside.machine m c.index.result.now.task state at.machine (there c.before.before)
    c.index-state.ensures)).stands

pub returns-then-is_registered-clause-left : goal.returns-then-is_registered-clause-left
returns-then-is_registered-clause-left c =
    let P : StreamState → Type 0 = λ w. (s : List (List ℤ)) (m : Moment) (given : ℕ → List ℤ)
    → IsStreamAt w s m given
    → has_gone w.job m (sink_at w.job c.args.sink) ≡ not c.is_live.result in
    let w = goal.at.returns-then-is_registered-clause-left c in
    subst P c.self.view_is (λ s m given at.
    (let st = stands w.After-is_registered s m given at in
    let job = c.self.inside.job in
    subst (λ t. has_gone job m t ≡ not c.is_live.result) (named w.After-index)
    (gone_by job m c.index.result.now.task true c.is_live.result (there w.After-index)
    (c.is_registered.ensures s m st ∙ ap not c.if-is_registered.true) (c.is_live.ensures s m st))))

pub returns-else-is_registered-clause-left : goal.returns-else-is_registered-clause-left
returns-else-is_registered-clause-left c =
    let P : StreamState → Type 0 = λ w. (s : List (List ℤ)) (m : Moment) (given : ℕ → List ℤ)
    → IsStreamAt w s m given
    → has_gone w.job m (sink_at w.job c.args.sink) ≡ c.is_registered.result in
    let w = goal.at.returns-else-is_registered-clause-left c in
    subst P c.self.view_is (λ s m given at.
    (let st = stands w.After-is_registered s m given at in
    let job = c.self.inside.job in
    subst (λ t. has_gone job m t ≡ c.is_registered.result) (named w.After-index)
    (gone_by job m c.index.result.now.task false (is_live job m c.index.result.now.task)
    (there w.After-index) (c.is_registered.ensures s m st ∙ ap not c.if-is_registered.false) refl
    ∙ sym c.if-is_registered.false)))

pub returns-then-is_registered-clause-whole : goal.returns-then-is_registered-clause-whole
returns-then-is_registered-clause-whole c = λ is.
    let P : StreamState → Type 0 = λ w. (s : List (List ℤ)) (m : Moment) (given : ℕ → List ℤ)
    (more : List (List ℤ)) → IsStreamAt w s m given → IsFed (with_samples s w.job) (ended_at w) more
    → IsReady (with_samples more w.job)
    → kept_by w.job m (sink_at w.job c.args.sink)
    ≡ taken_from (numbers_of (started (with_samples more w.job) m))
    (task_at w.job.graph (sink_at w.job c.args.sink))
    (span_in (started (with_samples more w.job) m) (sink_at w.job c.args.sink)) 0 in
    let w = goal.at.returns-then-is_registered-clause-whole c in
    subst P c.self.view_is (λ s m given more at fed ready.
    (let st = stands w.After-is_registered s m given at in
    let bare = c.self.inside.job in
    let job = with_samples s bare in
    let t = c.index.result.now.task in
    let lt = there w.After-index in
    let sinks = subst (λ u. is_sink_at bare u ≡ true) (sym (named w.After-index))
    (sink_there bare c.args.sink (within w.After-index)).0 in
    let some = sink_reads job t at.machine.graph lt sinks in
    let left = left_input job m t (place_in_state c.index-state.result.now) at.machine.graph lt some st
    (c.is_registered.ensures s m st ∙ ap not c.if-is_registered.true)
    (c.is_live.ensures s m st ∙ not-true c.is_live.result is) in
    let ran = c.runs_go_on.ensures.ran job m more at.machine.graph at.machine.reached.ran
    (c.feeds_go_on.ensures.continues job (ended_at (inside w.After-index)) m more
    at.machine.reached.ran at.stays_open fed) in
    let right = with_samples more bare in
    subst (λ u. kept_by bare m u ≡ taken_from (numbers_of (started right m)) (task_at bare.graph u)
    (span_in (started right m) u) 0) (named w.After-index)
    (gone_kept job m None t at.machine.graph at.machine.reached.ran at.none lt some left
    ∙ gone_whole right m t ready ran lt (sink_kind (task_at bare.graph t).kind sinks) some left
    (c.members.ensures.stands right m t ready ran lt
    (input_at (task_at bare.graph t) 0, left.n, left.number))
    (c.takes.ensures right m t 0 ready ran lt some))))
