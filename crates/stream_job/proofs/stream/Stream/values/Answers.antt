-- The line of the sink keeps what was not forgotten, and it is right whatever comes.
use Rattle.std.proofs.Common.{◌≡◌, ◌<◌, ◌++◌, ℕ, ℤ, List, None, length, sym, ap, subst, ◌∙◌}
use Rattle.phase_history.proofs.Streams.{IsPrefix-trans}
use mathlib.Core.List.{IsPrefix}
use Rattle.graph_base.specs.Graphs.{task_at}
use Rattle.stream_lists.specs.Jobs.{with_samples}
use Rattle.stream_lists.specs.Lists.{numbers_of, sinks_of, taken_from}
use Rattle.stream_lists.specs.Spans.{span_in}
use Rattle.graph_runs.specs.Feeds.{IsFed}
use Rattle.graph_runs.specs.Moments.{Moment, started}
use Rattle.graph_runs.specs.Settled.{IsReady}
use Rattle.stream_job.specs.SinkLines.{kept_by}
use Rattle.stream_job.specs.Streams.{StreamState, IsStreamAt, ended_at}
use Rattle.stream_job.proofs.GivenLines.{line_values, sink_at, sink_there}
use Rattle.stream_job.proofs.LinesBegin.{met_begins}
use Rattle.stream_job.proofs.SinksKeep.{sink_reads}
use Rattle.stream_job.proofs.stream.Stream.values.Goals as goal

-- what was handed over, and what is read
whole : (c : goal.After-as_slice) → (s : List (List ℤ)) (m : Moment) (given : ℕ → List ℤ)
    → IsStreamAt record {
      job = c.self.inside.job;
      machine = c.self.inside.machine;
      inputs = c.self.inside.inputs.items;
      met = c.self.inside.met;
    } s m given
    → given (sink_at c.self.inside.job c.args.sink) ++ c.as_slice.result.now
    ≡ kept_by c.self.inside.job m (sink_at c.self.inside.job c.args.sink)
whole c s m given at =
    let R : StreamState → Type 0 = λ w. c.args.sink < length (sinks_of w.job) in
    let job = c.self.inside.job in
    ap (λ l. given (sink_at job c.args.sink) ++ l) c.as_slice.ensures.value
    ∙ line_values job given m c.self.inside.machine.lines.items c.args.sink c.index.result.now
    at.lines (subst R (sym c.self.view_is) c.requires) c.index.ensures

pub returns-clause-kept : goal.returns-clause-kept
returns-clause-kept c =
    let P : StreamState → Type 0 = λ w. (s : List (List ℤ)) (m : Moment) (given : ℕ → List ℤ)
    → IsStreamAt w s m given → given (sink_at w.job c.args.sink) ++ c.as_slice.result.now
    ≡ kept_by w.job m (sink_at w.job c.args.sink) in
    subst P c.self.view_is (whole c)

pub returns-clause-right : goal.returns-clause-right
returns-clause-right c =
    let sink = c.args.sink in
    let read = c.as_slice.result.now in
    let R : StreamState → Type 0 = λ w. sink < length (sinks_of w.job) in
    let P : StreamState → Type 0 = λ w. (s : List (List ℤ)) (m : Moment) (given : ℕ → List ℤ)
    (more : List (List ℤ)) → IsStreamAt w s m given → IsFed (with_samples s w.job) (ended_at w) more
    → IsReady (with_samples more w.job)
    → IsPrefix (given (sink_at w.job sink) ++ read)
    (taken_from (numbers_of (started (with_samples more w.job) m))
    (task_at w.job.graph (sink_at w.job sink))
    (span_in (started (with_samples more w.job) m) (sink_at w.job sink)) 0) in
    subst P c.self.view_is (λ s m given more at is ready.
    (let bare = c.self.inside.job in
    let job = with_samples s bare in
    let t = sink_at bare sink in
    let it = sink_there bare sink (subst R (sym c.self.view_is) c.requires) in
    let machine = c.self.inside.machine in
    let right = started (with_samples more bare) m in
    IsPrefix-trans (given t ++ read) (m.taken t 0)
    (taken_from (numbers_of right) (task_at bare.graph t) (span_in right t) 0)
    (subst (λ l. IsPrefix l (m.taken t 0)) (sym (whole c s m given at))
    (met_begins job m machine None at.machine at.none t it.1 it.0))
    (c.taken_is_right.ensures job m more t 0 ready at.machine.reached.ran
    (c.feeds_go_on.ensures.continues job (ended_at record {
      job = c.self.inside.job;
      machine = c.self.inside.machine;
      inputs = c.self.inside.inputs.items;
      met = c.self.inside.met;
    }) m more at.machine.reached.ran at.stays_open is)
    it.1 (sink_reads job t at.machine.graph it.1 it.0))))
