-- The input of the source keeps what it has still to signal, and whether it has ended.
use Rattle.std.proofs.Common.{◌≡◌, ℕ, ℤ, List, ◌<◌, ◌&&◌, true, false, not, length, sym, ap, subst, ◌∙◌, arith}
use Rattle.std.specs.Prelude.{nat_le, vec_len}
use Rattle.graph_base.specs.Graphs.{is_source, task_at}
use Rattle.stream_lists.specs.Jobs.{samples_at, with_samples}
use Rattle.stream_lists.proofs.Basics.{source_kind}
use Rattle.graph_runs.specs.Feeds.{is_starved}
use Rattle.graph_runs.specs.Moments.{Moment}
use Rattle.graph_runs.specs.Nexts.{is_cut}
use Rattle.stream_job.specs.Streams.{AreKept, IsStreamAt, StreamState, ended_at}
use Rattle.stream_job.proofs.Awaiting.{input_read, input_there}
use Rattle.stream_job.proofs.Stopping.{ended_so, low_by, starved_by_low, starved_not_cut, starved_not_ended, state_at}
use Rattle.stream_job.proofs.stream.Stream.is_starved.Goals as goal
use Rattle.stream_job.proofs.stream.Stream.is_starved.Goals.{After-index}

task_there : (c : After-index) → c.args.t < length c.self.inside.job.graph.tasks
task_there c =
    let P : StreamState → Type 0 = λ w. c.args.t < length w.job.graph.tasks in
    subst P (sym c.self.view_is) c.requires

is_one : (c : After-index) → is_source (task_at c.self.inside.job.graph c.args.t).kind ≡ true
is_one c =
    ap (λ g. is_source (task_at g c.args.t).kind) (sym c.graph.ensures.graph)
    ∙ sym c.is_source.ensures ∙ c.if-not-is_source.false

pub index-requires-2 : goal.index-requires-2
index-requires-2 c =
    let b = (goal.at.index-requires-2 c).After-index in
    let inputs = c.self.inside.inputs in
    let long : vec_len inputs ≡ length inputs.items = inputs.ok.0 in
    let lt = input_there c.self.inside.job c.self.inside.plan inputs.items c.args.t
    c.index.result.now c.self.invariant.1 c.self.invariant.4 (task_there b) (is_one b)
    c.index.ensures in
    omega arith

pub returns-then-index : goal.returns-then-index
returns-then-index c =
    let b = (goal.at.returns-then-index c).After-index in
    let P : StreamState → Type 0 = λ w. (s : List (List ℤ)) (m : Moment) (given : ℕ → List ℤ)
    → IsStreamAt w s m given
    → (is_starved (with_samples s w.job) m c.args.t && not (ended_at w c.args.t)) ≡ false in
    subst P c.self.view_is (λ s m given at.
    starved_not_ended (is_starved (with_samples s c.self.inside.job) m c.args.t) _
    (ended_so (record {
      job = c.self.inside.job;
      machine = c.self.inside.machine;
      inputs = c.self.inside.inputs.items;
      met = c.self.inside.met;
    }) c.args.t c.index-2.result.now
    (input_read c.self.inside.job c.self.inside.plan c.self.inside.inputs.items c.args.t
    c.index.result.now c.index-2.result.now c.self.invariant.1 c.self.invariant.4 (task_there b)
    (is_one b) c.index.ensures c.index-2.ensures) ∙ c.if-index.true))

pub returns-then-is_cut : goal.returns-then-is_cut
returns-then-is_cut c =
    let b = (goal.at.returns-then-is_cut c).After-index in
    let P : StreamState → Type 0 = λ w. (s : List (List ℤ)) (m : Moment) (given : ℕ → List ℤ)
    → IsStreamAt w s m given
    → (is_starved (with_samples s w.job) m c.args.t && not (ended_at w c.args.t)) ≡ false in
    subst P c.self.view_is (λ s m given at.
    (let job = with_samples s c.self.inside.job in
    let state = c.index-3.result.now in
    let begun = (at.machine.tasks c.args.t state (state_at job c.self.inside.machine m c.args.t
    state at.machine (task_there b) c.index-3.ensures)).stands.begun in
    starved_not_cut (is_source (task_at job.graph c.args.t).kind)
    (is_cut (task_at job.graph c.args.t).until (m.begun c.args.t))
    (nat_le (length (samples_at job c.args.t)) (m.begun c.args.t)) _
    (ap (is_cut (task_at job.graph c.args.t).until) begun
    ∙ ap (λ u. is_cut u state.begun) (sym c.until_of.ensures) ∙ sym c.is_cut.ensures
    ∙ c.if-is_cut.true)))

pub returns : goal.returns
returns c =
    let b = (goal.at.returns c).After-index in
    let P : StreamState → Type 0 = λ w. (s : List (List ℤ)) (m : Moment) (given : ℕ → List ℤ)
    → IsStreamAt w s m given
    → (is_starved (with_samples s w.job) m c.args.t && not (ended_at w c.args.t))
    ≡ c.is_empty.result in
    subst P c.self.view_is (λ s m given at.
    (let job = with_samples s c.self.inside.job in
    let t = c.args.t in
    let state = c.index-3.result.now in
    let begun = (at.machine.tasks t state (state_at job c.self.inside.machine m t
    state at.machine (task_there b) c.index-3.ensures)).stands.begun in
    let came = c.awaited.ensures s m at.each at.machine
    (subst (AreKept c.self.inside.job s m) (sym c.deref.ensures.value) at.kept) in
    starved_by_low (is_source (task_at job.graph t).kind)
    (is_cut (task_at job.graph t).until (m.begun t))
    (nat_le (length (samples_at job t)) (m.begun t)) _ c.is_empty.result (is_one b)
    (ap (is_cut (task_at job.graph t).until) begun
    ∙ ap (λ u. is_cut u state.begun) (sym c.until_of.ensures) ∙ sym c.is_cut.ensures
    ∙ c.if-is_cut.false)
    (ended_so (record {
      job = c.self.inside.job;
      machine = c.self.inside.machine;
      inputs = c.self.inside.inputs.items;
      met = c.self.inside.met;
    }) t c.index-2.result.now
    (input_read c.self.inside.job c.self.inside.plan c.self.inside.inputs.items t
    c.index.result.now c.index-2.result.now c.self.invariant.1 c.self.invariant.4 (task_there b)
    (is_one b) c.index.ensures c.index-2.ensures) ∙ c.if-index.false)
    (low_by (m.begun t) (samples_at job t) c.awaited.result.now
    (came.awaits m at.machine (task_there b) (source_kind (task_at job.graph t).kind (is_one b)))
    ∙ sym c.is_empty.ensures)))
