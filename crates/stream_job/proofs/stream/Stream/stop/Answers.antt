-- The first sink that is full has its line, and the first source that is hungry its number.
use Rattle.std.proofs.Common.{◌≡◌, ◌<◌, ℕ, ℤ, List, true, Option, Some, None, length, sym, subst, ◌∙◌, arith}
use Rattle.std.specs.Prelude.{slice_get, vec_len}
use Rattle.graph_base.specs.Graphs.{source_number, task_at}
use Rattle.stream_lists.specs.Jobs.{with_samples}
use Rattle.stream_lists.specs.Lists.{sinks_of}
use Rattle.stream_lists.proofs.Basics.{sink_kind}
use Rattle.graph_runs.specs.Moments.{Moment}
use Rattle.stream_job.specs.Streams.{IsStreamAt, StreamState, ended_at, first_full, first_hungry, is_full, is_hungry, is_some_live, stop_by}
use Rattle.stream_job.specs.contracts.stream.Stream.{the_view}
use Rattle.stream_job.specs.declared.stopped.Stopped.TheVariants as stopped
use Rattle.stream_job.proofs.Awaiting.{planned}
use Rattle.stream_job.proofs.FedStops.{done_by, found_in, full_sink, rests_so, stalled_by}
use Rattle.stream_job.proofs.Stopping.{state_at}
use Rattle.stream_job.proofs.stream.Stream.stop.Goals as goal
use Rattle.stream_job.proofs.stream.Stream.stop.Goals.{After-has_live, In-Some, In-Some-first_hungry}

-- the sink stands among the tasks
full_there : (c : In-Some)
    → c.in-Some.t < length c.self.inside.job.graph.tasks
full_there c =
    let s = c.self.invariant.0.0 in
    let m = c.self.invariant.0.1 in
    let given = c.self.invariant.0.2 in
    let t = c.in-Some.t in
    let P : StreamState → Type 0 = λ w. (s : List (List ℤ)) (m : Moment) (given : ℕ → List ℤ)
    → IsStreamAt w s m given → first_full (with_samples s w.job) m given ≡ Some t in
    let found = subst P (sym c.self.view_is) (λ s m given at.
    c.first_full.ensures s m given at ∙ c.in-Some.is) in
    (found_in (is_full (with_samples s c.self.inside.job) m given)
    (length c.self.inside.job.graph.tasks) t (found s m given c.self.invariant.0.3)).0

pub index-requires : goal.index-requires
index-requires c =
    let lt = full_there c in
    let tasks = c.self.inside.machine.tasks in
    let many : length tasks.items ≡ length c.self.inside.job.graph.tasks =
    c.self.invariant.0.3.machine.tasks_many in
    let long : vec_len tasks ≡ length tasks.items = tasks.ok.0 in
    omega arith

pub returns-in-Some-clause-stops : goal.returns-in-Some-clause-stops
returns-in-Some-clause-stops c =
    let t = c.in-Some.t in
    let state = c.index.result.now in
    let Q : StreamState → Type 0 = λ w. (s : List (List ℤ)) (m : Moment) (given : ℕ → List ℤ)
    → IsStreamAt w s m given → is_full (with_samples s w.job) m given t ≡ true
    → slice_get (sinks_of (with_samples s w.job)) state.sink ≡ Some t in
    let place = subst Q c.self.view_is (λ s m given at full.
    (let job = with_samples s c.self.inside.job in
    (at.machine.tasks t state (state_at job c.self.inside.machine m t state at.machine
    (full_there (goal.at.returns-in-Some-clause-stops c).In-Some) c.index.ensures)).sink
    (sink_kind (task_at job.graph t).kind (full_sink job m given t full)))) in
    λ s m given at.
    (let job = with_samples s c.args.self.now.job in
    let found : first_full job m given ≡ Some t =
    c.first_full.ensures s m given at ∙ c.in-Some.is in
    let full = (found_in (is_full job m given) (length job.graph.tasks) t found).1 in
    let S : Option ℕ → Type 0 = λ o. stop_by job o (first_hungry job (ended_at c.args.self.now) m)
    (is_some_live job m) (stopped.Full state.sink) in (
      record { none = c.requires.met; each = (c.requires.looked s m given at).each },
      subst S (sym found) (place s m given at full),
    ))

-- the source stands among the tasks
hungry_there : (c : In-Some-first_hungry)
    → c.in-Some-first_hungry.t < length c.self.inside.job.graph.tasks
hungry_there c =
    let s = c.self.invariant.0.0 in
    let m = c.self.invariant.0.1 in
    let given = c.self.invariant.0.2 in
    let t = c.in-Some-first_hungry.t in
    let P : StreamState → Type 0 = λ w. (s : List (List ℤ)) (m : Moment) (given : ℕ → List ℤ)
    → IsStreamAt w s m given → first_hungry (with_samples s w.job) (ended_at w) m ≡ Some t in
    let found = subst P (sym c.self.view_is) (λ s m given at.
    c.first_hungry.ensures s m given at ∙ c.in-Some-first_hungry.is) in
    (found_in (is_hungry (with_samples s c.self.inside.job) (ended_at (the_view c.self.inside)) m)
    (length c.self.inside.job.graph.tasks) t (found s m given c.self.invariant.0.3)).0

pub index-requires-in-Some-first_hungry : goal.index-requires-in-Some-first_hungry
index-requires-in-Some-first_hungry c =
    let lt = hungry_there (goal.at.index-requires-in-Some-first_hungry c).In-Some-first_hungry in
    let tasks = c.self.inside.plan.tasks in
    let many : length tasks.items ≡ length c.self.inside.job.graph.tasks =
    c.self.invariant.1.many in
    let long : vec_len tasks ≡ length tasks.items = tasks.ok.0 in
    omega arith

pub returns-in-Some-first_hungry-clause-stops : goal.returns-in-Some-first_hungry-clause-stops
returns-in-Some-first_hungry-clause-stops c =
    let t = c.in-Some-first_hungry.t in
    let one = c.index-in-Some-first_hungry.result.now in
    let Q : StreamState → Type 0 = λ w. source_number w.job.graph.tasks t ≡ one.source in
    let number = subst Q c.self.view_is (sym (planned c.self.inside.job c.self.inside.plan t one
    c.self.invariant.1
    (hungry_there (goal.at.returns-in-Some-first_hungry-clause-stops c).In-Some-first_hungry)
    c.index-in-Some-first_hungry.ensures)) in
    λ s m given at.
    (let job = with_samples s c.args.self.now.job in
    let rest = rests_so c.args.self.now c.args.before c.requires.met c.in_default-before.is
    c.requires.looked in
    let hungry : first_hungry job (ended_at c.args.self.now) m ≡ Some t =
    c.first_hungry.ensures s m given at ∙ c.in-Some-first_hungry.is in
    let full : first_full job m given ≡ None =
    c.first_full.ensures s m given at ∙ c.in_default.is in
    let S : Option ℕ → Option ℕ → Type 0 = λ o u. stop_by job o u (is_some_live job m)
    (stopped.Hungry one.source) in (
      rest s m given at,
      subst (λ o. S o (first_hungry job (ended_at c.args.self.now) m)) (sym full)
          (subst (S None) (sym hungry) number),
    ))

-- whether some task is live
live : (c : After-has_live) (s : List (List ℤ)) (m : Moment) (given : ℕ → List ℤ)
    → IsStreamAt c.args.self.now s m given
    → is_some_live (with_samples s c.args.self.now.job) m ≡ c.has_live.result
live c =
    let P : StreamState → Type 0 = λ w. (s : List (List ℤ)) (m : Moment) (given : ℕ → List ℤ)
    → IsStreamAt w s m given → is_some_live (with_samples s w.job) m ≡ c.has_live.result in
    subst P c.self.view_is (λ s m given at. c.has_live.ensures s m at.machine)

pub returns-then-has_live-clause-stops : goal.returns-then-has_live-clause-stops
returns-then-has_live-clause-stops c =
    λ s m given at.
    (let job = with_samples s c.args.self.now.job in
    let rest = rests_so c.args.self.now c.args.before c.requires.met c.in_default-before.is
    c.requires.looked in (
      rest s m given at,
      stalled_by job (first_full job m given)
          (first_hungry job (ended_at c.args.self.now) m) (is_some_live job m)
          (c.first_full.ensures s m given at ∙ c.in_default.is)
          (c.first_hungry.ensures s m given at ∙ c.in_default-first_hungry.is)
          (live (goal.at.returns-then-has_live-clause-stops c).After-has_live s m given at ∙ c.if-has_live.true),
    ))

pub returns-clause-stops : goal.returns-clause-stops
returns-clause-stops c =
    λ s m given at.
    (let job = with_samples s c.args.self.now.job in
    let rest = rests_so c.args.self.now c.args.before c.requires.met c.in_default-before.is
    c.requires.looked in (
      rest s m given at,
      done_by job (first_full job m given)
          (first_hungry job (ended_at c.args.self.now) m) (is_some_live job m)
          (c.first_full.ensures s m given at ∙ c.in_default.is)
          (c.first_hungry.ensures s m given at ∙ c.in_default-first_hungry.is)
          (live (goal.at.returns-clause-stops c).After-has_live s m given at ∙ c.if-has_live.false),
    ))
