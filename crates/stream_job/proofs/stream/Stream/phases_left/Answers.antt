-- So many phases are not past the last, and not too far ahead of the slowest waiter.
use Rattle.std.proofs.Common.{◌≡◌, ℕ, ℤ, List, ◌<◌, ◌+◌, ◌-◌, ◌||◌, length, get_or, sym, ap, subst, ◌∙◌, arith}
use Rattle.std.specs.Prelude.{nat_lt}
use Rattle.phase_base.specs.Members.{entry_of}
use Rattle.phase_base.specs.declared.limits.TheConstants.{PHASES_MAX}
use Rattle.phase_history.specs.Histories.{members_of}
use Rattle.phase_history.specs.Refusals.{is_ahead}
use Rattle.graph_base.specs.Graphs.{phaser_at, task_at}
use Rattle.graph_base.specs.Registrations.{signalled_by}
use Rattle.graph_runs.specs.Answers.{output_at}
use Rattle.graph_runs.specs.Moments.{Moment, limits_at}
use Rattle.graph_runs.specs.TaskPlaces.{registration_of_output}
use Rattle.stream_lists.specs.Jobs.{with_samples}
use Rattle.stream_job.specs.Places.{place_in_state}
use Rattle.stream_job.specs.Stepping.{HasPhases}
use Rattle.stream_job.specs.Streams.{IsStreamAt, StreamState}
use Rattle.stream_job.proofs.OwnSteps.{phases_free}
use Rattle.stream_job.proofs.Stopping.{state_at}
use Rattle.stream_job.proofs.stream.Stream.phases_left.Goals as goal

-- what is asked of the task and its output, by its job
record IsAsked (w : StreamState) (t k p bound : ℕ) : Type 0 where
  task : t < length w.job.graph.tasks
  output : 0 < length (signalled_by (task_at w.job.graph t))
  place : (k ≡ registration_of_output (task_at w.job.graph t) 0) × (p ≡ output_at w.job t 0)
  bound_is : bound ≡ (phaser_at w.job.graph p).bound

pub returns : goal.returns
returns c = λ never.
    let asked : IsAsked _ c.args.t c.args.k c.args.p c.args.bound =
    subst (λ w. IsAsked w c.args.t c.args.k c.args.p c.args.bound) (sym c.self.view_is) record {
      task = c.requires.task;
      output = c.requires.output;
      place = c.requires.place;
      bound_is = c.requires.bound;
    } in
    let P : StreamState → Type 0 = λ w. (s : List (List ℤ)) (m : Moment) (given : ℕ → List ℤ)
    → IsStreamAt w s m given → HasPhases w.job m c.args.t c.phases_left.result in
    subst P c.self.view_is (λ s m given at many some few.
    (let job = with_samples s c.self.inside.job in
    let p : ℕ = c.args.p in
    let state = c.index.result.now in
    let found = state_at job c.self.inside.machine m c.args.t state at.machine asked.task
    c.index.ensures in
    let it = at.machine.tasks c.args.t state found in
    let stands = c.core-core.ensures s m at.machine in
    let op = (phaser_at c.self.inside.job.graph p).op in
    let limits = limits_at c.self.inside.job p in
    let number : get_or c.deref.result.now c.args.k 0 ≡ get_or state.numbers.items c.args.k 0 =
    ap (λ ns. get_or ns c.args.k 0) c.deref.ensures in
    phases_free job m c.args.t p c.args.k many (place_in_state state) c.in-Some.entry
    c.least_wait.result it.stands at.machine.graph asked.task asked.output asked.place.0
    asked.place.1
    (omega (arith, c.len.ensures.value, c.if-k-len.false))
    (sym (ap (entry_of (members_of (m.history p))) number)
    ∙ sym (c.view.ensures op limits (m.history p) stands) ∙ c.in-Some.is)
    (sym (c.least_wait.ensures op limits (m.history p) stands))
    (ap (λ b. nat_lt PHASES_MAX (c.in-Some.entry.signal_phase + many)
    || is_ahead c.least_wait.result b (c.in-Some.entry.signal_phase + many - 1))
    (sym asked.bound_is) ∙ c.phases_left.ensures many some few)))
