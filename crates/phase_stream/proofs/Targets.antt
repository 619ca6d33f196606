-- Which sink goes to a writer.
use Rattle.std.proofs.Common.{◌≡◌, inl, inr, ◌<◌, ◌≤◌, ◌+◌, ◌++◌, ℕ, ℤ, List, [], ◌∷◌, Option, Some, None, length, get_or, slice_get, zero, suc, refl, sym, subst, ◌∙◌, rules, arith}
use Rattle.std.proofs.lemmas.Bool.{cases_lt}
use Rattle.std.proofs.lemmas.Option.{same_Some}
use Rattle.stream_job.specs.Machines.{none_given}
use Rattle.stream_job.specs.SinkLines.{kept_by}
use Rattle.stream_job.specs.Streams.{IsStreamAt, StreamState}
use Rattle.graph_runs.specs.Moments.{Moment}
use Rattle.stream_lists.specs.Jobs.{Job}
use Rattle.stream_lists.specs.Lists.{sinks_of}
use Rattle.phase_stream.specs.Sessions.{AreLeft, AreTargets, sink_for, task_for, values_for}
use Rattle.phase_stream.specs.declared.sink.Sink.{Sink}

-- the sink that stands in a place
pub sink_at : (targets : List (Option Sink)) (k : ℕ) (target : Option Sink)
    → slice_get targets k ≡ Some target → sink_for targets k ≡ target
sink_at targets k target e = rw e refl

-- its task
pub task_at_place : (targets : List (Option Sink)) (k : ℕ) (sink : Sink)
    → slice_get targets k ≡ Some (Some sink) → task_for targets k ≡ Some sink.task
task_at_place targets k sink e = rw e refl

pub no_task_at_place : (targets : List (Option Sink)) (k : ℕ) → slice_get targets k ≡ Some None
    → task_for targets k ≡ None
no_task_at_place targets k e = rw e refl

-- behind the last writer goes none
beyond_none : (targets : List (Option Sink)) (k : ℕ) → length targets ≤ k → slice_get targets k ≡ None
beyond_none [] k le = refl
beyond_none (x ∷ xs) zero le = absurd (omega (arith, le))
beyond_none (x ∷ xs) (suc k) le = beyond_none xs k (omega (arith, le))

pub beyond : (targets : List (Option Sink)) (k : ℕ) → length targets ≤ k → task_for targets k ≡ None
beyond targets k le = rw (beyond_none targets k le) refl

-- so a task that goes somewhere goes to one of the writers
pub task_within : (targets : List (Option Sink)) (k t : ℕ) → task_for targets k ≡ Some t
    → k < length targets
task_within targets k t e = elim (cases_lt k (length targets)) [
  | inl less ↦ less
  | inr past ↦ absurd (let bad : None ≡ Some t = sym (beyond targets k past) ∙ e in cc)
]

-- what holds of each number below n and of n holds of each below the next
pub one_more : (P : ℕ → Type 0) (n : ℕ) → ((k : ℕ) → k < n → P k) → P n → (k : ℕ) → k < n + 1 → P k
one_more P n before here k lt = elim (cases_lt k n) [
  | inl less ↦ before k less
  | inr past ↦ (let same : n ≡ k = omega (arith, lt, past) in subst P same here)
]

-- a task that goes somewhere is that of a sink
pub sink_of_task : (targets : List (Option Sink)) (k t : ℕ) → task_for targets k ≡ Some t
    → (sink : Sink) × (sink_for targets k ≡ Some sink) × (sink.task ≡ t)
sink_of_task targets k t e = by (sink_for targets k) refl
  where
    by : (found : Option Sink) → sink_for targets k ≡ found
        → (sink : Sink) × (sink_for targets k ≡ Some sink) × (sink.task ≡ t)
    by None is = let bad : None ≡ Some t = rw is at e in search rules
    by (Some sink) is =
        let same : Some sink.task ≡ Some t = rw is at e in
        (sink, is, same_Some sink.task t same)

-- the number of a sink that goes somewhere
pub number_of_task : (job : Job) (targets : List (Option Sink)) (k t : ℕ) → AreTargets job targets
    → task_for targets k ≡ Some t
    → (i : ℕ) × (i < length (sinks_of job)) × (get_or (sinks_of job) i 0 ≡ t)
number_of_task job targets k t are e =
    let found = sink_of_task targets k t e in
    let number = are k found.0 found.1 in
    (found.0.number, number.there, number.task ∙ found.2)

-- nothing was handed over of any sink
pub none_values : (task : Option ℕ) → values_for task none_given ≡ []
none_values None = refl
none_values (Some t) = refl

-- ---- what is left

pub left_of_sink : (stream : StreamState) (targets : List (Option Sink)) (k : ℕ) (sink : Sink)
    (values : List ℤ) → slice_get targets k ≡ Some (Some sink) → AreTargets stream.job targets
    → ((s : List (List ℤ)) (m : Moment) (given : ℕ → List ℤ) → IsStreamAt stream s m given
    → let u = get_or (sinks_of stream.job) sink.number 0 in
    given u ++ values ≡ kept_by stream.job m u)
    → AreLeft stream targets k values
left_of_sink stream targets k sink values place are kept = record {
  rest = λ t e s m given at.
      (let task = task_at_place targets k sink place in
      let same : sink.task ≡ t = same_Some sink.task t (sym task ∙ e) in
      let number = are k sink (sink_at targets k (Some sink) place) in
      subst (λ u. given u ++ values ≡ kept_by stream.job m u) (number.task ∙ same)
      (kept s m given at));
  none = λ e. (let bad : Some sink.task ≡ None = sym (task_at_place targets k sink place) ∙ e in
      absurd (cc));
}

pub left_of_none : (stream : StreamState) (targets : List (Option Sink)) (k : ℕ)
    → task_for targets k ≡ None → AreLeft stream targets k []
left_of_none stream targets k none = record {
  rest = λ t e s m given at. absurd (let bad : None ≡ Some t = sym none ∙ e in cc);
  none = λ e. refl;
}
