-- What a task does next, by the state in which it stands.
use Rattle.std.proofs.Common.{◌≡◌, ◌≢◌, ℕ, ◌<◌, ◌≤◌, ◌&&◌, List, [], ◌∷◌, true, false, not, cond, is_some, length, get_or, refl, ap, ◌∙◌, arith}
use Rattle.std.specs.Prelude.{Result, ℤ}
use Rattle.std.proofs.lemmas.Bool.{le-ltb}
use Rattle.std.proofs.lemmas.Option.{slice_get_read}
use Rattle.stream_filters.specs.declared.fault.TooBigValue.{TooBigValue}
use Rattle.stream_lists.specs.Jobs.{Job}
use Rattle.graph_runs.specs.declared.owed.Owed.{Owed}
use Rattle.graph_runs.specs.Moments.{Moment}
use Rattle.graph_runs.specs.Nexts.{Next, is_not_live, signals, exchanges, next_of, of_live, at_boundary, first_due, first_kept, first_missing, first_owed, is_live}
use Rattle.graph_runs.specs.Steps.{owed_of}
use Rattle.graph_runs.specs.TaskPlaces as places
use Rattle.graph_runs.specs.TaskPlaces.{OwesUpTo, nothing, values, exchange, StandsUpTo}
use Rattle.stream_job.specs.Machines.{IsMachineAt}
use Rattle.stream_job.specs.Places.{IsTaskAt, owed_in, place_in_state}
use Rattle.stream_job.specs.declared.machine.Machine.{Machine}
use Rattle.stream_job.specs.declared.task_state.TaskState.{TaskState}

-- a state that was read is its task's
pub state_at : (job : Job) (m : Moment) (machine : Machine) (t : ℕ) (state : TaskState)
    → IsMachineAt job m machine → t < length machine.tasks.items
    → state ≡ get_or machine.tasks.items t state → IsTaskAt job m t state
state_at job m machine t state at there read =
    at.tasks t state
    (slice_get_read machine.tasks.items (length machine.tasks.items) t state refl there read)

-- a task that is not live does nothing
pub not_live_next : (job : Job) (m : Moment) (t : ℕ) → is_live job m t ≡ false
    → next_of job m t ≡ is_not_live
not_live_next job m t e =
    ap (λ b. cond b (of_live job m t (first_owed job m t)) is_not_live) e

-- and where no task is nothing is done
pub past_next : (job : Job) (m : Moment) (t : ℕ) → length job.graph.tasks ≤ t
    → next_of job m t ≡ is_not_live
past_next job m t past =
    not_live_next job m t
    (ap (λ b. b && not (is_some (first_missing job m t)) && is_some (first_kept job m t))
    (le-ltb t (length job.graph.tasks) past))

-- what a live task does next that owes this
abbrev pub next_for : Job → Moment → ℕ → places.Owed → Next
next_for job m t nothing = at_boundary job m t (first_due job m t)
next_for job m t (values j vs) = signals j
next_for job m t (exchange x) = exchanges

pub owing_next : (most : ℕ) (job : Job) (m : Moment) (t : ℕ) (owed : places.Owed) → is_live job m t ≡ true
    → OwesUpTo most job m t owed → next_of job m t ≡ next_for job m t owed
owing_next most job m t nothing live owes =
    ap (λ b. cond b (of_live job m t (first_owed job m t)) is_not_live) live
    ∙ ap (of_live job m t) owes
owing_next most job m t (values j vs) live owes =
    ap (λ b. cond b (of_live job m t (first_owed job m t)) is_not_live) live
    ∙ ap (of_live job m t) owes.0 ∙ owes.1
owing_next most job m t (exchange x) live owes =
    ap (λ b. cond b (of_live job m t (first_owed job m t)) is_not_live) live
    ∙ ap (of_live job m t) owes.0 ∙ owes.1

-- a live task that has made values signals them
pub made_next : {most : ℕ} (job : Job) (m : Moment) (t : ℕ) (state : TaskState)
    → StandsUpTo most job m t (place_in_state state) → is_live job m t ≡ true → length state.made.items ≢ 0
    → next_of job m t ≡ signals 0
made_next {most} job m t state stands live some =
    owing_next most job m t (owed_in state.owed state.made.items) live stands.owes
    ∙ ap (next_for job m t) (by state.owed state.made.items some)
  where
    by : (owed : Owed) (vs : List (Result ℤ TooBigValue)) → length vs ≢ 0
        → owed_in owed vs ≡ values 0 vs
    by owed [] some = absurd (some refl)
    by owed (v ∷ vs) some = refl

-- another one does what it owes
pub owed_next : {most : ℕ} (job : Job) (m : Moment) (t : ℕ) (state : TaskState)
    → StandsUpTo most job m t (place_in_state state) → is_live job m t ≡ true → length state.made.items ≡ 0
    → next_of job m t ≡ next_for job m t (owed_of state.owed)
owed_next {most} job m t state stands live none =
    owing_next most job m t (owed_in state.owed state.made.items) live stands.owes
    ∙ ap (next_for job m t) (by state.owed state.made.items none)
  where
    by : (owed : Owed) (vs : List (Result ℤ TooBigValue)) → length vs ≡ 0
        → owed_in owed vs ≡ owed_of owed
    by owed [] none = refl
    by owed (v ∷ vs) none = absurd (omega arith)
