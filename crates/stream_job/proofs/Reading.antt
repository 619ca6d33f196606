-- What a task's place tells of whether it is live.
use Rattle.std.proofs.Common.{◌≡◌, ℕ, ◌<◌, ◌≤◌, ◌⊎◌, true, false, not, ◌&&◌, is_some, length, slice_get, nat_lt, nat_le, sym, ap, ◌∙◌, arith, inl, inr}
use Rattle.std.proofs.lemmas.Bool.{lt-ltb, le-ltb, le-leb, lt-leb, leb-true, not-false, cases_lt}
use Rattle.std.proofs.lemmas.Option.{slice_get-get_or, slice_get_past}
use Rattle.graph_base.specs.Registrations.{no_registration}
use Rattle.stream_lists.specs.Jobs.{Job}
use Rattle.graph_runs.specs.Moments.{Moment}
use Rattle.graph_runs.specs.Nexts.{registrations_at, first_missing, first_kept, is_live}
use Rattle.graph_runs.specs.TaskPlaces.{TaskPlace, StandsUpTo}
use Rattle.graph_runs.proofs.Standing.{missing, kept}

-- a task is registered on all its phasers where it has a number for each
pub registered_by : {most : ℕ} (job : Job) (m : Moment) (t : ℕ) (at : TaskPlace) → StandsUpTo most job m t at
    → is_some (first_missing job m t)
    ≡ not (nat_le (length (registrations_at job t)) (length at.numbers))
registered_by job m t at stands =
    by (cases_lt (length at.numbers) (length (registrations_at job t)))
  where
    by : (length at.numbers < length (registrations_at job t))
        ⊎ (length (registrations_at job t) ≤ length at.numbers)
        → is_some (first_missing job m t)
        ≡ not (nat_le (length (registrations_at job t)) (length at.numbers))
    by (inl lt) =
        ap is_some (missing job m t at stands
        ∙ slice_get-get_or (registrations_at job t) (length at.numbers) no_registration lt)
        ∙ sym (ap not (lt-leb (length (registrations_at job t)) (length at.numbers) lt))
    by (inr le) =
        ap is_some (missing job m t at stands
        ∙ slice_get_past (registrations_at job t) (length at.numbers) le)
        ∙ sym (ap not (le-leb (length (registrations_at job t)) (length at.numbers) le))

-- a task that is registered on all its phasers is live where it has not left as many
pub live_by : {most : ℕ} (job : Job) (m : Moment) (t : ℕ) (at : TaskPlace) → StandsUpTo most job m t at
    → t < length job.graph.tasks → length (registrations_at job t) ≤ length at.numbers
    → is_live job m t ≡ nat_lt at.left (length at.numbers)
live_by job m t at stands there le =
    ap (λ b. b && not (is_some (first_missing job m t)) && is_some (first_kept job m t))
    (lt-ltb t (length job.graph.tasks) there)
    ∙ ap (λ b. true && not b && is_some (first_kept job m t)) (registered_by job m t at stands
    ∙ ap not (le-leb (length (registrations_at job t)) (length at.numbers) le))
    ∙ ap is_some (kept job m t at stands (all stands.few)) ∙ by (cases_lt at.left (length at.numbers))
  where
    all : length at.numbers ≤ length (registrations_at job t)
        → length at.numbers ≡ length (registrations_at job t)
    all few = omega arith

    by : (at.left < length at.numbers) ⊎ (length at.numbers ≤ at.left)
        → is_some (slice_get (registrations_at job t) at.left)
        ≡ nat_lt at.left (length at.numbers)
    by (inl lt) =
        let few = stands.few in
        ap is_some (slice_get-get_or (registrations_at job t) at.left no_registration (omega arith))
        ∙ sym (lt-ltb at.left (length at.numbers) lt)
    by (inr past) =
        let few = stands.few in
        ap is_some (slice_get_past (registrations_at job t) at.left (omega arith))
        ∙ sym (le-ltb at.left (length at.numbers) past)

-- a task that misses no registration has a number for each
pub complete : {most : ℕ} (job : Job) (m : Moment) (t : ℕ) (at : TaskPlace) → StandsUpTo most job m t at
    → is_some (first_missing job m t) ≡ false
    → length (registrations_at job t) ≤ length at.numbers
complete job m t at stands none =
    leb-true (length (registrations_at job t)) (length at.numbers)
    (not-false (nat_le (length (registrations_at job t)) (length at.numbers))
    (sym (registered_by job m t at stands) ∙ none))
