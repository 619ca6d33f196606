-- What the call of a turn did, as the turn tells it and as the lists of blocked tasks have it.
use Rattle.std.specs.Prelude.{ℕ, ◌<◌, List, [], set, get_or}
use Rattle.graph_base.specs.declared.limits.TheConstants.{TASKS_MAX}
use Rattle.graph_base.specs.declared.place.Place.TheVariants as place
use Rattle.stream_job.specs.Parking.{with_task}
use Rattle.stream_job.specs.declared.made.Made.{Made}
use Rattle.stream_job.specs.declared.made.Made.TheVariants as made
use Rattle.stream_job.specs.declared.turned.Turned.{Turned}
use Rattle.stream_job.specs.declared.turned.Turned.TheVariants as turned

-- what the turn of task t tells
abbrev pub told_by : Made → ℕ → Turned
told_by (made.Event p told) t = told
told_by (made.Blocked p) t = turned.Blocked
told_by (made.OutOfRange step) t = turned.TooBig (place.Task t) step
told_by made.Nothing t = turned.Gone

-- the lists of blocked tasks after it
abbrev pub parked_with : Made → ℕ → List (List ℕ) → List (List ℕ)
parked_with (made.Event p told) t parked = set parked p []
parked_with (made.Blocked p) t parked = set parked p (with_task t (get_or parked p []))
parked_with it t parked = parked

-- it was on one of so many phasers, and a task that was blocked is one of those of a graph
abbrev pub IsOnPhaser : Made → ℕ → ℕ → Type 0
IsOnPhaser (made.Event p told) t phasers = p < phasers
IsOnPhaser (made.Blocked p) t phasers = (p < phasers) × (t < TASKS_MAX)
IsOnPhaser it t phasers = Unit {0}
