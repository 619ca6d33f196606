-- How many events the turns of a stream made, and what a look at its tasks tells.
use Rattle.std.specs.Prelude.{◌≡◌, ◌<◌, ℕ, ℤ, Bool, true, false, List, Option, Some, None, length}
use Rattle.stream_lists.specs.Jobs.{Job, with_samples}
use Rattle.stream_lists.specs.Ranges.{Where}
use Rattle.graph_runs.specs.Moments.{Moment}
use Rattle.stream_job.specs.InRange.{stands_before}
use Rattle.stream_job.specs.Streams.{EachStands, FirstStands, IsStreamAt, StreamState, StreamStopsAt, ended_at, first_full, rests}
use Rattle.stream_job.specs.declared.look.Look.{Look}
use Rattle.stream_job.specs.declared.look.Look.TheVariants as look
use Rattle.stream_job.specs.declared.went.Went.{Went}
use Rattle.stream_job.specs.declared.went.Went.TheVariants as went
use Rattle.stream_job.specs.declared.stopped.Stopped.{Stopped}
use Rattle.stream_job.specs.declared.stopped.Stopped.TheVariants as stopped

-- how many events there are, by what a turn did
abbrev pub of_went : Went → ℕ
of_went went.On = 1
of_went word = 0

-- at least, by whether some task moved
abbrev pub of_moved : Bool → ℕ
of_moved true = 1
of_moved false = 0

-- at least, by what a look tells, where so many are made before it tells that some task moved
abbrev pub of_look : ℕ → Look → ℕ
of_look many look.Moved = many
of_look many (look.Still before) = 0

-- the first of n tasks that does not rest stands before this, or all of them rest
abbrev pub FirstOrRest : (ℕ → Bool) → (ℕ → Option Where) → ℕ → Option Where → Type 0
FirstOrRest rest before n None = (t : ℕ) → t < n → rest t ≡ true
FirstOrRest rest before n (Some at) = FirstStands rest before n at

-- each of n tasks rests or stands before a value out of range, the first of these before this one
pub record LookedAt (stream : StreamState) (s : List (List ℤ)) (m : Moment) (given : ℕ → List ℤ)
    (n : ℕ) (before : Option Where) : Type 0 where
  pub each : let job = with_samples s stream.job in
      EachStands (rests job (ended_at stream) m given) (stands_before job m) n
  pub first : let job = with_samples s stream.job in
      FirstOrRest (rests job (ended_at stream) m given) (stands_before job m) n before

-- so at each moment that the stream stands for
abbrev pub LooksSo : StreamState → ℕ → Option Where → Type 0
LooksSo stream n before = (s : List (List ℤ)) (m : Moment) (given : ℕ → List ℤ)
    → IsStreamAt stream s m given → LookedAt stream s m given n before

-- what a look tells
abbrev pub LookTells : StreamState → Look → Type 0
LookTells stream look.Moved = Unit {0}
LookTells stream (look.Still before) = LooksSo stream (length stream.job.graph.tasks) before

-- why it stops, where the first task that does not rest stands before this
abbrev pub StopsSo : StreamState → List (List ℤ) → Moment → (ℕ → List ℤ) → Option Where → Stopped
    → Type 0
StopsSo stream s m given before (stopped.TooBig place n) =
    (before ≡ Some (place, n)) × (first_full (with_samples s stream.job) m given ≡ None)
StopsSo stream s m given before stop = StreamStopsAt stream s m given stop

-- the value that a stop tells as out of range
abbrev pub met_in : Stopped → Option Where
met_in (stopped.TooBig place n) = Some (place, n)
met_in stop = None

-- some task stands before a value out of range
pub record StandsSome (job : Job) (m : Moment) (at : Where) : Type 0 where
  pub task : ℕ
  pub is : stands_before job m task ≡ Some at

-- the first of two, where there is one before
abbrev pub first_met : Option Where → Where → Option Where
first_met None at = Some at
first_met (Some first) at = Some first
