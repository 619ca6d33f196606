-- What a run of a stream tells, by what was looked at.
use Rattle.std.proofs.Common.{◌≡◌, ℕ, ℤ, List, Option, Some, None, length, sym, subst, ◌∙◌}
use Rattle.stream_lists.specs.Jobs.{Job, with_samples}
use Rattle.stream_lists.specs.Ranges.{Where}
use Rattle.graph_runs.specs.Moments.{Moment}
use Rattle.stream_job.specs.InRange.{stands_before}
use Rattle.stream_job.specs.Rounds.{FirstOrRest, LookedAt, StandsSome, StopsSo, met_in}
use Rattle.stream_job.specs.Streams.{IsSameRun, Meets, StreamState, StreamStopsAt, ended_at, first_full, rests}
use Rattle.stream_job.specs.declared.input.Input.{Input}
use Rattle.stream_job.specs.declared.machine.Machine.{Machine}
use Rattle.stream_job.specs.declared.stopped.Stopped.{Stopped}
use Rattle.stream_job.specs.declared.stopped.Stopped.TheVariants as stopped

-- what is so of a run is so of the same run
pub same_run : (P : Job → Machine → List Input → Type 0) (old new : StreamState)
    → IsSameRun old new → P old.job old.machine old.inputs → P new.job new.machine new.inputs
same_run P old new same is =
    subst (λ j. P j new.machine new.inputs) (sym same.job)
    (subst (λ machine. P old.job machine new.inputs) (sym same.machine)
    (subst (P old.job old.machine) (sym same.inputs) is))

-- a stream is its parts
state_same : (a b : StreamState) → a.job ≡ b.job → a.machine ≡ b.machine → a.inputs ≡ b.inputs
    → a.met ≡ b.met → a ≡ b
state_same a b job machine inputs met = λ i. record {
  job = job i;
  machine = machine i;
  inputs = inputs i;
  met = met i;
}

-- the first task that does not rest stands before a value
pub meets_so : (stream : StreamState) (s : List (List ℤ)) (m : Moment) (given : ℕ → List ℤ)
    (before : Option Where) (at : Where) → before ≡ Some at
    → first_full (with_samples s stream.job) m given ≡ None
    → LookedAt stream s m given (length stream.job.graph.tasks) before
    → Meets (with_samples s stream.job) (ended_at stream) m given at
meets_so stream s m given before at is room looked =
    let job = with_samples s stream.job in
    record {
      each = looked.each;
      first = subst (FirstOrRest (rests job (ended_at stream) m given) (stands_before job m)
          (length stream.job.graph.tasks)) is looked.first;
      room = room;
    }

-- some task does
pub some_stands : (stream : StreamState) (s : List (List ℤ)) (m : Moment) (given : ℕ → List ℤ)
    (before : Option Where) (at : Where) → before ≡ Some at
    → LookedAt stream s m given (length stream.job.graph.tasks) before
    → StandsSome (with_samples s stream.job) m at
some_stands stream s m given before at is looked =
    let job = with_samples s stream.job in
    let first = subst (FirstOrRest (rests job (ended_at stream) m given) (stands_before job m)
    (length stream.job.graph.tasks)) is looked.first in
    record { task = first.task; is = first.is }

-- it stops so once what it met is kept
pub stops_met : (old new : StreamState) (s : List (List ℤ)) (m : Moment) (given : ℕ → List ℤ)
    (before : Option Where) (stop : Stopped) → old.met ≡ None → IsSameRun old new
    → new.met ≡ met_in stop → StopsSo old s m given before stop
    → StreamStopsAt new s m given stop
stops_met old new s m given before (stopped.TooBig place n) none same met stops = met
stops_met old new s m given before (stopped.Hungry source) none same met stops =
    subst (λ w. StreamStopsAt w s m given (stopped.Hungry source))
    (state_same old new (sym same.job) (sym same.machine) (sym same.inputs) (none ∙ sym met)) stops
stops_met old new s m given before (stopped.Full sink) none same met stops =
    subst (λ w. StreamStopsAt w s m given (stopped.Full sink))
    (state_same old new (sym same.job) (sym same.machine) (sym same.inputs) (none ∙ sym met)) stops
stops_met old new s m given before stopped.Stalled none same met stops =
    subst (λ w. StreamStopsAt w s m given stopped.Stalled)
    (state_same old new (sym same.job) (sym same.machine) (sym same.inputs) (none ∙ sym met)) stops
stops_met old new s m given before stopped.Done none same met stops =
    subst (λ w. StreamStopsAt w s m given stopped.Done)
    (state_same old new (sym same.job) (sym same.machine) (sym same.inputs) (none ∙ sym met)) stops
stops_met old new s m given before stopped.Paused none same met stops =
    subst (λ w. StreamStopsAt w s m given stopped.Paused)
    (state_same old new (sym same.job) (sym same.machine) (sym same.inputs) (none ∙ sym met)) stops
