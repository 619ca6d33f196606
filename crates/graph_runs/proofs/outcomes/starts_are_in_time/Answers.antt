-- By the number of the sink on its phaser.
use Rattle.std.proofs.Common.{◌≡◌, ℕ, ◌<◌, ◌≤◌, Some, None, Bool, true, false, length, get_or, refl, inr, sym, ◌∙◌}
use Rattle.graph_base.proofs.Registered.{registrations-phasers}
use Rattle.stream_lists.specs.Jobs.{Job}
use Rattle.stream_lists.specs.Spans.{lengths_of}
use Rattle.graph_base.specs.Graphs.{task_at}
use Rattle.graph_runs.specs.InTime.{BeginsInTime}
use Rattle.graph_runs.specs.Moments.{Moment, HasRun, input_at, started}
use Rattle.graph_runs.specs.Nexts.{first_missing, number_on}
use Rattle.graph_runs.specs.Settled.{IsReady}
use Rattle.graph_runs.proofs.PlacesLemmas.{numbered}
use Rattle.graph_runs.proofs.Started.{ready_as, run_started}
use Rattle.graph_runs.proofs.StartsAtEnd.{has_input, start_in_time, start_of_others, start_there}
use Rattle.graph_runs.proofs.outcomes.starts_are_in_time.Goals as goal

once_there : (job : Job) (m : Moment) (t : ℕ) → IsReady job → HasRun job m
    → t < length job.graph.tasks → first_missing job m t ≡ None → BeginsInTime (started job m) t
once_there job m t ready ran there all start is =
    by (task_at job.graph t).joins_now refl
  where
    by : (now : Bool) → (task_at job.graph t).joins_now ≡ now
        → start ≤ get_or (lengths_of (started job m)) (input_at (task_at job.graph t) 0) 0
    by false stays =
        absurd (let no : None ≡ Some start =
        sym (start_of_others (started job m) t stays) ∙ is in cc)
    by true now =
        let line = ready.graph.tasks t there in
        let lt = has_input job t ready.graph there now in
        let number = numbered job m t (input_at (task_at job.graph t) 0) line
        (registrations-phasers job.graph t (task_at job.graph t) line) all (inr (0, lt, refl)) in
        start_there (started job m) m t (number_on m t (input_at (task_at job.graph t) 0)) start
        (ready_as job m ready) (run_started job m ran) there number is

pub returns-clause-came : goal.returns-clause-came
returns-clause-came c = once_there

pub returns-clause-over : goal.returns-clause-over
returns-clause-over c = λ job m t ready ran over there start is.
    start_in_time (started job m) m t start (ready_as job m ready) (run_started job m ran)
    (record { quiet = over.quiet; gone = over.gone }) there is
