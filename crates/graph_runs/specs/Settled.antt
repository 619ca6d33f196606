-- What a moment of a run has of the lists that the definitions compose.
use Rattle.std.specs.Prelude.{◌≡◌, ℕ, ◌<◌, ◌≤◌, pos, Some, None, true, length, get_or}
use mathlib.Core.List.{IsPrefix}
use Rattle.graph_base.specs.Graphs.{task_at}
use Rattle.graph_base.specs.TaskLines.{IsGraph}
use Rattle.graph_base.specs.declared.place.Place.TheVariants as place
use Rattle.stream_lists.specs.Jobs.{Job, samples_at, index_in}
use Rattle.stream_lists.specs.Spans.{lengths_of, span_in, signalled_by, schedule_of}
use Rattle.stream_lists.specs.Lists.{contributions_on, numbers_of, output_on}
use Rattle.stream_lists.specs.Meetings.{meeting_line}
use Rattle.stream_lists.specs.Ranges.{Where, is_fault, are_made, is_out_of_range}
use Rattle.graph_runs.specs.Moments.{Moment, MayStop, HasEnded, value_at}

-- a registered task is one that the definitions have, at its offset and within its steps
pub record Stands (job : Job) (m : Moment) (t : ℕ) : Type 0 where
  pub live : (span_in job t).live ≡ true
  pub offset : (span_in job t).offset ≡ m.offset t
  pub within : m.begun t ≤ (span_in job t).steps
  pub ended : MayStop m (task_at job.graph t) t (length (samples_at job t))
      → m.begun t ≡ (span_in job t).steps

-- what it has put on output number j begins its output list there, and is all of it where it has
-- ended
pub record PutsOut (job : Job) (m : Moment) (t j : ℕ) : Type 0 where
  pub begins : IsPrefix (m.put t j) (output_on job (schedule_of job) (numbers_of job) t j)
  pub ended : HasEnded job m t → m.put t j ≡ output_on job (schedule_of job) (numbers_of job) t j

-- a job whose graph was read, where no two tasks signal in one phase of a phaser with `any`
pub record IsReady (job : Job) : Type 0 where
  pub graph : IsGraph job.graph
  pub apart : meeting_line job ≡ None

-- the value at this place, over the lists of all phasers, is out of range and counts: the value of
-- a phase that some task takes, or a value that a live task makes on one of its outputs
abbrev pub IsFaultAt : Job → Where → Type 0
IsFaultAt job (place.Phaser p, n) =
    (n < get_or (lengths_of job) p 0)
    × (is_fault (value_at job p) job (schedule_of job)
    (contributions_on job (schedule_of job) (numbers_of job) p) p n ≡ true)
IsFaultAt job (place.Task t, i) =
    (p : ℕ) × (j : ℕ) × (index_in (signalled_by (task_at job.graph t)) p ≡ Some j)
    × ((span_in job t).live ≡ true) × (are_made (task_at job.graph t).kind j ≡ true)
    × (i < length (output_on job (schedule_of job) (numbers_of job) t j))
    × (is_out_of_range (get_or (output_on job (schedule_of job) (numbers_of job) t j) i (pos 0))
    ≡ true)

-- the place is on a line of the graph
abbrev pub IsPlaceThere : Job → Where → Type 0
IsPlaceThere job (place.Phaser p, n) = p < length job.graph.phasers
IsPlaceThere job (place.Task t, i) = t < length job.graph.tasks
