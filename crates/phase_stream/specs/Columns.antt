-- A sink as a column of a table: what of its values was written in lines, and what waits.
use Rattle.std.specs.Prelude.{◌≡◌, ◌<◌, ◌≤◌, ◌+◌, ◌-◌, ◌||◌, ℕ, ℤ, Bool, true, false, List, [], None, Some, drop, get_or, length, min, nat_lt, not, slice_get, if◌then◌else◌}
use Rattle.std.specs.declared.option.Option.{Option}
use mathlib.Core.List.{IsPrefix}
use Rattle.graph_commands.specs.ColumnTexts.{end_from, value_from}
use Rattle.stream_job.specs.SinkLines.{kept_by, sink_begins_at}
use Rattle.graph_base.specs.Graphs.{task_at}
use Rattle.graph_base.specs.declared.line.Parent.{Parent}
use Rattle.graph_runs.specs.Beginnings.{opening_offsets}
use Rattle.graph_runs.specs.Feeds.{IsFed}
use Rattle.graph_runs.specs.InTime.{BeginsInTime}
use Rattle.graph_runs.specs.Moments.{Moment, started}
use Rattle.graph_runs.specs.Settled.{IsReady}
use Rattle.stream_lists.specs.Jobs.{Job, with_samples}
use Rattle.phase_stream.specs.Sessions.{sink_list}
use Rattle.phase_stream.specs.declared.column.Column.{Column}

-- ---- the next line

-- whether a value of it waits
abbrev pub has_value : Column → Bool
has_value column = nat_lt 0 (length column.values.items)

-- whether it is known what stands in it in the next line: nothing, as it begins later or has left,
-- or a value
abbrev pub is_known : Column → Bool
is_known column = nat_lt 0 column.late || column.has_left || has_value column

-- what stands there
abbrev pub next_cell : Column → Option ℤ
next_cell column = if nat_lt 0 column.late then None else slice_get column.values.items 0

-- the same sink, of which the same is known
pub record IsSameSink (old new : Column) : Type 0 where
  pub task : new.task ≡ old.task
  pub least : new.least ≡ old.least
  pub has_start : new.has_start ≡ old.has_start
  pub has_left : new.has_left ≡ old.has_left

-- the next line was written
pub record HasPassedLine (old new : Column) : Type 0 where
  pub late : new.late ≡ old.late - 1
  pub count : new.count ≡ old.count
  pub values : new.values.items
      ≡ (if nat_lt 0 old.late then old.values.items else drop 1 old.values.items)
  pub same : IsSameSink old new

-- the sink gets no more values
abbrev pub HasNoMore : Column → Column → Type 0
HasNoMore old new = new ≡ record old { has_left = true }

-- ---- its start

-- the phase at which a task begins at the earliest
abbrev pub least_start : Job → ℕ → ℕ
least_start job t = get_or (opening_offsets job) t 0

-- the column once its start is known, where one is
abbrev pub started_column : Option ℕ → Column → Column
started_column None column = column
started_column (Some start) column = record column {
  late = min 340282366920938463463374607431768211455 (column.late + (start - column.least));
  has_start = true;
}

-- at this moment it begins at this phase, or at the earliest at this one, where it joins now and is
-- not there yet
abbrev pub ColumnBeginsAt : Job → Moment → Column → ℕ → Type 0
ColumnBeginsAt job m column start = of (task_at job.graph column.task).joins_now column.has_start
  where
    of : Bool → Bool → Type 0
    of true true = (sink_begins_at job m column.task ≡ Some start) × (column.least ≤ start)
    of true false = start ≡ column.least
    of false has = (has ≡ true) × (start ≡ column.least)

-- ---- its values

-- this holds of every run whose samples go on behind these
abbrev pub InRuns : Job → (ℕ → Bool) → List (List ℤ) → Moment → (Job → Type 0) → Type 0
InRuns job ended s m Holds = (more : List (List ℤ)) → IsFed (with_samples s job) ended more
    → IsReady (with_samples more job) → Holds (started (with_samples more job) m)

-- behind so many lines the column is that of a sink with this start that took these values, all
-- that were handed over where it has not left: they begin its values in every run that goes on so,
-- and are all of them where it has
pub record ColumnStands (job : Job) (ended : ℕ → Bool) (s : List (List ℤ)) (m : Moment)
    (given : List ℤ) (column : Column) (step start : ℕ) (list : List ℤ) : Type 0 where
  pub least : column.least ≡ least_start job column.task
  pub begun : ColumnBeginsAt job m column start
  pub late : column.late ≡ start - step
  pub waits : column.values.items ≡ drop (step - start) list
  pub far : column.has_left ≡ false → step ≤ start + length list
  pub counted : column.count ≡ min 18446744073709551615 (length list)
  pub none : column.has_start ≡ false → list ≡ []
  pub all : column.has_left ≡ false → list ≡ given
  pub begins : InRuns job ended s m (λ run. IsPrefix list (sink_list run column.task))
  pub whole : column.has_left ≡ true → InRuns job ended s m (λ run.
      (list ≡ sink_list run column.task) × BeginsInTime run column.task)

-- it took over what the sink has kept: what stands in the lines before is the same
pub record TakesOver (job : Job) (ended : ℕ → Bool) (s : List (List ℤ)) (m : Moment)
    (column : Column) (step start : ℕ) (list : List ℤ) : Type 0 where
  pub later : ℕ
  pub values : List ℤ
  pub stands : ColumnStands job ended s m (kept_by job m column.task) column step later values
  pub same : (n : ℕ) → n < step → value_from later values n ≡ value_from start list n
  pub more : end_from start list ≤ end_from later values

-- ---- a column of which nothing was written

-- it is that of task t, at the opening of a run
pub record IsNewColumn (job : Job) (t : ℕ) (column : Column) : Type 0 where
  pub task : column.task ≡ t
  pub least : column.least ≡ least_start job t
  pub late : column.late ≡ column.least
  pub has_start : column.has_start ≡ not (task_at job.graph t).joins_now
  pub has_left : column.has_left ≡ false
  pub count : column.count ≡ 0
  pub values : column.values.items ≡ []

-- ---- a column that never begins

-- its parent, a sink too, has left behind fewer steps than those after which it would have come
pub record NeverComes (job : Job) (columns : List Column) (column : Column) : Type 0 where
  pub parent : Parent
  pub is_child : (task_at job.graph column.task).parent ≡ Some parent
  pub place : ℕ
  pub by : Column
  pub there : slice_get columns place ≡ Some by
  pub task : by.task ≡ parent.task
  pub left : by.has_left ≡ true
  pub few : by.count < parent.at
  pub started : column.has_start ≡ true
