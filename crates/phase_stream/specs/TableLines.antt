-- The lines of a table of which some were written.
use Rattle.std.specs.Prelude.{◌≡◌, ◌<◌, ◌≤◌, ◌++◌, ◌==◌, ◌&&◌, ℕ, ℤ, Bool, true, false, List, [], Some, None, codes, get_or, length, map, slice_get}
use Rattle.std.specs.declared.option.Option.{Option}
use Rattle.std.specs.Io.KnownBytes.{Appends}
use Rattle.std.specs.List.{flat_map, list_all, list_any, range_with_len}
use Rattle.watched_io.specs.Prefix.{AppendsPrefix}
use Rattle.graph_commands.specs.ColumnTexts.{comma_before, end_from, row_text, value_cell, value_from}
use Rattle.graph_commands.specs.FileJobs.{Known}
use Rattle.stream_job.specs.Streams.{ended_at}
use Rattle.graph_runs.specs.Moments.{Moment}
use Rattle.stream_lists.specs.Jobs.{Job}
use Rattle.stream_lists.specs.Lists.{sinks_of}
use Rattle.stream_job.specs.declared.stopped.Stopped.{Stopped}
use Rattle.stream_job.specs.declared.stopped.Stopped.TheVariants.{Done, Hungry}
use Rattle.phase_stream.specs.Columns.{ColumnStands, HasNoMore, IsNewColumn, has_value, is_known, next_cell}
use Rattle.phase_stream.specs.Sessions.{HasStopped, StandsBy}
use Rattle.phase_stream.specs.Tables.{unknown}
use Rattle.phase_stream.specs.declared.column.Column.{Column}
use Rattle.phase_stream.specs.declared.session.Session.{Session}
use Rattle.phase_stream.specs.declared.table.Table.{Table}

-- ---- texts

-- a line of these cells
abbrev pub line_of : List (Option ℤ) → List ℕ
line_of cells =
    flat_map (λ k. comma_before k ++ value_cell (length cells == 1) (get_or cells k None))
    (range_with_len 0 (length cells))
    ++ codes "\n"

-- the line of the names of the sinks
abbrev pub names_line : Job → List ℕ
names_line job = row_text job (map (λ t. (t, [])) (sinks_of job)) None

-- the next line
abbrev pub next_line : List Column → List ℕ
next_line columns = line_of (map next_cell columns)

-- whether it is known, and some value waits
abbrev pub has_line : List Column → Bool
has_line columns = list_any has_value columns && list_all is_known columns

-- whether all sinks have left
abbrev pub have_left : List Column → Bool
have_left columns = list_all (λ column. column.has_left) columns

-- of each column there is one that came of it so
pub record EachGoes (Goes : Column → Column → Type 0) (old new : List Column) : Type 0 where
  pub many : length new ≡ length old
  pub each : (k : ℕ) (before after : Column) → slice_get old k ≡ Some before
      → slice_get new k ≡ Some after → Goes before after

-- the sinks get no more values where the run does not go on
abbrev pub ColumnsEndBy : Bool → List Column → List Column → Type 0
ColumnsEndBy true old new = new ≡ old
ColumnsEndBy false old new = EachGoes HasNoMore old new × (have_left new ≡ true)

-- ---- what was written

-- how many lines were written, and the start of each sink and its values that were taken over, by
-- its number
pub record View : Type 0 where
  pub step : ℕ
  pub starts : ℕ → ℕ
  pub lists : ℕ → List ℤ

-- what stood in the line of a step
abbrev pub cells_at : Job → View → ℕ → List (Option ℤ)
cells_at job view n =
    map (λ k. value_from (view.starts k) (view.lists k) n)
    (range_with_len 0 (length (sinks_of job)))

-- the names, and the lines of so many steps
abbrev pub table_text : Job → View → List ℕ
table_text job view =
    names_line job
    ++ flat_map (λ n. line_of (cells_at job view n)) (range_with_len 0 view.step)

-- some sink has a value in the last of these lines, or behind it
pub record HasLast (job : Job) (view : View) : Type 0 where
  pub sink : ℕ
  pub there : sink < length (sinks_of job)
  pub last : view.step ≤ end_from (view.starts sink) (view.lists sink)

-- of each sink that has left it is known where it began
abbrev pub AreLeftKnown : List Column → Type 0
AreLeftKnown columns = (k : ℕ) (column : Column) → slice_get columns k ≡ Some column
    → column.has_start ≡ false → column.has_left ≡ false

-- the columns are those of the sinks, behind so many lines, where these values were handed over of
-- each sink, by its number, and the run is going on, or is not
pub record Shows (job : Job) (ended : ℕ → Bool) (going : Bool) (s : List (List ℤ)) (m : Moment)
    (given : ℕ → List ℤ) (columns : List Column) (view : View) : Type 0 where
  pub tasks : map (λ column. column.task) columns ≡ sinks_of job
  pub stand : (k : ℕ) (column : Column) → slice_get columns k ≡ Some column
      → ColumnStands job ended s m (given k) column view.step (view.starts k) (view.lists k)
  pub last : 0 < view.step → HasLast job view
  pub left : going ≡ true → AreLeftKnown columns

-- they are so behind these bytes more
pub record ShowsMore (job : Job) (ended : ℕ → Bool) (going : Bool) (s : List (List ℤ)) (m : Moment)
    (given : ℕ → List ℤ) (view : View) (columns : List Column) (bytes : List ℕ) : Type 0 where
  pub later : View
  pub shows : Shows job ended going s m given columns later
  pub text : table_text job later ≡ table_text job view ++ bytes

-- lines were written
pub record WritesTableLines (job : Job) (ended : ℕ → Bool) (going : Bool) (s : List (List ℤ))
    (m : Moment) (given : ℕ → List ℤ) (view : View) (columns : List Column)
    (old new : Option (List ℕ)) : Type 0
  where
    pub bytes : List ℕ
    pub more : ShowsMore job ended going s m given view columns bytes
    pub written : Appends old new bytes

-- a part of some lines was
pub record WritesSomeLines (job : Job) (ended : ℕ → Bool) (going : Bool) (s : List (List ℤ))
    (m : Moment) (given : ℕ → List ℤ) (view : View) (old new : Option (List ℕ)) : Type 0 where
  pub columns : List Column
  pub bytes : List ℕ
  pub more : ShowsMore job ended going s m given view columns bytes
  pub written : AppendsPrefix old new bytes

-- of each sink this was handed over, by its number
abbrev pub by_number : Job → (ℕ → List ℤ) → ℕ → List ℤ
by_number job given k = given (get_or (sinks_of job) k 0)

-- a column for each sink, of which nothing was written
pub record AreNewColumns (job : Job) (columns : List Column) : Type 0 where
  pub tasks : map (λ column. column.task) columns ≡ sinks_of job
  pub each : (k : ℕ) (column : Column) → slice_get columns k ≡ Some column
      → IsNewColumn job column.task column

-- ---- sessions

-- the session stands so, its values were taken over by the table, and this was written of it
pub record TableStands {R : Type 0} (remaining : R → Option (List ℕ)) (held : Known)
    (old now : Option (List ℕ)) (session : Session R) (table : Table) (going : Bool) : Type 0 where
  pub stands : StandsBy remaining held unknown unknown session
  pub view : View
  pub shows : Shows session.stream.job (ended_at session.stream) going stands.samples
      stands.moment (by_number session.stream.job stands.given) table.columns.items view
  pub written : Appends old now (table_text session.stream.job view)

-- whether it goes on behind a stop
abbrev pub goes_on : Stopped → Bool
goes_on Done = false
goes_on stop = true

-- it is the same stop, but that the source that is told as hungry may be another
abbrev pub IsSameStop : Stopped → Stopped → Type 0
IsSameStop (Hungry source) found = (other : ℕ) × (found ≡ Hungry other)
IsSameStop stop found = found ≡ stop

-- it stopped so, and each line that is known was written: where it is done, all
pub record TableStopped {R : Type 0} (remaining : R → Option (List ℕ)) (held : Known)
    (old now : Option (List ℕ)) (session : Session R) (table : Table) (stop : Stopped) : Type 0
  where
    pub table_stands : TableStands remaining held old now session table (goes_on stop)
    pub stopped_is : HasStopped session.stream table_stands.stands.samples
        table_stands.stands.moment stop
    pub no_line : has_line table.columns.items ≡ false
    pub done : goes_on stop ≡ false → have_left table.columns.items ≡ true
