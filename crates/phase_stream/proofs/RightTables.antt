-- What was written of a table is right in every run whose samples go on so, and all of it once all
-- sinks have left.
use Rattle.std.proofs.Common.{◌≡◌, ◌<◌, ◌≤◌, ◌+◌, ◌-◌, ◌||◌, ◌&&◌, ℕ, ℤ, zero, suc, Bool, true, false, List, [], ◌∷◌, Some, length, get_or, map, refl, sym, ap, subst, ◌∙◌, arith}
use Rattle.std.proofs.lemmas.Bool.{lt-ltb}
use Rattle.std.proofs.lemmas.List.{get_or-map, length-map}
use Rattle.std.proofs.lemmas.Option.{same_Some, slice_get-get_or, slice_get_within, get_or_from_slice_get}
use Rattle.std.specs.Prelude.{drop, nat_lt, slice_get}
use Rattle.std.specs.List.{list_all, list_any}
use mathlib.Core.List.{IsPrefix}
use Rattle.graph_commands.specs.ColumnTexts.{end_from, rows_of, value_from}
use Rattle.stream_job.specs.Streams.{IsStreamAt, StreamState, ended_at}
use Rattle.graph_runs.specs.Feeds.{IsFed}
use Rattle.graph_runs.specs.Moments.{Moment, started}
use Rattle.graph_runs.specs.Settled.{IsReady}
use Rattle.stream_lists.specs.Jobs.{Job, with_samples}
use Rattle.stream_lists.specs.Lists.{is_sink_at, lines_of, sinks_of}
use Rattle.stream_lists.specs.Spans.{span_in}
use Rattle.stream_job.proofs.GivenLines.{sink_there}
use Rattle.phase_stream.specs.Columns.{has_value, is_known}
use Rattle.phase_stream.specs.Sessions.{sink_list}
use Rattle.phase_stream.specs.TableLines.{HasLast, Shows, View, has_line, have_left, table_text}
use Rattle.phase_stream.specs.Tables.{table_of}
use Rattle.phase_stream.specs.declared.column.Column.{Column}
use Rattle.phase_stream.proofs.LineTexts.{HasCells, begins_table, is_table, rows_at_least, rows_at_most}
use Rattle.phase_stream.proofs.RightColumns.{RunsColumn, cell_right, end_passed, end_right, runs_column}

-- ---- the columns of a table

-- the column of a sink
pub record IsColumnAt (sinks : List ℕ) (columns : List Column) (k : ℕ) : Type 0 where
  pub column : Column
  pub there : slice_get columns k ≡ Some column
  pub task : column.task ≡ get_or sinks k 0

pub column_at : (sinks : List ℕ) (columns : List Column) (k : ℕ)
    → map (λ column. column.task) columns ≡ sinks → k < length sinks → IsColumnAt sinks columns k
column_at sinks [] k tasks lt =
    let long : 0 ≡ length sinks = ap length tasks in absurd (omega arith)
column_at sinks (c ∷ columns) k tasks lt =
    let long : length (c ∷ columns) ≡ length sinks =
    sym (length-map (c ∷ columns) (λ column. column.task)) ∙ ap length tasks in
    record {
      column = get_or (c ∷ columns) k c;
      there = slice_get-get_or (c ∷ columns) k c (omega arith);
      task = sym (get_or-map (λ column. column.task) (c ∷ columns) k c 0 (omega arith))
          ∙ ap (λ l. get_or l k 0) tasks;
    }

-- it is that of a sink
pub column_there : (job : Job) (columns : List Column) (k : ℕ) (column : Column)
    → map (λ column. column.task) columns ≡ sinks_of job → slice_get columns k ≡ Some column
    → (k < length (sinks_of job)) × (column.task ≡ get_or (sinks_of job) k 0)
    × (is_sink_at job column.task ≡ true) × (column.task < length job.graph.tasks)
column_there job columns k column tasks got =
    let within = slice_get_within columns k column got in
    let long : length columns ≡ length (sinks_of job) =
    sym (length-map columns (λ column. column.task)) ∙ ap length tasks in
    let lt : k < length (sinks_of job) = omega arith in
    let task : column.task ≡ get_or (sinks_of job) k 0 =
    ap (λ (c : Column). c.task) (sym (get_or_from_slice_get columns k column column got))
    ∙ (sym (get_or-map (λ column. column.task) columns k column 0 within)
    ∙ ap (λ l. get_or l k 0) tasks) in
    let sink = sink_there job k lt in (
      lt,
      task,
      subst (λ t. is_sink_at job t ≡ true) (sym task) sink.0,
      subst (λ t. t < length job.graph.tasks) (sym task) sink.1,
    )

-- ---- a run that goes on so

-- what it has of the column of a sink
record RunsSink (job : Job) (columns : List Column) (view : View) (k : ℕ) : Type 0 where
  pub column : Column
  pub there : slice_get columns k ≡ Some column
  pub task : column.task ≡ get_or (sinks_of job) k 0
  pub runs : RunsColumn job column (view.starts k) (view.lists k)
  pub none : column.has_start ≡ false → view.lists k ≡ []
  pub far : column.has_left ≡ false → view.step ≤ view.starts k + length (view.lists k)
  pub whole : column.has_left ≡ true → view.lists k ≡ sink_list job column.task
  pub waits : column.values.items ≡ drop (view.step - view.starts k) (view.lists k)

runs_sink : (stream : StreamState) (going : Bool) (s : List (List ℤ)) (m : Moment) (given : ℕ → List ℤ)
    (more : List (List ℤ)) (g : ℕ → List ℤ) (columns : List Column) (view : View)
    → IsStreamAt stream s m given → IsFed (with_samples s stream.job) (ended_at stream) more
    → IsReady (with_samples more stream.job) → Shows stream.job (ended_at stream) going s m g columns view
    → (k : ℕ) → k < length (sinks_of stream.job)
    → RunsSink (started (with_samples more stream.job) m) columns view k
runs_sink stream going s m given more g columns view at fed ready shows k lt =
    let it = column_at (sinks_of stream.job) columns k shows.tasks lt in
    let stands = shows.stand k it.column it.there in
    let there = column_there stream.job columns k it.column shows.tasks it.there in
    record {
      column = it.column;
      there = it.there;
      task = it.task;
      runs = runs_column stream s m given more (g k) it.column view.step (view.starts k) (view.lists k)
          at fed ready stands there.3 there.2;
      none = stands.none;
      far = stands.far;
      whole = λ left. (stands.whole left more fed ready).0;
      waits = stands.waits;
    }

has_cells : (job : Job) (columns : List Column) (view : View) (n : ℕ)
    → ((k : ℕ) → k < length (sinks_of job) → RunsSink job columns view k) → n < view.step
    → HasCells job view n
has_cells job columns view n sinks lt k less =
    let it = sinks k less in
    subst (λ t. value_from (span_in job t).offset (sink_list job t) n
    ≡ value_from (view.starts k) (view.lists k) n) it.task
    (cell_right job it.column view.step (view.starts k) (view.lists k) n it.runs it.none it.far
    it.whole lt)

few_rows : (job : Job) (columns : List Column) (view : View)
    → ((k : ℕ) → k < length (sinks_of job) → RunsSink job columns view k)
    → (0 < view.step → HasLast job view) → view.step ≤ rows_of job (lines_of job)
few_rows job columns view sinks last = by view.step refl
  where
    by : (n : ℕ) → view.step ≡ n → view.step ≤ rows_of job (lines_of job)
    by zero e = omega arith
    by (suc n) e =
        let has = last (omega arith) in
        let it = sinks has.sink has.there in
        let ends = subst (λ t. end_from (view.starts has.sink) (view.lists has.sink)
        ≤ end_from (span_in job t).offset (sink_list job t)) it.task
        (end_right job it.column (view.starts has.sink) (view.lists has.sink) it.runs it.none) in
        let le = has.last in
        rows_at_least job has.sink view.step has.there (omega arith)

-- what was written begins its table
pub text_begins : (stream : StreamState) (going : Bool) (s : List (List ℤ)) (m : Moment) (given : ℕ → List ℤ)
    (more : List (List ℤ)) (g : ℕ → List ℤ) (columns : List Column) (view : View)
    → IsStreamAt stream s m given → IsFed (with_samples s stream.job) (ended_at stream) more
    → IsReady (with_samples more stream.job) → Shows stream.job (ended_at stream) going s m g columns view
    → IsPrefix (table_text stream.job view) (table_of (started (with_samples more stream.job) m))
text_begins stream going s m given more g columns view at fed ready shows =
    let job = started (with_samples more stream.job) m in
    let sinks : (k : ℕ) → k < length (sinks_of job) → RunsSink job columns view k =
    runs_sink stream going s m given more g columns view at fed ready shows in
    begins_table job view (λ n lt. has_cells job columns view n sinks lt)
    (few_rows job columns view sinks (λ some. (let has = shows.last some in record {
      sink = has.sink;
      there = has.there;
      last = has.last;
    })))

-- ---- the end

-- where all have left and no line is known, no value waits
left_known : (columns : List Column) → have_left columns ≡ true → list_all is_known columns ≡ true
left_known [] left = refl
left_known (c ∷ columns) left = by c.has_left refl (left_known columns)
  where
    or_left : (a b : Bool) → (a || true || b) ≡ true
    or_left true b = refl
    or_left false b = refl

    by : (b : Bool) → c.has_left ≡ b
        → (have_left columns ≡ true → list_all is_known columns ≡ true)
        → list_all is_known (c ∷ columns) ≡ true
    by false e rec = let wrong : false ≡ true = rw e at left in absurd (cc)
    by true e rec =
        let rest : have_left columns ≡ true = rw e at left in
        let known : is_known c ≡ true =
        ap (λ l. nat_lt 0 c.late || l || has_value c) e ∙ or_left (nat_lt 0 c.late) (has_value c) in
        rw known (rec rest)

none_has : (columns : List Column) (k : ℕ) (column : Column) → list_any has_value columns ≡ false
    → slice_get columns k ≡ Some column → has_value column ≡ false
none_has [] k column none got = absurd (cc)
none_has (c ∷ columns) k column none got =
    by (has_value c) refl k got (λ j. none_has columns j column)
  where
    by : (b : Bool) → has_value c ≡ b → (k : ℕ) → slice_get (c ∷ columns) k ≡ Some column
        → ((j : ℕ) → list_any has_value columns ≡ false → slice_get columns j ≡ Some column
        → has_value column ≡ false)
        → has_value column ≡ false
    by true e k got rec = let wrong : true ≡ false = rw e at none in absurd (cc)
    by false e zero got rec = sym (ap has_value (same_Some c column got)) ∙ e
    by false e (suc k) got rec = rec k (rw e at none) got

no_items : (values : List ℤ) → nat_lt 0 (length values) ≡ false → values ≡ []
no_items [] e = refl
no_items (v ∷ values) e =
    absurd (let wrong : true ≡ false = sym (lt-ltb 0 (length (v ∷ values)) (omega arith)) ∙ e in cc)

no_values : (columns : List Column) (k : ℕ) (column : Column) → have_left columns ≡ true
    → has_line columns ≡ false → slice_get columns k ≡ Some column → column.values.items ≡ []
no_values columns k column left none got =
    let known = left_known columns left in
    no_items column.values.items
    (none_has columns k column (and_known (list_any has_value columns) known none) got)
  where
    and_known : (a : Bool) → list_all is_known columns ≡ true
        → (a && list_all is_known columns) ≡ false → a ≡ false
    and_known false known e = refl
    and_known true known e = let wrong : true ≡ false = sym known ∙ e in cc

pub all_left : (columns : List Column) (k : ℕ) (column : Column) → have_left columns ≡ true
    → slice_get columns k ≡ Some column → column.has_left ≡ true
all_left [] k column left got = absurd (cc)
all_left (c ∷ columns) k column left got =
    by c.has_left refl k got (λ j. all_left columns j column)
  where
    by : (b : Bool) → c.has_left ≡ b → (k : ℕ) → slice_get (c ∷ columns) k ≡ Some column
        → ((j : ℕ) → have_left columns ≡ true → slice_get columns j ≡ Some column
        → column.has_left ≡ true)
        → column.has_left ≡ true
    by false e k got rec = let wrong : false ≡ true = rw e at left in absurd (cc)
    by true e zero got rec =
        sym (ap (λ (x : Column). x.has_left) (same_Some c column got)) ∙ e
    by true e (suc k) got rec = rec k (rw e at left) got

-- what was written is its table
pub text_whole : (stream : StreamState) (going : Bool) (s : List (List ℤ)) (m : Moment) (given : ℕ → List ℤ)
    (more : List (List ℤ)) (g : ℕ → List ℤ) (columns : List Column) (view : View)
    → IsStreamAt stream s m given → IsFed (with_samples s stream.job) (ended_at stream) more
    → IsReady (with_samples more stream.job) → Shows stream.job (ended_at stream) going s m g columns view
    → have_left columns ≡ true → has_line columns ≡ false
    → table_of (started (with_samples more stream.job) m) ≡ table_text stream.job view
text_whole stream going s m given more g columns view at fed ready shows left none =
    let job = started (with_samples more stream.job) m in
    let sinks : (k : ℕ) → k < length (sinks_of job) → RunsSink job columns view k =
    runs_sink stream going s m given more g columns view at fed ready shows in
    let few = few_rows job columns view sinks (λ some. (let has = shows.last some in record {
      sink = has.sink;
      there = has.there;
      last = has.last;
    })) in
    let many = rows_at_most job view.step (λ k lt. ended job sinks k lt) in
    is_table job view (λ n lt. has_cells job columns view n sinks lt) (omega arith)
  where
    ended : (job : Job) → ((k : ℕ) → k < length (sinks_of job) → RunsSink job columns view k)
        → (k : ℕ) → k < length (sinks_of job)
        → end_from (span_in job (get_or (sinks_of job) k 0)).offset
        (sink_list job (get_or (sinks_of job) k 0)) ≤ view.step
    ended job sinks k lt =
        let it = sinks k lt in
        subst (λ t. end_from (span_in job t).offset (sink_list job t) ≤ view.step) it.task
        (end_passed job it.column view.step (view.starts k) (view.lists k) it.runs it.none
        (it.whole (all_left columns k it.column left it.there))
        (sym it.waits ∙ no_values columns k it.column left none it.there))
