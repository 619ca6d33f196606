-- A column stands at a later moment, and behind more samples, as it stood.
use Rattle.std.proofs.Common.{◌≡◌, inl, inr, ◌<◌, ◌≤◌, ℕ, ℤ, Bool, true, false, List, Some, length, map, refl, sym, subst, ◌∙◌, arith}
use Rattle.std.proofs.lemmas.List.FromFn.{get_or-map-range_with_len}
use Rattle.std.specs.List.{range_with_len}
use mathlib.Core.List.{IsPrefix}
use Rattle.stream_job.specs.SinkLines.{sink_begins_at}
use Rattle.graph_base.specs.Graphs.{task_at}
use Rattle.graph_base.specs.TaskLines.{IsGraph}
use Rattle.graph_runs.specs.Feeds.{IsFed}
use Rattle.graph_runs.specs.InTime.{BeginsInTime}
use Rattle.graph_runs.specs.Moments.{Moment, started}
use Rattle.graph_runs.specs.Settled.{IsReady}
use Rattle.stream_lists.specs.Jobs.{Job, start_at, with_samples, with_starts}
use Rattle.stream_lists.specs.Spans.{span_in}
use Rattle.phase_stream.specs.Columns.{ColumnBeginsAt, ColumnStands}
use Rattle.phase_stream.specs.Sessions.{sink_list}
use Rattle.phase_stream.specs.TableLines.{Shows, View}
use Rattle.phase_stream.specs.declared.column.Column.{Column}
use Rattle.phase_stream.proofs.OwnStarts.{same_in_time, same_list, same_span}
use Rattle.phase_stream.proofs.RightColumns.{has_begun, known_start}
use Rattle.phase_stream.proofs.RightTables.{column_there}

-- the offsets of a moment
abbrev offsets : Job → Moment → List ℕ
offsets job m = map m.offset (range_with_len 0 (length job.graph.tasks))

-- a sink that has begun begins there at both moments
start_same : (job : Job) (m later : Moment) (t : ℕ) → t < length job.graph.tasks
    → ((task_at job.graph t).joins_now ≡ true → later.offset t ≡ m.offset t)
    → start_at (with_starts (offsets job later) job) t ≡ start_at (with_starts (offsets job m) job) t
start_same job m later t there same = by (task_at job.graph t).joins_now refl
  where
    by : (b : Bool) → (task_at job.graph t).joins_now ≡ b
        → start_at (with_starts (offsets job later) job) t
        ≡ start_at (with_starts (offsets job m) job) t
    by false e = rw e refl
    by true e =
        rw e (get_or-map-range_with_len later.offset 0 (length job.graph.tasks) t t 0 there (omega arith)
        ∙ same e
        ∙ sym (get_or-map-range_with_len m.offset 0 (length job.graph.tasks) t t 0 there (omega arith)))

-- so it has the same span in a run that goes on behind both
span_same : (job : Job) (m later : Moment) (t : ℕ) → IsGraph job.graph → t < length job.graph.tasks
    → ((task_at job.graph t).joins_now ≡ true → later.offset t ≡ m.offset t)
    → span_in (started job m) t ≡ span_in (started job later) t
span_same job m later t is there same =
    same_span job (offsets job m) (offsets job later) t is there
    (sym (start_same job m later t there same))

-- ---- a column

-- of a column with a start the moments agree
pub agrees : (job : Job) (m later : Moment) (column : Column) (start : ℕ)
    → ColumnBeginsAt job m column start → column.has_start ≡ true
    → ((n : ℕ) → sink_begins_at job m column.task ≡ Some n
    → sink_begins_at job later column.task ≡ Some n)
    → (task_at job.graph column.task).joins_now ≡ true
    → later.offset column.task ≡ m.offset column.task
agrees job m later column start begins has stays now =
    elim (known_start job m column start begins has) [
      | inl joined ↦
          (has_begun job later column.task start (stays start joined.1)).offset
          ∙ sym (has_begun job m column.task start joined.1).offset
      | inr not ↦ absurd (let wrong : true ≡ false = sym now ∙ not.0 in cc)
    ]

begins_later : (job : Job) (m later : Moment) (column : Column) (start : ℕ)
    → ((n : ℕ) → sink_begins_at job m column.task ≡ Some n
    → sink_begins_at job later column.task ≡ Some n)
    → ColumnBeginsAt job m column start → ColumnBeginsAt job later column start
begins_later job m later column start stays begins =
    by (task_at job.graph column.task).joins_now column.has_start refl refl
  where
    by : (b c : Bool) → (task_at job.graph column.task).joins_now ≡ b → column.has_start ≡ c
        → ColumnBeginsAt job later column start
    by true true e f =
        let it : (sink_begins_at job m column.task ≡ Some start) × (column.least ≤ start) =
        rw (e, f) at begins in
        rw (e, f) (stays start it.0, it.1)
    by true false e f = let it : start ≡ column.least = rw (e, f) at begins in rw (e, f) it
    by false c e f =
        let it : (column.has_start ≡ true) × (start ≡ column.least) = rw e at begins in
        rw e it

pub stands_later : (job : Job) (ended over : ℕ → Bool) (s t : List (List ℤ)) (m later : Moment)
    (g : List ℤ) (column : Column) (step start : ℕ) (list : List ℤ)
    → column.task < length job.graph.tasks
    → ((more : List (List ℤ)) → IsFed (with_samples t job) over more
    → IsFed (with_samples s job) ended more)
    → ((n : ℕ) → sink_begins_at job m column.task ≡ Some n
    → sink_begins_at job later column.task ≡ Some n)
    → (column.has_start ≡ false → column.has_left ≡ false)
    → ColumnStands job ended s m g column step start list
    → ColumnStands job over t later g column step start list
stands_later job ended over s t m later g column step start list there goes stays left stands = record {
  least = stands.least;
  begun = begins_later job m later column start stays stands.begun;
  late = stands.late;
  waits = stands.waits;
  far = stands.far;
  counted = stands.counted;
  none = stands.none;
  all = stands.all;
  begins = λ more fed ready. begins more fed ready column.has_start refl;
  whole = λ gone more fed ready. whole gone more fed ready column.has_start refl;
}
  where
    same : (more : List (List ℤ)) → IsReady (with_samples more job) → column.has_start ≡ true
        → span_in (started (with_samples more job) m) column.task
        ≡ span_in (started (with_samples more job) later) column.task
    same more ready has =
        span_same (with_samples more job) m later column.task ready.graph there
        (agrees (with_samples more job) m later column start stands.begun has stays)

    begins : (more : List (List ℤ)) → IsFed (with_samples t job) over more
        → IsReady (with_samples more job) → (b : Bool) → column.has_start ≡ b
        → IsPrefix list (sink_list (started (with_samples more job) later) column.task)
    begins more fed ready true e =
        subst (IsPrefix list)
        (same_list (with_samples more job) (offsets job m) (offsets job later) column.task ready.graph
        (same more ready e))
        (stands.begins more (goes more fed) ready)
    begins more fed ready false e =
        subst (λ l. IsPrefix l (sink_list (started (with_samples more job) later) column.task))
        (sym (stands.none e)) (_, refl)

    whole : column.has_left ≡ true → (more : List (List ℤ)) → IsFed (with_samples t job) over more
        → IsReady (with_samples more job) → (b : Bool) → column.has_start ≡ b
        → (list ≡ sink_list (started (with_samples more job) later) column.task)
        × BeginsInTime (started (with_samples more job) later) column.task
    whole gone more fed ready true e =
        let it = stands.whole gone more (goes more fed) ready in
        let span = same more ready e in (
          it.0 ∙ same_list (with_samples more job) (offsets job m) (offsets job later) column.task
              ready.graph span,
          same_in_time (with_samples more job) (offsets job m) (offsets job later) column.task
              ready.graph span it.1,
        )
    whole gone more fed ready false e =
        absurd (let wrong : true ≡ false = sym gone ∙ left e in cc)

-- ---- a table

pub shows_later : (job : Job) (ended over : ℕ → Bool) (s t : List (List ℤ)) (m later : Moment)
    (given : ℕ → List ℤ) (columns : List Column) (view : View)
    → ((more : List (List ℤ)) → IsFed (with_samples t job) over more
    → IsFed (with_samples s job) ended more)
    → ((u n : ℕ) → u < length job.graph.tasks → sink_begins_at job m u ≡ Some n
    → sink_begins_at job later u ≡ Some n)
    → Shows job ended true s m given columns view → Shows job over true t later given columns view
shows_later job ended over s t m later given columns view goes stays shows = record {
  tasks = shows.tasks;
  stand = λ k column got.
      (let there = (column_there job columns k column shows.tasks got).3 in
      stands_later job ended over s t m later (given k) column view.step (view.starts k)
      (view.lists k) there goes (λ n. stays column.task n there) (shows.left refl k column got)
      (shows.stand k column got));
  last = shows.last;
  left = shows.left;
}
