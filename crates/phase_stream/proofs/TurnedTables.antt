-- A table behind a turn: the run goes on, the table takes over what the sinks have, and lines are
-- written; or a part of it was written.
use Rattle.std.proofs.Common.{◌≡◌, ◌<◌, ℕ, ℤ, Bool, true, false, List, [], Option, Some, None, Ok, length, get_or, map, slice_get, refl, sym, ap, subst, ◌∙◌, append-nil}
use Rattle.std.proofs.KnownBytes.{Appends-trans}
use Rattle.std.proofs.lemmas.List.{get_or-map}
use Rattle.std.specs.Io.KnownBytes.{Appends}
use Rattle.graph_commands.specs.FileJobs.{Known}
use Rattle.watched_io.specs.Prefix.{AppendsPrefix}
use Rattle.stream_job.specs.SinkLines.{kept_by}
use Rattle.stream_job.specs.Streams.{IsStreamAt, StreamGoesOn, StreamState, after_sized, ended_at, has_ended}
use Rattle.stream_job.specs.declared.stopped.Stopped.{Stopped}
use Rattle.stream_job.specs.declared.stopped.Stopped.TheVariants as stopped
use Rattle.graph_base.specs.Graphs.{is_sink, source_number, task_at}
use Rattle.graph_runs.specs.Feeds.{IsFed}
use Rattle.graph_runs.specs.InTime.{BeginsInTime}
use Rattle.graph_runs.specs.Moments.{Moment, started}
use Rattle.graph_runs.specs.Settled.{IsReady}
use Rattle.stream_lists.specs.Jobs.{Job, with_samples}
use Rattle.stream_lists.specs.Lists.{is_sink_at, lines_of, numbers_of, sink_over, sinks_of}
use Rattle.stream_lists.specs.Ranges.{answer_of}
use Rattle.stream_lists.specs.Spans.{schedule_of}
use Rattle.graph_runs.proofs.StartsAtEnd.{start_of_others}
use Rattle.phase_stream.specs.Columns.{ColumnStands, HasNoMore, InRuns}
use Rattle.phase_stream.specs.Sessions.{Forgets, HasStopped, sink_list}
use Rattle.phase_stream.specs.Streams.{GoesOnBehind}
use Rattle.phase_stream.specs.TableLines.{EachGoes, ColumnsEndBy, IsSameStop, Shows, ShowsMore, TableStands, TableStopped, View, WritesTableLines, WritesSomeLines, by_number, goes_on, has_line, have_left, table_text}
use Rattle.phase_stream.specs.Tables.{WritesTable, WritesTablePart}
use Rattle.phase_stream.specs.declared.column.Column.{Column}
use Rattle.phase_stream.specs.declared.session.Session.{Session}
use Rattle.phase_stream.specs.declared.table.Table.{Table}
use Rattle.phase_stream.proofs.Handing.{whole_part}
use Rattle.phase_stream.proofs.LaterColumns.{shows_later}
use Rattle.phase_stream.proofs.NextLines.{before_at, part_behind, tasks_same}
use Rattle.phase_stream.proofs.RightTables.{all_left, column_at, column_there, text_begins, text_whole}
use Rattle.phase_stream.proofs.Sinking.{numbered, sinks_before}
use Rattle.phase_stream.proofs.Standing.{came_same, sources_same, stopped_same}
use Rattle.phase_stream.proofs.StartsStay.{starts_stay}
use Rattle.phase_stream.proofs.TakenLines.{shows_given}
use Rattle.phase_stream.proofs.Writing.{answer_lines}

-- ---- the same job, and the same ends of sources

ended_same : (old new : StreamState) → new.job ≡ old.job → new.inputs ≡ old.inputs
    → ended_at new ≡ ended_at old
ended_same old new job inputs =
    ap (λ (j : Job). λ t. has_ended new.inputs (source_number j.graph.tasks t)) job
    ∙ ap (λ i. λ t. has_ended i (source_number old.job.graph.tasks t)) inputs

shows_same : (old new : StreamState) (going : Bool) (s : List (List ℤ)) (m : Moment)
    (given : ℕ → List ℤ) (columns : List Column) (view : View) → new.job ≡ old.job
    → new.inputs ≡ old.inputs
    → Shows old.job (ended_at old) going s m (by_number old.job given) columns view
    → Shows new.job (ended_at new) going s m (by_number new.job given) columns view
shows_same old new going s m given columns view job inputs shows =
    subst (λ ended. Shows new.job ended going s m (by_number new.job given) columns view)
    (sym (ended_same old new job inputs))
    (subst (λ j. Shows j (ended_at old) going s m (by_number j given) columns view) (sym job) shows)

-- ---- the run goes on

pub after_run : {R : Type 0} (remaining : R → Option (List ℕ)) (held : Known)
    (old now : Option (List ℕ)) (before after : Session R) (table : Table)
    → TableStands remaining held old now before table true
    → StreamGoesOn before.stream after.stream → after.sources ≡ before.sources
    → TableStands remaining held old now after table true
after_run {R} remaining held old now before after table st on sources =
    let by = st.stands in
    let turns = on.later by.samples by.moment by.given by.reaches.at in
    let job = before.stream.job in
    let m = after_sized (with_samples by.samples job) by.moment turns.0 in
    record {
      stands = record {
        samples = by.samples;
        moment = m;
        given = by.given;
        reaches = record {
          at = turns.2;
          came = came_same held before.stream after.stream by.samples on.job on.inputs by.reaches.came;
        };
        sources = sources_same remaining held before after by.samples on.job
            (ap (λ v. v.items) sources) by.sources;
        written = λ k. tt;
      };
      view = st.view;
      shows = shows_same before.stream after.stream true by.samples m by.given table.columns.items
          st.view on.job on.inputs
          (shows_later job (ended_at before.stream) (ended_at before.stream) by.samples by.samples
          by.moment m (by_number job by.given) table.columns.items st.view (λ more fed. fed)
          (λ u n there begins. starts_stay (with_samples by.samples job) by.moment turns.0 u n
          by.reaches.at.machine.graph there turns.1 by.reaches.at.machine.reached begins)
          st.shows);
      written = subst (λ (j : Job). Appends old now (table_text j st.view)) (sym on.job) st.written;
    }

-- ---- what the sinks have is taken over, and forgotten

-- the table takes over what the sinks of a stream have, with the same lines
abbrev pub TakesAll : StreamState → List Column → List Column → Type 0
TakesAll stream old new = (going : Bool) (s : List (List ℤ)) (m : Moment) (given : ℕ → List ℤ)
    (view : View) → IsStreamAt stream s m given
    → Shows stream.job (ended_at stream) going s m (by_number stream.job given) old view
    → ShowsMore stream.job (ended_at stream) going s m
    (by_number stream.job (kept_by stream.job m)) view new []

-- it took them over where the run stopped, and all that the sinks had was handed over
pub record TookStop {R : Type 0} (remaining : R → Option (List ℕ)) (held : Known)
    (old now : Option (List ℕ)) (session : Session R) (table : Table) (stop : Stopped) : Type 0 where
  pub table_stands : TableStands remaining held old now session table true
  pub stopped_is : HasStopped session.stream table_stands.stands.samples table_stands.stands.moment
      stop
  pub handed : (k : ℕ) → k < length (sinks_of session.stream.job)
      → by_number session.stream.job table_stands.stands.given k
      ≡ by_number session.stream.job (kept_by session.stream.job table_stands.stands.moment) k

pub after_take : {R : Type 0} (remaining : R → Option (List ℕ)) (held : Known)
    (old now : Option (List ℕ)) (before after : Session R) (table taken : Table) (stop : Stopped)
    → TableStands remaining held old now before table true
    → ((s : List (List ℤ)) (m : Moment) (given : ℕ → List ℤ) → IsStreamAt before.stream s m given
    → HasStopped before.stream s m stop)
    → TakesAll before.stream table.columns.items taken.columns.items
    → Forgets (length (sinks_of before.stream.job)) before.stream after.stream
    → after.sources ≡ before.sources → TookStop remaining held old now after taken stop
after_take {R} remaining held old now before after table taken stop st stops takes forgets sources =
    let by = st.stands in
    let job = before.stream.job in
    let later = forgets.stands by.samples by.moment by.given by.reaches.at in
    let more = takes true by.samples by.moment by.given st.view by.reaches.at st.shows in
    record {
      table_stands = record {
        stands = record {
          samples = by.samples;
          moment = by.moment;
          given = later.0;
          reaches = record {
            at = later.1;
            came = came_same held before.stream after.stream by.samples forgets.job forgets.inputs
                by.reaches.came;
          };
          sources = sources_same remaining held before after by.samples forgets.job
              (ap (λ v. v.items) sources) by.sources;
          written = λ k. tt;
        };
        view = more.later;
        shows = shows_same before.stream after.stream true by.samples by.moment later.0
            taken.columns.items more.later forgets.job forgets.inputs
            (shows_given job (ended_at before.stream) true by.samples by.moment
            (by_number job (kept_by job by.moment)) (by_number job later.0) taken.columns.items
            more.later (λ k lt. later.2 k lt) more.shows);
        written = subst (λ (j : Job). Appends old now (table_text j more.later)) (sym forgets.job)
            (subst (Appends old now) (sym (more.text ∙ append-nil (table_text job st.view))) st.written);
      };
      stopped_is = stopped_same before.stream after.stream by.samples by.moment stop forgets.job
          forgets.inputs (stops by.samples by.moment by.given by.reaches.at);
      handed = λ k lt. subst (λ (j : Job). by_number j later.0 k ≡ by_number j (kept_by j by.moment) k)
          (sym forgets.job)
          (later.2 k (subst (λ (j : Job). k < length (sinks_of j)) forgets.job lt));
    }

-- ---- another source is hungry

pub same_stop : {R : Type 0} (remaining : R → Option (List ℕ)) (held : Known)
    (old now : Option (List ℕ)) (session : Session R) (table : Table) (stop found : Stopped)
    → TableStopped remaining held old now session table stop → IsSameStop stop found
    → TableStopped remaining held old now session table found
same_stop remaining held old now session table (stopped.Hungry source) found st same =
    subst (TableStopped remaining held old now session table) (sym same.1) (record {
      table_stands = st.table_stands;
      stopped_is = st.stopped_is;
      no_line = st.no_line;
      done = st.done;
    })
same_stop remaining held old now session table (stopped.Full sink) found st same =
    subst (TableStopped remaining held old now session table) (sym same) st
same_stop remaining held old now session table stopped.Stalled found st same =
    subst (TableStopped remaining held old now session table) (sym same) st
same_stop remaining held old now session table stopped.Done found st same =
    subst (TableStopped remaining held old now session table) (sym same) st
same_stop remaining held old now session table (stopped.TooBig place phase) found st same =
    subst (TableStopped remaining held old now session table) (sym same) st
same_stop remaining held old now session table stopped.Paused found st same =
    subst (TableStopped remaining held old now session table) (sym same) st

-- ---- the run is over

-- where a job's answer is what its sinks have kept, it is the list of each
kept_list : (job : Job) (kept : ℕ → List ℤ) (k : ℕ) → k < length (sinks_of job)
    → answer_of job ≡ Ok (map {B = ℕ × List ℤ} (λ u. (u, kept u)) (sinks_of job))
    → sink_list job (get_or (sinks_of job) k 0) ≡ kept (get_or (sinks_of job) k 0)
kept_list job kept k lt answer =
    let lines = answer_lines job (map {B = ℕ × List ℤ} (λ u. (u, kept u)) (sinks_of job)) answer in
    let there : get_or (lines_of job) k (0, [])
    ≡ (get_or (sinks_of job) k 0, sink_list job (get_or (sinks_of job) k 0)) =
    get_or-map (sink_over job (schedule_of job) (numbers_of job)) (sinks_of job) k 0 (0, []) lt in
    let here : get_or (map {B = ℕ × List ℤ} (λ u. (u, kept u)) (sinks_of job)) k (0, [])
    ≡ (get_or (sinks_of job) k 0, kept (get_or (sinks_of job) k 0)) =
    get_or-map (λ u. (u, kept u)) (sinks_of job) k 0 (0, []) lt in
    ap (λ (line : ℕ × List ℤ). line.1)
    (sym there ∙ ap (λ l. get_or l k (0, [])) lines ∙ here)

-- a column keeps that its sink has left
pub left_stands : (job : Job) (ended : ℕ → Bool) (s : List (List ℤ)) (m : Moment) (g : List ℤ)
    (old new : Column) (step start : ℕ) (list : List ℤ) → HasNoMore old new
    → InRuns job ended s m (λ run. (list ≡ sink_list run old.task) × BeginsInTime run old.task)
    → ColumnStands job ended s m g old step start list
    → ColumnStands job ended s m g new step start list
left_stands job ended s m g old new step start list left whole stands =
    subst (λ c. ColumnStands job ended s m g c step start list) (sym left) (record {
      least = stands.least;
      begun = stands.begun;
      late = stands.late;
      waits = stands.waits;
      far = λ stays. absurd (let wrong : true ≡ false = stays in cc);
      counted = stands.counted;
      none = stands.none;
      all = λ stays. absurd (let wrong : true ≡ false = stays in cc);
      begins = stands.begins;
      whole = λ over. whole;
    })

over_end : {R : Type 0} (remaining : R → Option (List ℕ)) (held : Known)
    (old now : Option (List ℕ)) (session : Session R) (table ended : Table) (going : Bool)
    (st : TableStands remaining held old now session table going)
    → HasStopped session.stream st.stands.samples st.stands.moment stopped.Done
    → ((k : ℕ) → k < length (sinks_of session.stream.job)
    → by_number session.stream.job st.stands.given k
    ≡ by_number session.stream.job (kept_by session.stream.job st.stands.moment) k)
    → EachGoes HasNoMore table.columns.items ended.columns.items
    → (later : TableStands remaining held old now session ended false)
    × ((stop : Stopped) → HasStopped session.stream st.stands.samples st.stands.moment stop
    → HasStopped session.stream later.stands.samples later.stands.moment stop)
over_end {R} remaining held old now session table ended going st done all each = (
  record {
    stands = st.stands;
    view = st.view;
    shows = record {
      tasks = tasks_same HasNoMore table.columns.items ended.columns.items
          (λ before after left. ap (λ (c : Column). c.task) left) each ∙ st.shows.tasks;
      stand = λ k after got.
          (let was = before_at table.columns.items ended.columns.items k after each.many got in
          let there = column_there session.stream.job table.columns.items k was.0 st.shows.tasks was.1 in
          left_stands session.stream.job (ended_at session.stream) st.stands.samples st.stands.moment
          (by_number session.stream.job st.stands.given k) was.0 after st.view.step
          (st.view.starts k) (st.view.lists k) (each.each k was.0 after was.1 got)
          (λ more fed ready. whole k was.0 was.1 there.0 there.1 there.3 more (done more fed ready)
          fed ready was.0.has_left refl)
          (st.shows.stand k was.0 was.1));
      last = st.shows.last;
      left = λ goes. absurd (let wrong : false ≡ true = goes in cc);
    };
    written = st.written;
  },
  λ stop is. is,
)
  where
    whole : (k : ℕ) (column : Column) → slice_get table.columns.items k ≡ Some column
        → k < length (sinks_of session.stream.job)
        → column.task ≡ get_or (sinks_of session.stream.job) k 0
        → column.task < length session.stream.job.graph.tasks → (more : List (List ℤ))
        → (answer_of (started (with_samples more session.stream.job) st.stands.moment)
        ≡ Ok (map (λ t. (t, kept_by session.stream.job st.stands.moment t))
        (sinks_of session.stream.job)))
        × ((t : ℕ) → t < length session.stream.job.graph.tasks
        → BeginsInTime (started (with_samples more session.stream.job) st.stands.moment) t)
        → IsFed (with_samples st.stands.samples session.stream.job) (ended_at session.stream) more
        → IsReady (with_samples more session.stream.job) → (b : Bool)
        → column.has_left ≡ b
        → (st.view.lists k
        ≡ sink_list (started (with_samples more session.stream.job) st.stands.moment) column.task)
        × BeginsInTime (started (with_samples more session.stream.job) st.stands.moment) column.task
    whole k column got lt task there more is fed ready true e =
        (st.shows.stand k column got).whole e more fed ready
    whole k column got lt task there more is fed ready false e =
        let job = started (with_samples more session.stream.job) st.stands.moment in (
          (st.shows.stand k column got).all e ∙ all k lt
              ∙ sym (kept_list job (kept_by session.stream.job st.stands.moment) k lt is.0)
              ∙ ap (sink_list job) (sym task),
          is.1 column.task there,
        )

-- ---- lines are written

-- only a run that is done does not go on
only_done : (stop : Stopped) → goes_on stop ≡ false → stop ≡ stopped.Done
only_done stopped.Done e = refl
only_done (stopped.TooBig place n) e = absurd (let wrong : true ≡ false = e in cc)
only_done stopped.Stalled e = absurd (let wrong : true ≡ false = e in cc)
only_done (stopped.Hungry source) e = absurd (let wrong : true ≡ false = e in cc)
only_done (stopped.Full sink) e = absurd (let wrong : true ≡ false = e in cc)
only_done stopped.Paused e = absurd (let wrong : true ≡ false = e in cc)

-- how it stands behind the end of the run, where that is reached
pub record EndedStop {R : Type 0} (remaining : R → Option (List ℕ)) (held : Known)
    (old now : Option (List ℕ)) (session : Session R) (table : Table) (stop : Stopped) : Type 0 where
  pub table_stands : TableStands remaining held old now session table (goes_on stop)
  pub stopped_is : HasStopped session.stream table_stands.stands.samples table_stands.stands.moment
      stop
  pub done : goes_on stop ≡ false → have_left table.columns.items ≡ true

pub after_end : {R : Type 0} (remaining : R → Option (List ℕ)) (held : Known)
    (old now : Option (List ℕ)) (session : Session R) (table ended : Table) (stop : Stopped)
    → TookStop remaining held old now session table stop
    → ColumnsEndBy (goes_on stop) table.columns.items ended.columns.items
    → EndedStop remaining held old now session ended stop
after_end {R} remaining held old now session table ended stop took ends = by (goes_on stop) refl ends
  where
    at : (going : Bool) → goes_on stop ≡ going
        → (st : TableStands remaining held old now session ended going)
        → HasStopped session.stream st.stands.samples st.stands.moment stop
        → (going ≡ false → have_left ended.columns.items ≡ true)
        → EndedStop remaining held old now session ended stop
    at going e = subst (λ g. (st : TableStands remaining held old now session ended g)
        → HasStopped session.stream st.stands.samples st.stands.moment stop
        → (g ≡ false → have_left ended.columns.items ≡ true)
        → EndedStop remaining held old now session ended stop) e
        (λ st is left. record { table_stands = st; stopped_is = is; done = left })

    by : (going : Bool) → goes_on stop ≡ going
        → ColumnsEndBy going table.columns.items ended.columns.items
        → EndedStop remaining held old now session ended stop
    by true e same =
        let st = took.table_stands in
        at true e (record {
          stands = st.stands;
          view = st.view;
          shows = subst (λ columns. Shows session.stream.job (ended_at session.stream) true
              st.stands.samples st.stands.moment
              (by_number session.stream.job st.stands.given) columns st.view) (sym same) st.shows;
          written = st.written;
        }) took.stopped_is (λ no. absurd (let wrong : true ≡ false = no in cc))
    by false e each =
        let st = took.table_stands in
        let done : HasStopped session.stream st.stands.samples st.stands.moment stopped.Done =
        subst (HasStopped session.stream st.stands.samples st.stands.moment) (only_done stop e)
        took.stopped_is in
        let over = over_end remaining held old now session table ended true st done took.handed each.0 in
        at false e over.0 (over.1 stop took.stopped_is) (λ no. each.1)

pub after_write : {R : Type 0} (remaining : R → Option (List ℕ)) (held : Known)
    (old now next : Option (List ℕ)) (session : Session R) (table written : Table) (stop : Stopped)
    (ended : EndedStop remaining held old now session table stop)
    → WritesTableLines session.stream.job (ended_at session.stream) (goes_on stop)
    ended.table_stands.stands.samples ended.table_stands.stands.moment
    (by_number session.stream.job ended.table_stands.stands.given) ended.table_stands.view
    written.columns.items now next
    → has_line written.columns.items ≡ false
    → (have_left table.columns.items ≡ true → have_left written.columns.items ≡ true)
    → TableStopped remaining held old next session written stop
after_write {R} remaining held old now next session table written stop ended writes none left = record {
  table_stands = record {
    stands = ended.table_stands.stands;
    view = writes.more.later;
    shows = writes.more.shows;
    written = subst (Appends old next) (sym writes.more.text)
        (Appends-trans old now next (table_text session.stream.job ended.table_stands.view) writes.bytes
        ended.table_stands.written writes.written);
  };
  stopped_is = ended.stopped_is;
  no_line = none;
  done = λ over. left (ended.done over);
}

-- ---- a part

pub part_of : {R : Type 0} (remaining : R → Option (List ℕ)) (held : Known)
    (old now next : Option (List ℕ)) (session : Session R) (table : Table) (going : Bool)
    (st : TableStands remaining held old now session table going)
    → WritesSomeLines session.stream.job (ended_at session.stream) going st.stands.samples
    st.stands.moment (by_number session.stream.job st.stands.given) st.view now next
    → WritesTablePart held session.stream.job old next
part_of {R} remaining held old now next session table going st some =
    let by = st.stands in
    let job = session.stream.job in
    record {
      samples = by.samples;
      ended = has_ended session.stream.inputs;
      came = by.reaches.came;
      starts = (started job by.moment).starts;
      text = table_text job some.more.later;
      right = λ later behind. text_begins session.stream going by.samples by.moment by.given later
          (by_number job by.given) some.columns some.more.later by.reaches.at behind.feeds
          behind.ready some.more.shows;
      written = subst (AppendsPrefix old next) (sym some.more.text)
          (part_behind old now next (table_text job st.view) some.bytes st.written some.written);
    }

-- nothing more was written
pub part_now : {R : Type 0} (remaining : R → Option (List ℕ)) (held : Known)
    (old now : Option (List ℕ)) (session : Session R) (table : Table) (going : Bool)
    → TableStands remaining held old now session table going
    → WritesTablePart held session.stream.job old now
part_now {R} remaining held old now session table going st =
    let by = st.stands in
    let job = session.stream.job in
    record {
      samples = by.samples;
      ended = has_ended session.stream.inputs;
      came = by.reaches.came;
      starts = (started job by.moment).starts;
      text = table_text job st.view;
      right = λ later behind. text_begins session.stream going by.samples by.moment by.given later
          (by_number job by.given) table.columns.items st.view by.reaches.at behind.feeds behind.ready
          st.shows;
      written = whole_part old now (table_text job st.view) st.written;
    }

-- ---- all of it

pub whole_of_table : {R : Type 0} (remaining : R → Option (List ℕ)) (held : Known)
    (old now : Option (List ℕ)) (session : Session R) (table : Table) (going : Bool)
    → TableStands remaining held old now session table going
    → have_left table.columns.items ≡ true → has_line table.columns.items ≡ false
    → WritesTable held session.stream.job old now
whole_of_table {R} remaining held old now session table going st left none =
    let by = st.stands in
    let job = session.stream.job in
    let machine = by.reaches.at.machine in
    record {
      samples = by.samples;
      ended = has_ended session.stream.inputs;
      came = by.reaches.came;
      ready = record { graph = machine.graph; apart = machine.apart };
      starts = (started job by.moment).starts;
      text = table_text job st.view;
      whole = λ later behind. text_whole session.stream going by.samples by.moment by.given later
          (by_number job by.given) table.columns.items st.view by.reaches.at behind.feeds behind.ready
          st.shows left none;
      in_time = λ t there later behind. in_time t there later behind
          (task_at job.graph t).joins_now refl;
      written = st.written;
    }
  where
    in_time : (t : ℕ) → t < length session.stream.job.graph.tasks → (later : List (List ℤ))
        → GoesOnBehind session.stream.job (has_ended session.stream.inputs) st.stands.samples later
        → (b : Bool) → (task_at session.stream.job.graph t).joins_now ≡ b
        → BeginsInTime (started (with_samples later session.stream.job) st.stands.moment) t
    in_time t there later behind false e = λ start is.
        absurd (let no : None ≡ Some start =
        sym (start_of_others (started (with_samples later session.stream.job) st.stands.moment) t e)
        ∙ is in
        cc)
    in_time t there later behind true e =
        let job = session.stream.job in
        let line = behind.ready.graph.tasks t there in
        let sink : is_sink_at job t ≡ true = ap is_sink (line.now e).0 in
        let number = numbered job t there sink in
        let it = column_at (sinks_of job) table.columns.items (length (sinks_before job t))
        st.shows.tasks number.there in
        subst (BeginsInTime (started (with_samples later job) st.stands.moment))
        (it.task ∙ number.task)
        (((st.shows.stand (length (sinks_before job t)) it.column it.there).whole
        (all_left table.columns.items (length (sinks_before job t)) it.column left it.there) later
        behind.feeds behind.ready).1)
