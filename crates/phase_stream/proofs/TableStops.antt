-- Why a stream stopped whose sinks are the columns of a table, and how it goes on.
use Rattle.std.proofs.Common.{◌≡◌, ℕ, ℤ, Bool, true, false, List, [], Option, Some, None, length, refl, sym, ap, subst, ◌∙◌, arith}
use Rattle.std.specs.Io.KnownBytes.{Appends}
use Rattle.graph_commands.specs.FileJobs.{Known}
use Rattle.graph_commands.specs.declared.failure.Failure.{Failure}
use Rattle.graph_commands.specs.declared.failure.Failure.TheVariants as failure
use Rattle.graph_commands.specs.declared.fault.JobFault.TheVariants as fault
use Rattle.watched_io.specs.States.{WriterState}
use Rattle.watched_io.specs.declared.fault.IoFault.{IoFault}
use Rattle.watched_io.specs.declared.fault.IoFault.TheVariants as io_fault
use Rattle.stream_job.specs.Streams.{StreamState, ended_at}
use Rattle.stream_job.specs.declared.stopped.Stopped.{Stopped}
use Rattle.graph_runs.specs.Feeds.{IsFed}
use Rattle.stream_lists.specs.Jobs.{Job, samples_in, with_samples}
use Rattle.phase_history.proofs.Streams.{IsPrefix-trans}
use Rattle.phase_stream.specs.Outputs.{StopOf}
use Rattle.phase_stream.specs.Sessions.{AreKeptRight, AreSources, AreTargets, Reaches, StandsBy, StandsFurther, StandsStopped, task_for}
use Rattle.phase_stream.specs.TableLines.{Shows, TableStands, TableStopped, by_number, goes_on, have_left, table_text}
use Rattle.phase_stream.specs.Tables.{StopsAtTable, WritesTable, WritesTablePart, unknown}
use Rattle.phase_stream.specs.declared.session.Session.{Session}
use Rattle.phase_stream.specs.declared.sink.Sink.{Sink}
use Rattle.phase_stream.specs.declared.table.Table.{Table}
use Rattle.phase_stream.proofs.LaterColumns.{shows_later}

-- ---- causes

-- no writer is asked of
pub cause_one : (held : Known) (job : Job) (new : WriterState) (found : Failure)
    → StopOf held job (λ k. None) 0 unknown (λ k. new) found
    → StopOf held job (λ k. None) 1 unknown (λ k. new) found
cause_one held job new (failure.Graph (fault.Graph found) text) is = is
cause_one held job new (failure.Graph (fault.BadSample named number told) text) is = is
cause_one held job new (failure.Graph fault.ReadFault text) is = is
cause_one held job new (failure.Graph fault.OutOfMemory text) is = is
cause_one held job new (failure.NoSink other wanted) is = is
cause_one held job new (failure.TooBig other at phase) is = is
cause_one held job new (failure.Stalled further) is = is
cause_one held job new (failure.Io found) is = (
  λ e. (let failed = is.0 e in absurd (let lt = failed.there in omega (arith, lt))),
  is.1,
)

-- a fault of reading, writing or memory
pub io_table : (held : Known) (job : Job) (old : Option (List ℕ)) (new : WriterState)
    (found : IoFault) → WritesTablePart held job old new.written
    → (found ≡ io_fault.WriteFault → new.failed ≡ true)
    → StopsAtTable held job old new (failure.Io found)
io_table held job old new found part failed = record {
  part = part;
  cause = (
    λ e. record { number = 0; there = omega arith; failed = failed e },
    record {
      part = record {
        samples = part.samples;
        ended = part.ended;
        came = part.came;
        starts = part.starts;
        values = λ k. [];
        right = λ k t goes. absurd (let wrong : None ≡ Some t = goes in cc);
        none = λ k free. refl;
        written = λ k. ([], [], refl, tt);
      };
      cause = tt;
    },
  );
}

-- ---- a session whose sinks go nowhere

pub no_target : (targets : List (Option Sink)) (k t : ℕ) → targets ≡ []
    → task_for targets k ≡ Some t → ⊥
no_target targets k t none goes =
    let wrong : None ≡ Some t = sym (ap (λ ts. task_for ts k) none) ∙ goes in cc

pub no_targets : (job : Job) (targets : List (Option Sink)) → targets ≡ [] → AreTargets job targets
no_targets job targets none = subst (AreTargets job) (sym none)
    (λ k sink goes. absurd (let wrong : None ≡ Some sink = goes in cc))

pub none_right : (stream : StreamState) (targets : List (Option Sink)) → targets ≡ []
    → AreKeptRight stream targets
none_right stream targets none k t goes = absurd (no_target targets k t none goes)

pub stopped_as : {R : Type 0} (remaining : R → Option (List ℕ)) (held : Known)
    (old now : Option (List ℕ)) (next : ℕ → Option (List ℕ)) (session : Session R) (table : Table)
    (stop : Stopped) → session.targets.items ≡ []
    → TableStopped remaining held old now session table stop
    → StandsStopped remaining held unknown next session stop
stopped_as {R} remaining held old now next session table stop none st =
    let by = st.table_stands.stands in
    record {
      stands = record {
        samples = by.samples;
        moment = by.moment;
        given = by.given;
        reaches = by.reaches;
        sources = by.sources;
        written = λ k. tt;
      };
      whole = λ k t goes. absurd (no_target session.targets.items k t none goes);
      stopped_is = st.stopped_is;
    }

-- whatever other writers got
pub written_as : {R : Type 0} (remaining : R → Option (List ℕ)) (held : Known)
    (next : ℕ → Option (List ℕ)) (session : Session R)
    → StandsBy remaining held unknown unknown session → StandsBy remaining held unknown next session
written_as {R} remaining held next session by = record {
  samples = by.samples;
  moment = by.moment;
  given = by.given;
  reaches = by.reaches;
  sources = by.sources;
  written = λ k. tt;
}

-- ---- it goes on

-- where not all sinks have left
pub going_on : {R : Type 0} (remaining : R → Option (List ℕ)) (held : Known)
    (old now : Option (List ℕ)) (session : Session R) (table : Table) (stop : Stopped)
    → TableStopped remaining held old now session table stop
    → have_left table.columns.items ≡ false → TableStands remaining held old now session table true
going_on {R} remaining held old now session table stop st stays = by (goes_on stop) refl
  where
    by : (b : Bool) → goes_on stop ≡ b → TableStands remaining held old now session table true
    by true e = subst (TableStands remaining held old now session table) e st.table_stands
    by false e = absurd (let wrong : false ≡ true = sym stays ∙ st.done e in cc)

-- the files of some sources were closed
pub closed_table : {R : Type 0} (remaining : R → Option (List ℕ)) (held : Known)
    (old now : Option (List ℕ)) (before after : Session R) (table : Table) (going : Bool)
    → after.stream ≡ before.stream
    → ((held : Known) (s : List (List ℤ)) → AreSources remaining held before s
    → AreSources remaining held after s)
    → TableStands remaining held old now before table going
    → TableStands remaining held old now after table going
closed_table {R} remaining held old now before after table going same sources st =
    let by = st.stands in
    record {
      stands = record {
        samples = by.samples;
        moment = by.moment;
        given = by.given;
        reaches = subst (λ (w : StreamState). Reaches held w by.samples by.moment by.given) (sym same)
            by.reaches;
        sources = sources held by.samples by.sources;
        written = λ k. tt;
      };
      view = st.view;
      shows = subst (λ (w : StreamState). Shows w.job (ended_at w) going by.samples by.moment
          (by_number w.job by.given) table.columns.items st.view) (sym same) st.shows;
      written = subst (λ (w : StreamState). Appends old now (table_text w.job st.view)) (sym same)
          st.written;
    }

-- samples that go on behind more of them go on behind those
fed_on : (job : Job) (ended over : ℕ → Bool) (s t more : List (List ℤ))
    → IsFed (with_samples s job) ended t → ((u : ℕ) → ended u ≡ true → over u ≡ true)
    → IsFed (with_samples t job) over more → IsFed (with_samples s job) ended more
fed_on job ended over s t more first ends next = record {
  begins = λ u there kind. IsPrefix-trans (samples_in job s u) (samples_in job t u)
      (samples_in job more u) (first.begins u there kind) (next.begins u there kind);
  stays = λ u there kind e. next.stays u there kind (ends u e) ∙ first.stays u there kind e;
}

-- more samples came
pub refilled_table : {R : Type 0} (remaining : R → Option (List ℕ)) (held : Known)
    (old now : Option (List ℕ)) (before after : Session R) (table : Table)
    (st : TableStands remaining held old now before table true)
    → after.stream.job ≡ before.stream.job
    → StandsFurther remaining held unknown unknown before after st.stands
    → TableStands remaining held old now after table true
refilled_table {R} remaining held old now before after table st job_is further =
    let by = st.stands in
    let job = before.stream.job in
    let later = further.later in
    record {
      stands = later;
      view = st.view;
      shows = subst (λ (j : Job). Shows j (ended_at after.stream) true later.samples later.moment
          (by_number j later.given) table.columns.items st.view) (sym job_is)
          (subst (λ m. Shows job (ended_at after.stream) true later.samples m
          (by_number job later.given) table.columns.items st.view) (sym further.moment)
          (subst (λ g. Shows job (ended_at after.stream) true later.samples by.moment
          (by_number job g) table.columns.items st.view) (sym further.given)
          (shows_later job (ended_at before.stream) (ended_at after.stream) by.samples later.samples
          by.moment by.moment (by_number job by.given) table.columns.items st.view
          (λ more fed. fed_on job (ended_at before.stream) (ended_at after.stream) by.samples
          later.samples more further.fed further.ended fed)
          (λ u n there begins. begins) st.shows)));
      written = subst (λ (j : Job). Appends old now (table_text j st.view)) (sym job_is) st.written;
    }

-- by the job that it began with
pub part_first : (held : Known) (first job : Job) (old now : Option (List ℕ)) → job ≡ first
    → WritesTablePart held job old now → WritesTablePart held first old now
part_first held first job old now same is = subst (λ j. WritesTablePart held j old now) same is

pub whole_first : (held : Known) (first job : Job) (old now : Option (List ℕ)) → job ≡ first
    → WritesTable held job old now → WritesTable held first old now
whole_first held first job old now same is = subst (λ j. WritesTable held j old now) same is

-- of a cause that a session tells whose sinks go nowhere
pub stops_first : (held : Known) (first : Job) (targets : List (Option Sink))
    (old : Option (List ℕ)) (new : WriterState) (found : Failure) → targets ≡ []
    → WritesTablePart held first old new.written
    → StopOf held first (task_for targets) (length targets) unknown (λ k. new) found
    → StopsAtTable held first old new found
stops_first held first targets old new found none part is = record {
  part = part;
  cause = cause_one held first new found
      (subst (λ ts. StopOf held first (task_for ts) (length ts) unknown (λ k. new) found) none is);
}
