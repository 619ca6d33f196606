-- A run of a graph over the files of its sources, and what of its sinks was written.
use Rattle.std.specs.Prelude.{◌≡◌, ◌<◌, ◌≤◌, ◌++◌, ◌||◌, Bool, ℕ, ℤ, List, Vec, [], Some, None, Ok, length, get_or, map, slice_get, false, true}
use Rattle.std.specs.Global.{Global}
use Rattle.std.specs.declared.option.Option.{Option}
use Rattle.std.specs.List.{flat_map, list_all}
use Rattle.std.specs.Io.KnownBytes.{Appends}
use mathlib.Core.List.{IsPrefix}
use Rattle.graph_commands.specs.FileJobs.{Known}
use Rattle.graph_commands.specs.OutputTexts.{value_text}
use Rattle.watched_io.specs.Prefix.{AppendsPrefix}
use Rattle.watched_io.specs.States.{WriterState}
use Rattle.graph_commands.specs.declared.failure.Failure.{Failure}
use Rattle.graph_commands.specs.declared.failure.Failure.TheVariants as failure
use Rattle.graph_commands.specs.declared.fault.JobFault.{JobFault}
use Rattle.stream_job.specs.Machines.{none_given}
use Rattle.graph_runs.specs.Beginnings.{opening}
use Rattle.stream_job.specs.InRange.{is_held_up, stands_before}
use Rattle.stream_job.specs.Streams.{EachStands, FirstStands, IsSourceAt, IsStreamAt, StreamState, all_tasks, ended_at, has_ended, is_hungry, is_some_live, none_came}
use Rattle.stream_job.specs.SinkLines.{kept_by}
use Rattle.stream_job.specs.declared.stopped.Stopped.{Stopped}
use Rattle.stream_job.specs.declared.stopped.Stopped.TheVariants as stopped
use Rattle.graph_base.specs.Graphs.{file_at, source_number, sources_of, task_at}
use Rattle.graph_runs.specs.Feeds.{IsFed}
use Rattle.graph_runs.specs.InTime.{BeginsInTime}
use Rattle.graph_runs.specs.Moments.{Moment, started}
use Rattle.graph_runs.specs.Settled.{IsFaultAt, IsReady}
use Rattle.stream_lists.specs.Jobs.{Job, with_samples}
use Rattle.stream_lists.specs.Lists.{numbers_of, sinks_of, taken_from}
use Rattle.stream_lists.specs.Ranges.{Where, answer_of}
use Rattle.stream_lists.specs.Spans.{span_in}
use Rattle.phase_stream.specs.Sources.{HasComeOf, IsSource, Lacks}
use Rattle.phase_stream.specs.declared.session.Session.{Session}
use Rattle.phase_stream.specs.declared.sink.Sink.{Sink}
use Rattle.phase_stream.specs.declared.source.Source.{Source}
use Rattle.phase_stream.specs.declared.source.Lack.{Lack}
use Rattle.phase_stream.specs.declared.source.Lack.TheVariants as lacks

-- a stream at its opening: no samples came, and no source has ended
pub record IsStreamAtOpening (stream : StreamState) : Type 0 where
  pub opening_is : IsStreamAt stream (none_came stream.job) (opening stream.job) none_given
  pub open_is : (k : ℕ) → k < sources_of stream.job.graph → has_ended stream.inputs k ≡ false

-- the values of task t, which is a sink
abbrev pub sink_list : Job → ℕ → List ℤ
sink_list job t = taken_from (numbers_of job) (task_at job.graph t) (span_in job t) 0

-- what task t has kept, a sink, begins its values in every run whose samples go on so
abbrev pub IsKeptRight : StreamState → ℕ → Type 0
IsKeptRight stream t = (s : List (List ℤ)) (m : Moment) (given : ℕ → List ℤ)
    (more : List (List ℤ)) → IsStreamAt stream s m given
    → IsFed (with_samples s stream.job) (ended_at stream) more
    → IsReady (with_samples more stream.job)
    → IsPrefix (kept_by stream.job m t)
    (sink_list (started (with_samples more stream.job) m) t)

-- it is all of them in every such run, in which it begins in time
abbrev pub IsKeptWhole : StreamState → ℕ → Type 0
IsKeptWhole stream t = (s : List (List ℤ)) (m : Moment) (given : ℕ → List ℤ)
    (more : List (List ℤ)) → IsStreamAt stream s m given
    → IsFed (with_samples s stream.job) (ended_at stream) more
    → IsReady (with_samples more stream.job)
    → (kept_by stream.job m t ≡ sink_list (started (with_samples more stream.job) m) t)
    × BeginsInTime (started (with_samples more stream.job) m) t

-- a fault of the files with no text
abbrev pub IsFaultWithoutText : JobFault → Failure → Type 0
IsFaultWithoutText fault (failure.Graph found text) = found ≡ fault
IsFaultWithoutText fault found = ⊥

-- task t is the sink of this number
pub record IsSinkNumber (job : Job) (t sink : ℕ) : Type 0 where
  pub there : sink < length (sinks_of job)
  pub task : get_or (sinks_of job) sink 0 ≡ t

-- ---- what goes where

-- the sink whose values go to writer number k, where one does
abbrev pub sink_for : List (Option Sink) → ℕ → Option Sink
sink_for targets k = of (slice_get targets k)
  where
    of : Option (Option Sink) → Option Sink
    of None = None
    of (Some target) = target

-- its task
abbrev pub task_for : List (Option Sink) → ℕ → Option ℕ
task_for targets k = of (sink_for targets k)
  where
    of : Option Sink → Option ℕ
    of None = None
    of (Some sink) = Some sink.task

-- each has the number of its task
abbrev pub AreTargets : Job → List (Option Sink) → Type 0
AreTargets job targets = (k : ℕ) (sink : Sink) → sink_for targets k ≡ Some sink
    → IsSinkNumber job sink.task sink.number

-- of these values of each sink, those of the sink of this task, or none
abbrev pub values_for : Option ℕ → (ℕ → List ℤ) → List ℤ
values_for None given = []
values_for (Some t) given = given t

-- each writer got what was handed over of its sink, and no more
abbrev pub AreWritten : List (Option Sink) → (ℕ → List ℤ) → (ℕ → Option (List ℕ))
    → (ℕ → Option (List ℕ)) → Type 0
AreWritten targets given old now = (k : ℕ)
    → Appends (old k) (now k) (flat_map value_text (values_for (task_for targets k) given))

-- of each sink that goes somewhere all that it has kept was handed over
abbrev pub AllHanded : Job → List (Option Sink) → Moment → (ℕ → List ℤ) → Type 0
AllHanded job targets m given = (k t : ℕ) → task_for targets k ≡ Some t
    → given t ≡ kept_by job m t

-- what each of them has kept begins its values in every run whose samples go on so
abbrev pub AreKeptRight : StreamState → List (Option Sink) → Type 0
AreKeptRight stream targets = (k t : ℕ) → task_for targets k ≡ Some t → IsKeptRight stream t

-- ---- what came

-- of each source these samples came of its file
abbrev pub AreCome : Known → StreamState → List (List ℤ) → Type 0
AreCome held stream s = (k : ℕ) → k < sources_of stream.job.graph
    → HasComeOf (has_ended stream.inputs k) (held (file_at stream.job.graph k)) (get_or s k [])

-- the stream stands for samples that came of the files, at a moment, and this was handed over
pub record Reaches (held : Known) (stream : StreamState) (s : List (List ℤ)) (m : Moment)
    (given : ℕ → List ℤ) : Type 0 where
  pub at : IsStreamAt stream s m given
  pub came : AreCome held stream s

-- each source has its task, and stands in its file behind these samples
abbrev pub AreSources : {R : Type 0} → (R → Option (List ℕ)) → Known → Session R
    → List (List ℤ) → Type 0
AreSources {R} remaining held session s = (k : ℕ) (source : Source R)
    → slice_get session.sources.items k ≡ Some source
    → IsSourceAt session.stream.job source.task k
    × IsSource remaining (held (file_at session.stream.job.graph k)) (get_or s k []) source

-- each writer got what was handed over of its sink, and no more
pub record StandsBy {R : Type 0} (remaining : R → Option (List ℕ)) (held : Known)
    (old now : ℕ → Option (List ℕ)) (session : Session R) : Type 0 where
  pub samples : List (List ℤ)
  pub moment : Moment
  pub given : ℕ → List ℤ
  pub reaches : Reaches held session.stream samples moment given
  pub sources : AreSources remaining held session samples
  pub written : AreWritten session.targets.items given old now

-- it stands so, and nothing was handed over
abbrev pub StandsFresh : {R : Type 0} → (R → Option (List ℕ)) → Known → (ℕ → Option (List ℕ))
    → (ℕ → Option (List ℕ)) → Session R → Type 0
StandsFresh remaining held old now session =
    (stands : StandsBy remaining held old now session) × (stands.given ≡ none_given)

-- it stands so later, at the same moment, with more samples of the sources that had not ended
pub record StandsFurther {R : Type 0} (remaining : R → Option (List ℕ)) (held : Known)
    (old now : ℕ → Option (List ℕ)) (before after : Session R)
    (stands : StandsBy remaining held old now before) : Type 0 where
  pub later : StandsBy remaining held old now after
  pub moment : later.moment ≡ stands.moment
  pub given : later.given ≡ stands.given
  pub fed : IsFed (with_samples stands.samples before.stream.job) (ended_at before.stream)
      later.samples
  pub ended : (t : ℕ) → ended_at before.stream t ≡ true → ended_at after.stream t ≡ true

-- ---- a stop

-- whether task t makes no event now: it is not live, its turn would be blocked, also by what it
-- owes before a value out of range, or it is a source that waits for a sample and has not ended
abbrev pub waits_now : Job → (ℕ → Bool) → List (List ℤ) → Moment → ℕ → Bool
waits_now job ended s m t =
    let came = with_samples s job in
    is_held_up came m t
    || is_hungry came (λ u. ended (source_number job.graph.tasks u)) m t

-- each task makes none
abbrev pub AllWait : Job → (ℕ → Bool) → List (List ℤ) → Moment → Type 0
AllWait job ended s m = list_all (waits_now job ended s m) (all_tasks job) ≡ true

-- each task makes none but those that stand before a value out of range, and the first of them
-- stands before this one
pub record StandsBefore (job : Job) (ended : ℕ → Bool) (s : List (List ℤ)) (m : Moment)
    (at : Where) : Type 0 where
  pub each : EachStands (waits_now job ended s m) (stands_before (with_samples s job) m)
      (length job.graph.tasks)
  pub first : FirstStands (waits_now job ended s m) (stands_before (with_samples s job) m)
      (length job.graph.tasks) at

-- what a stop tells of samples and a moment, whatever was handed over: where it is done, what each
-- sink has kept is its whole list in every run whose samples go on so, in which each begins in
-- time; a value too big is one of every such run, and no task makes an event but those that stand
-- before one; where a source is hungry, no task makes one without more samples; and a stalled run
-- has a live task, and no task can move
abbrev pub HasStopped : StreamState → List (List ℤ) → Moment → Stopped → Type 0
HasStopped stream s m stopped.Done = (more : List (List ℤ))
    → IsFed (with_samples s stream.job) (ended_at stream) more
    → IsReady (with_samples more stream.job)
    → (answer_of (started (with_samples more stream.job) m)
    ≡ Ok (map (λ t. (t, kept_by stream.job m t)) (sinks_of stream.job)))
    × ((t : ℕ) → t < length stream.job.graph.tasks
    → BeginsInTime (started (with_samples more stream.job) m) t)
HasStopped stream s m (stopped.TooBig place n) =
    ((more : List (List ℤ)) → IsFed (with_samples s stream.job) (ended_at stream) more
    → IsReady (with_samples more stream.job)
    → IsFaultAt (started (with_samples more stream.job) m) (place, n))
    × StandsBefore stream.job (has_ended stream.inputs) s m (place, n)
HasStopped stream s m (stopped.Hungry source) = AllWait stream.job (has_ended stream.inputs) s m
HasStopped stream s m stopped.Stalled =
    (is_some_live stream.job m ≡ true)
    × (list_all (is_held_up (with_samples s stream.job) m) (all_tasks stream.job) ≡ true)
HasStopped stream s m stop = Unit {0}

-- the session stands so, it stopped so, and all that its sinks have kept was written
pub record StandsStopped {R : Type 0} (remaining : R → Option (List ℕ)) (held : Known)
    (old now : ℕ → Option (List ℕ)) (session : Session R) (stop : Stopped) : Type 0 where
  pub stands : StandsBy remaining held old now session
  pub whole : AllHanded session.stream.job session.targets.items stands.moment stands.given
  pub stopped_is : HasStopped session.stream stands.samples stands.moment stop

-- a prefix of what its sink has kept was written to each writer
pub record StandsPart {R : Type 0} (held : Known) (old now : ℕ → Option (List ℕ))
    (session : Session R) : Type 0 where
  pub samples : List (List ℤ)
  pub moment : Moment
  pub given : ℕ → List ℤ
  pub reaches : Reaches held session.stream samples moment given
  pub values : ℕ → List ℤ
  pub begins : (k t : ℕ) → task_for session.targets.items k ≡ Some t
      → IsPrefix (values k) (kept_by session.stream.job moment t)
  pub none : (k : ℕ) → task_for session.targets.items k ≡ None → values k ≡ []
  pub written : (k : ℕ) → AppendsPrefix (old k) (now k) (flat_map value_text (values k))

-- all that the sinks have kept was handed over, and no task makes an event now
pub record KeptStill (stream : StreamState) (targets : List (Option Sink)) (s : List (List ℤ))
    (m : Moment) (given : ℕ → List ℤ) : Type 0 where
  pub whole : AllHanded stream.job targets m given
  pub rest : AllWait stream.job (has_ended stream.inputs) s m

-- each writer got what was handed over, and the source of this number got no more samples, of this
-- cause: where that is its file's, all that the sinks had
pub record StandsLacking {R : Type 0} (held : Known) (old now : ℕ → Option (List ℕ))
    (session : Session R) (k : ℕ) (lack : Lack) : Type 0 where
  pub samples : List (List ℤ)
  pub moment : Moment
  pub given : ℕ → List ℤ
  pub reaches : Reaches held session.stream samples moment given
  pub written : AreWritten session.targets.items given old now
  pub there : (source : Source R) → slice_get session.sources.items k ≡ Some source
      → IsSourceAt session.stream.job source.task k
  pub still : (number : ℕ) (told : Option (Vec ℕ Global)) → lack ≡ lacks.BadRecord number told
      → KeptStill session.stream session.targets.items samples moment given
  pub lacks : Lacks (held (file_at session.stream.job.graph k)) (file_at session.stream.job.graph k)
      (length (get_or samples k [])) lack

-- the files hold what is known of them
abbrev pub IsKnownAs : Known → Known → Type 0
IsKnownAs held files = (name : List ℕ) → files name ≡ held name

-- it stands so for some of that
abbrev pub MayStand : {R : Type 0} → (R → Option (List ℕ)) → Known → Session R → Type 0
MayStand remaining files session = (held : Known) × (old now : ℕ → Option (List ℕ))
    × IsKnownAs held files × StandsBy remaining held old now session

-- ---- a handing over

-- writer number k got these bytes, and the others none
pub record WritesTo (old now : ℕ → WriterState) (k : ℕ) (bytes : List ℕ) : Type 0 where
  pub here : Appends (old k).written (now k).written bytes
  pub others : (j : ℕ) → (j ≡ k → ⊥) → now j ≡ old j

-- it got a prefix of them
pub record WritesPrefixTo (old now : ℕ → WriterState) (k : ℕ) (bytes : List ℕ) : Type 0 where
  pub here : AppendsPrefix (old k).written (now k).written bytes
  pub others : (j : ℕ) → (j ≡ k → ⊥) → now j ≡ old j

-- one of so many writers has failed
pub record HasFailed (many : ℕ) (now : ℕ → WriterState) : Type 0 where
  pub number : ℕ
  pub there : number < many
  pub failed : (now number).failed ≡ true

-- these are the values of the sink that goes to writer number k that were not handed over yet, or
-- none
pub record AreLeft (stream : StreamState) (targets : List (Option Sink)) (k : ℕ)
    (values : List ℤ) : Type 0 where
  pub rest : (t : ℕ) → task_for targets k ≡ Some t → (s : List (List ℤ)) (m : Moment)
      (given : ℕ → List ℤ) → IsStreamAt stream s m given
      → given t ++ values ≡ kept_by stream.job m t
  pub none : task_for targets k ≡ None → values ≡ []

-- what was left of one sink was written
pub record WritesLeft (stream : StreamState) (targets : List (Option Sink)) (k : ℕ)
    (old now : ℕ → WriterState) : Type 0 where
  pub values : List ℤ
  pub left : AreLeft stream targets k values
  pub writes : WritesTo old now k (flat_map value_text values)

-- a prefix of it was
pub record WritesLeftPart (stream : StreamState) (targets : List (Option Sink)) (k : ℕ)
    (old now : ℕ → WriterState) : Type 0 where
  pub values : List ℤ
  pub left : AreLeft stream targets k values
  pub writes : WritesPrefixTo old now k (flat_map value_text values)

-- what was left of the sinks of the first so many writers was written
pub record WritesFirst (stream : StreamState) (targets : List (Option Sink)) (n : ℕ)
    (old now : ℕ → WriterState) : Type 0 where
  pub values : ℕ → List ℤ
  pub left : (k : ℕ) → k < n → AreLeft stream targets k (values k)
  pub others : (k : ℕ) → n ≤ k → values k ≡ []
  pub written : (k : ℕ)
      → Appends (old k).written (now k).written (flat_map value_text (values k))

-- a prefix of what was left of each sink was written
pub record WritesSome (stream : StreamState) (targets : List (Option Sink))
    (old now : ℕ → WriterState) : Type 0 where
  pub values : ℕ → List ℤ
  pub begins : (k t : ℕ) → task_for targets k ≡ Some t → (s : List (List ℤ)) (m : Moment)
      (given : ℕ → List ℤ) → IsStreamAt stream s m given
      → IsPrefix (given t) (kept_by stream.job m t)
      → IsPrefix (given t ++ values k) (kept_by stream.job m t)
  pub none : (k : ℕ) → task_for targets k ≡ None → values k ≡ []
  pub written : (k : ℕ)
      → AppendsPrefix (old k).written (now k).written (flat_map value_text (values k))

-- a stream stands for the same samples at the same moment, and of the first so many sinks all that
-- they have kept was handed over
pub record Forgets (n : ℕ) (old new : StreamState) : Type 0 where
  pub stands : (s : List (List ℤ)) (m : Moment) (given : ℕ → List ℤ) → IsStreamAt old s m given
      → (later : ℕ → List ℤ) × IsStreamAt new s m later
      × ((sink : ℕ) → sink < n → later (get_or (sinks_of old.job) sink 0)
      ≡ kept_by old.job m (get_or (sinks_of old.job) sink 0))
  pub job : new.job ≡ old.job
  pub inputs : new.inputs ≡ old.inputs

-- the values of the sinks that were not handed over yet were written
pub record HandsOverAll {R : Type 0} (old now : ℕ → WriterState) (before after : Session R)
    : Type 0 where
  pub writes : WritesFirst before.stream before.targets.items (length before.targets.items) old now
  pub forgets : Forgets (length (sinks_of before.stream.job)) before.stream after.stream
  pub sources : after.sources ≡ before.sources

-- a prefix of them was
pub record HandsPart {R : Type 0} (old now : ℕ → WriterState) (before after : Session R)
    : Type 0 where
  pub writes : WritesSome before.stream before.targets.items old now
  pub same : after.stream ≡ before.stream

-- it is of the same graph, and the same sinks go to the same writers
pub record IsSameSession {R : Type 0} (old new : Session R) : Type 0 where
  pub job : new.stream.job ≡ old.stream.job
  pub targets : new.targets.items ≡ old.targets.items
