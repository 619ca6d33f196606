-- What `phase stream` writes, and why it stops.
use Rattle.std.specs.Prelude.{◌≡◌, ◌⊎◌, ◌<◌, ◌+◌, ℕ, ℤ, Bool, true, List, [], ◌∷◌, Some, None, IfSome, Vec, length, get_or}
use Rattle.std.specs.Global.{Global}
use Rattle.std.specs.declared.option.Option.{Option}
use Rattle.std.specs.List.{list_all}
use Rattle.graph_commands.specs.Ends.{IsTold, SaysRefusal}
use Rattle.graph_commands.specs.Failures.{failure_status}
use Rattle.graph_commands.specs.FileJobs.{IsFaultOf, IsGraphOf, Known}
use Rattle.graph_commands.specs.GraphRuns.{sink_named}
use Rattle.graph_commands.specs.declared.failure.Failure.{Failure}
use Rattle.graph_commands.specs.declared.failure.Failure.TheVariants as failure
use Rattle.graph_commands.specs.declared.fault.JobFault.{JobFault}
use Rattle.graph_commands.specs.declared.fault.JobFault.TheVariants as fault
use Rattle.graph_commands.specs.declared.graph_file.TheConstants.{GRAPH_MAX}
use Rattle.watched_io.specs.Files.{MayBeRefused, MayNeedMemory}
use Rattle.watched_io.specs.States.{WriterState}
use Rattle.watched_io.specs.declared.explain.Explain.{Explain}
use Rattle.watched_io.specs.declared.explain.Explain.TheVariants.{No, Yes}
use Rattle.watched_io.specs.declared.fault.IoFault.TheVariants as io_fault
use Rattle.watched_io.specs.declared.status.Status.{Status}
use Rattle.stream_job.specs.Gone.{has_gone}
use Rattle.stream_job.specs.SinkLines.{kept_by}
use Rattle.stream_job.specs.InRange.{is_held_up}
use Rattle.stream_job.specs.Streams.{IsSourceAt, all_tasks, is_some_live, most_of}
use Rattle.graph_base.specs.Graphs.{file_at, name_at, source_number, sources_of, task_at}
use Rattle.graph_base.specs.declared.line.Kind.TheVariants.{Source}
use Rattle.graph_base.specs.declared.place.Place.TheVariants as place
use Rattle.graph_lang.specs.declared.fault.FaultKind.{FaultKind}
use Rattle.graph_lang.specs.declared.fault.FaultKind.TheVariants.{AnyMeets}
use Rattle.phase_accum.specs.Sends.{AreSends}
use Rattle.graph_runs.specs.Feeds.{IsFed}
use Rattle.graph_runs.specs.Moments.{Moment, started}
use Rattle.graph_runs.specs.Reached.{IsReachable}
use Rattle.graph_runs.specs.Settled.{IsFaultAt, IsReady}
use Rattle.stream_lists.specs.Jobs.{Job, counted, samples_in, with_samples, with_starts}
use Rattle.stream_lists.specs.Lists.{sinks_of}
use Rattle.stream_lists.specs.Meetings.{meeting_line}
use Rattle.stream_lists.specs.Ranges.{Fits, Where}
use Rattle.phase_stream.specs.Sessions.{AllWait, StandsBefore}
use Rattle.phase_stream.specs.Sources.{HasBadFrom, HasComeOf, TellsOfFile}

-- ---- what came

-- of the file of each source came these samples, and all of them where it has ended
abbrev pub CameOf : Known → Job → (ℕ → Bool) → List (List ℤ) → Type 0
CameOf held job ended samples = (k : ℕ) → k < sources_of job.graph
    → HasComeOf (ended k) (held (file_at job.graph k)) (get_or samples k [])

-- these samples are those that came, with more behind them where a file has not ended
pub record GoesOnBehind (job : Job) (ended : ℕ → Bool) (samples more : List (List ℤ)) : Type 0 where
  pub feeds : IsFed (with_samples samples job)
      (λ t. ended (source_number job.graph.tasks t)) more
  pub ready : IsReady (with_samples more job)

-- ---- what is written

-- every value is in range in every run whose samples go on so
abbrev pub AllFit : Job → (ℕ → Bool) → List (List ℤ) → List ℕ → Type 0
AllFit job ended samples starts = (more : List (List ℤ)) → GoesOnBehind job ended samples more
    → Fits (with_starts starts (with_samples more job))

-- at a moment of the samples that came the sink has left, and has got these values, all in range
pub record LeavesWith (job : Job) (samples : List (List ℤ)) (starts : List ℕ) (t : ℕ)
    (values : List ℤ) : Type 0 where
  pub moment : Moment
  pub reached : IsReachable (with_samples samples job) moment
  pub starts_are : starts ≡ (started job moment).starts
  pub gone : has_gone job moment t ≡ true
  pub kept : values ≡ kept_by job moment t

-- ---- which sink

-- the sink that is asked for, the one of a name or the only one, is this
abbrev pub AsksOne : Job → Option (List ℕ) → ℕ → Type 0
AsksOne job None t = sinks_of job ≡ t ∷ []
AsksOne job (Some name) t = sink_named job name ≡ Some t

-- there is no such sink
abbrev pub AsksNone : Job → Option (List ℕ) → Type 0
AsksNone job None = (t : ℕ) → sinks_of job ≡ t ∷ [] → ⊥
AsksNone job (Some name) = sink_named job name ≡ None

-- ---- causes

-- the record behind the samples that came of the source of this name is none, of which this is
-- told, and without more samples no task makes an event
pub record EndsInRecord (held : Known) (job : Job) (named : List ℕ) (number : ℕ)
    (told : Option (Vec ℕ Global)) (samples : List (List ℤ)) (ended : ℕ → Bool) (moment : Moment)
    : Type 0 where
  pub task : ℕ
  pub source : ℕ
  pub there : IsSourceAt job task source
  pub named_is : named ≡ name_at job.graph (place.Task task)
  pub number_is : number ≡ length (get_or samples source []) + 1
  pub bad : HasBadFrom (held (file_at job.graph source)) number
  pub tells : IfSome told (λ lines.
      TellsOfFile (held (file_at job.graph source)) (file_at job.graph source) number lines.items)
  pub rest : AllWait job ended samples moment

-- some task is live, and no task can move, with whatever samples go on behind those that came
pub record IsStandstill (job : Job) (samples : List (List ℤ)) (ended : ℕ → Bool) (moment : Moment)
    : Type 0 where
  pub live : is_some_live job moment ≡ true
  pub rest : list_all (is_held_up (with_samples samples job) moment) (all_tasks job) ≡ true
  pub stays : (more : List (List ℤ)) → GoesOnBehind job ended samples more
      → ((t : ℕ) → t < length job.graph.tasks → (task_at job.graph t).kind ≡ Source
      → AreSends (samples_in job more t))
      → list_all (is_held_up (with_samples more job) moment) (all_tasks job) ≡ true

-- a value is out of range in every run whose samples go on behind those that came, and no task
-- makes an event but those that stand before one, of which the first stands before this one
pub record IsFaultBehind (job : Job) (samples : List (List ℤ)) (ended : ℕ → Bool) (moment : Moment)
    (at : Where) : Type 0 where
  pub fault : (more : List (List ℤ)) → GoesOnBehind job ended samples more
      → IsFaultAt (started (with_samples more job) moment) at
  pub before : StandsBefore job ended samples moment at

-- the file tells a graph of which the task of this line meets one of an earlier line, with as many
-- samples of each source as there may be
pub record MayMeetOnLine (known : Known) (name : List ℕ) (line : ℕ) : Type 0 where
  pub job : Job
  pub graph_of : IsGraphOf known name job.graph
  pub meets : meeting_line (counted job.graph (most_of job.graph)) ≡ Some line

-- why the file gives no run
abbrev pub GivesNoRun : Known → List ℕ → JobFault → Type 0
GivesNoRun known name (fault.Graph found) =
    IsFaultOf known name found ⊎ ((found.kind ≡ AnyMeets) × MayMeetOnLine known name found.line)
GivesNoRun known name (fault.BadSample named number told) = ⊥
GivesNoRun known name fault.ReadFault = MayBeRefused GRAPH_MAX (known name)
GivesNoRun known name fault.OutOfMemory = MayNeedMemory GRAPH_MAX (known name)

-- whether a failure is explained: not where that would read the files of sources again
abbrev pub explained : Failure → Explain → Explain
explained (failure.Graph (fault.Graph found) text) explain = of found.kind
  where
    of : FaultKind → Explain
    of AnyMeets = No
    of kind = explain
explained found explain = explain

-- behind the line of a failed write stand the name of a file and why it was not written, or that
-- memory ran out over that, or nothing, where no more is known
pub record IsUnwrittenTold (before after : WriterState) : Type 0 where
  pub told : WriterState
  pub line : IsTold Yes (failure.Io io_fault.WriteFault) before told
  pub further : (after ≡ told) ⊎ SaysRefusal told after

-- a failure is told as other commands tell it, but for a failed write that is explained
abbrev pub IsStreamTold : Explain → Failure → WriterState → WriterState → Type 0
IsStreamTold Yes (failure.Io io_fault.WriteFault) before after = IsUnwrittenTold before after
IsStreamTold explain found before after = IsTold explain found before after

-- it failed of a cause, which was told
pub record StopsTold (explain : Explain) (known : Known) (Fails : Failure → Type 0)
    (status : Status) (before after : WriterState) : Type 0 where
  pub found : Failure
  pub fails : Fails found
  pub status_is : status ≡ failure_status found
  pub told : IsStreamTold (explained found explain) found before after
