-- What `phase stream` writes of several sinks at once, and why it stops. Writers are numbered: the
-- output is number 0, and the files that were made stand behind it, in the order of the words.
use Rattle.std.specs.Prelude.{◌≡◌, ◌≢◌, ◌⊎◌, ◌+◌, ◌||◌, ℕ, ℤ, zero, suc, Bool, true, false, List, [], ◌∷◌, Option, Some, None, is_some, length, nat_lt, slice_get, ⊤, string_bytes}
use Rattle.std.specs.List.{flat_map, list_any, range_with_len}
use Rattle.std.specs.Str.{bytes_eq}
use Rattle.std.specs.Io.KnownBytes.{Appends, Keeps}
use mathlib.Core.List.{IsPrefix}
use Rattle.graph_commands.specs.Explained.{AreFurtherLines, IsOfText, IsTextOf}
use Rattle.graph_commands.specs.FileJobs.{IsGraphOf, Known}
use Rattle.graph_commands.specs.Folders.{beside}
use Rattle.graph_commands.specs.GraphRuns.{sink_named, sinks_text}
use Rattle.graph_commands.specs.OutputTexts.{value_text}
use Rattle.graph_commands.specs.declared.failure.Failure.{Failure}
use Rattle.graph_commands.specs.declared.failure.Failure.TheVariants as failure
use Rattle.graph_commands.specs.declared.fault.JobFault.TheVariants as fault
use Rattle.graph_commands.specs.declared.graph_file.TheConstants.{GRAPH_MAX}
use Rattle.watched_io.specs.Files.{MayNeedMemory}
use Rattle.watched_io.specs.Prefix.{AppendsPrefix}
use Rattle.watched_io.specs.States.{WriterState, writer_state}
use Rattle.watched_io.specs.declared.fault.IoFault.{IoFault}
use Rattle.watched_io.specs.declared.fault.IoFault.TheVariants as io_fault
use Rattle.watched_io.specs.declared.status.Status.{Status}
use Rattle.watched_io.specs.declared.status.Status.TheVariants.{Done}
use Rattle.watched_io.specs.declared.watched.Watched.{Watched}
use Rattle.phase_words.specs.Outputs.{Pair}
use Rattle.phase_words.specs.StreamLine.{Stream}
use Rattle.stream_job.specs.SinkLines.{kept_by}
use Rattle.graph_base.specs.Graphs.{Graph, file_at, sources_of}
use Rattle.graph_runs.specs.InTime.{BeginsInTime}
use Rattle.graph_runs.specs.Moments.{Moment, started}
use Rattle.graph_runs.specs.Reached.{IsReachable}
use Rattle.graph_runs.specs.Settled.{IsReady}
use Rattle.stream_lists.specs.Jobs.{Job, with_samples, with_starts}
use Rattle.stream_lists.specs.Lists.{sinks_of}
use Rattle.phase_stream.specs.Sessions.{AreTargets, HasFailed, IsSinkNumber, sink_list, task_for}
use Rattle.phase_stream.specs.Streams.{AllFit, CameOf, EndsInRecord, GivesNoRun, GoesOnBehind, IsFaultBehind, IsStandstill, LeavesWith, StopsTold}
use Rattle.phase_stream.specs.declared.sink.Sink.{Sink}
use Rattle.phase_stream.specs.declared.sink.Untargeted.{Untargeted}
use Rattle.phase_stream.specs.declared.sink.Untargeted.TheVariants as untargeted

-- ---- writers

-- a writer that is not there
abbrev pub no_writer : WriterState
no_writer = record { written = None; failed = false }

-- what writer number k got, and whether a call of it failed
abbrev pub writers_at : {W V : Type 0} → (W → Option (List ℕ)) → (V → Option (List ℕ)) → Watched W
    → List (Watched V) → ℕ → WriterState
writers_at of_output of_file output made zero = writer_state of_output output
writers_at {W} {V} of_output of_file output made (suc k) = of (slice_get made k)
  where
    of : Option (Watched V) → WriterState
    of None = no_writer
    of (Some writer) = writer_state of_file writer

-- what a file that was just made holds: nothing, where it is known what is written to files
abbrev pub bare_file : Bool → Option (List ℕ)
bare_file true = Some []
bare_file false = None

-- what writer number k got when nothing was written: the output what it had, and each file nothing
abbrev pub bare_at : Bool → List Pair → Option (List ℕ) → ℕ → Option (List ℕ)
bare_at knows files output zero = output
bare_at knows files output (suc k) = of (slice_get files k)
  where
    of : Option Pair → Option (List ℕ)
    of None = None
    of (Some file) = bare_file knows

-- nothing was written to the files that were made
abbrev pub AreBare : {V : Type 0} → Bool → (V → Option (List ℕ)) → List (Watched V) → Type 0
AreBare {V} knows of_file made = (k : ℕ) (writer : Watched V) → slice_get made k ≡ Some writer
    → Keeps (bare_file knows) (writer_state of_file writer).written

-- ---- which sink goes where

-- the only task of a list, where there is one and no other
abbrev pub only_of : List ℕ → Option ℕ
only_of [] = None
only_of (t ∷ []) = Some t
only_of (t ∷ u ∷ ts) = None

-- the sink that goes to the output: the one of a name, or the only one where no other goes anywhere
abbrev pub output_task : Job → Option (List ℕ) → List Pair → Option ℕ
output_task job (Some name) files = sink_named job name
output_task job None [] = only_of (sinks_of job)
output_task job None (file ∷ files) = None

-- the sink that goes to writer number k, where one does
abbrev pub task_to : Job → Option (List ℕ) → List Pair → ℕ → Option ℕ
task_to job sink files zero = output_task job sink files
task_to job sink files (suc k) = of (slice_get files k)
  where
    of : Option Pair → Option ℕ
    of None = None
    of (Some file) = sink_named job file.0

-- whether a sink is to go to it: to the output, where one is named or no other goes anywhere, and
-- to each file
abbrev pub is_asked : Option (List ℕ) → List Pair → ℕ → Bool
is_asked sink files zero = is_some sink || not_any files
  where
    not_any : List Pair → Bool
    not_any [] = true
    not_any (file ∷ files) = false
is_asked sink files (suc k) = nat_lt k (length files)

-- there is each sink that is to go somewhere
abbrev pub HasSinks : Job → Option (List ℕ) → List Pair → Type 0
HasSinks job sink files = (k : ℕ) → is_asked sink files k ≡ true
    → is_some (task_to job sink files k) ≡ true

-- there is one not
pub record LacksSink (job : Job) (sink : Option (List ℕ)) (files : List Pair) : Type 0 where
  pub number : ℕ
  pub asked : is_asked sink files number ≡ true
  pub none : task_to job sink files number ≡ None

-- what goes to the output is this
pub record IsOutputTarget (job : Job) (what : Stream) (target : Option Sink) : Type 0 where
  pub task : task_for (target ∷ []) 0 ≡ output_task job what.sink what.files
  pub number : (sink : Sink) → target ≡ Some sink → IsSinkNumber job sink.task sink.number
  pub there : is_asked what.sink what.files 0 ≡ true
      → is_some (output_task job what.sink what.files) ≡ true

-- why there is nothing to write for some writer
abbrev pub IsUntargeted : Job → Stream → Untargeted → Type 0
IsUntargeted job what (untargeted.NoSink name) = LacksSink job what.sink what.files
IsUntargeted job what untargeted.OutOfMemory = ⊤

-- these sinks go where the words ask for, and all are there
pub record AreTargetsOf (job : Job) (what : Stream) (targets : List (Option Sink)) : Type 0 where
  pub goes : (k : ℕ) → task_for targets k ≡ task_to job what.sink what.files k
  pub many : length targets ≡ length what.files + 1
  pub numbers : AreTargets job targets
  pub sinks : HasSinks job what.sink what.files

-- the file that is opened of a name, beside the graph's or by its name
abbrev pub opened_as : Bool → List ℕ → List ℕ → List ℕ
opened_as true graph name = beside graph name
opened_as false graph name = name

-- whether it is the file of a source
abbrev pub is_source_file : Bool → List ℕ → Graph → List ℕ → Bool
is_source_file is_beside name graph file =
    list_any (λ k. bytes_eq file (opened_as is_beside name (file_at graph k)))
    (range_with_len 0 (sources_of graph))

-- whether it is the graph's file, or that of a source
abbrev pub is_read_file : Bool → List ℕ → Graph → List ℕ → Bool
is_read_file is_beside name graph file =
    bytes_eq file name || is_source_file is_beside name graph file

-- none of these is
abbrev pub AreNotRead : Bool → List ℕ → Graph → List Pair → Type 0
AreNotRead is_beside name graph files = (k : ℕ) (file : Pair) → slice_get files k ≡ Some file
    → is_read_file is_beside name graph file.1 ≡ false

-- what the words ask for is there: the file tells a graph with the sinks, and what they go to is
-- neither that file nor one of a source
pub record IsAsAsked (known : Known) (what : Stream) (job : Job) : Type 0 where
  pub graph_of : IsGraphOf known what.graph job.graph
  pub sinks : HasSinks job what.sink what.files
  pub apart : AreNotRead what.beside what.graph job.graph what.files

-- no file was made, and so none was cut, or what the words ask for is there
abbrev pub AreMadeLast : {V : Type 0} → Known → Stream → List (Watched V) → Type 0
AreMadeLast known what made = (made ≡ []) ⊎ ((job : Job) × IsAsAsked known what job)

-- ---- what is written

-- what was written to each writer begins the values of its sink in every run whose samples go on
-- behind those that came, with these starts of its sinks that join now
pub record WriteParts (held : Known) (job : Job) (goes : ℕ → Option ℕ)
    (old now : ℕ → Option (List ℕ)) : Type 0 where
  pub samples : List (List ℤ)
  pub ended : ℕ → Bool
  pub came : CameOf held job ended samples
  pub starts : List ℕ
  pub values : ℕ → List ℤ
  pub right : (k t : ℕ) → goes k ≡ Some t → (more : List (List ℤ))
      → GoesOnBehind job ended samples more
      → IsPrefix (values k) (sink_list (with_starts starts (with_samples more job)) t)
  pub none : (k : ℕ) → goes k ≡ None → values k ≡ []
  pub written : (k : ℕ) → AppendsPrefix (old k) (now k) (flat_map value_text (values k))

-- what was written to each is all that its sink had kept at a moment of the samples that came, and
-- begins its values in every run whose samples go on behind those
pub record WriteKept (held : Known) (job : Job) (goes : ℕ → Option ℕ)
    (old now : ℕ → Option (List ℕ)) : Type 0 where
  pub samples : List (List ℤ)
  pub ended : ℕ → Bool
  pub came : CameOf held job ended samples
  pub moment : Moment
  pub reached : IsReachable (with_samples samples job) moment
  pub right : (k t : ℕ) → goes k ≡ Some t → (more : List (List ℤ))
      → GoesOnBehind job ended samples more
      → IsPrefix (kept_by job moment t) (sink_list (started (with_samples more job) moment) t)
  pub written : (k t : ℕ) → goes k ≡ Some t
      → Appends (old k) (now k) (flat_map value_text (kept_by job moment t))
  pub none : (k : ℕ) → goes k ≡ None → Appends (old k) (now k) []

-- what was written to each is all values of its sink in every run whose samples go on behind those
-- that came, in which it begins in time: every value of the run is in range, or all these sinks
-- have left
pub record WriteWhole (held : Known) (job : Job) (goes : ℕ → Option ℕ)
    (old now : ℕ → Option (List ℕ)) : Type 0 where
  pub samples : List (List ℤ)
  pub ended : ℕ → Bool
  pub came : CameOf held job ended samples
  pub ready : IsReady (with_samples samples job)
  pub starts : List ℕ
  pub values : ℕ → List ℤ
  pub whole : (k t : ℕ) → goes k ≡ Some t → (more : List (List ℤ))
      → GoesOnBehind job ended samples more
      → sinks_text (with_starts starts (with_samples more job)) (Some t)
      ≡ flat_map value_text (values k)
  pub in_time : (k t : ℕ) → goes k ≡ Some t → (more : List (List ℤ))
      → GoesOnBehind job ended samples more
      → BeginsInTime (with_starts starts (with_samples more job)) t
  pub ends : AllFit job ended samples starts
      ⊎ ((k t : ℕ) → goes k ≡ Some t → LeavesWith job samples starts t (values k))
  pub none : (k : ℕ) → goes k ≡ None → values k ≡ []
  pub written : (k : ℕ) → Appends (old k) (now k) (flat_map value_text (values k))

-- ---- causes

-- it stopped behind a part of the values, of a cause
pub record StopBehind (held : Known) (job : Job) (goes : ℕ → Option ℕ)
    (old now : ℕ → Option (List ℕ))
    (Cause : List (List ℤ) → (ℕ → Bool) → List ℕ → Type 0) : Type 0 where
  pub part : WriteParts held job goes old now
  pub cause : Cause part.samples part.ended part.starts

-- it stopped behind all that the sinks had kept, of a cause
pub record StopKept (held : Known) (job : Job) (goes : ℕ → Option ℕ)
    (old now : ℕ → Option (List ℕ))
    (Cause : List (List ℤ) → (ℕ → Bool) → Moment → Type 0) : Type 0 where
  pub kept : WriteKept held job goes old now
  pub cause : Cause kept.samples kept.ended kept.moment

-- why it stopped once it had begun, with so many writers: after a write fault one of them has
-- failed
abbrev pub StopOf : Known → Job → (ℕ → Option ℕ) → ℕ → (ℕ → Option (List ℕ)) → (ℕ → WriterState)
    → Failure → Type 0
StopOf held job goes many old new (failure.Graph (fault.Graph found) text) = ⊥
StopOf held job goes many old new (failure.Graph (fault.BadSample named number told) text) =
    StopKept held job goes old (λ k. (new k).written)
    (λ samples ended m. EndsInRecord held job (string_bytes named) number told samples ended m)
StopOf held job goes many old new (failure.Graph fault.ReadFault text) =
    StopBehind held job goes old (λ k. (new k).written) (λ samples ended starts. ⊤)
StopOf held job goes many old new (failure.Graph fault.OutOfMemory text) =
    StopBehind held job goes old (λ k. (new k).written) (λ samples ended starts. ⊤)
StopOf held job goes many old new (failure.NoSink other wanted) = ⊥
StopOf held job goes many old new (failure.TooBig other at phase) =
    (other ≡ job) × StopKept held job goes old (λ k. (new k).written)
    (λ samples ended m. IsFaultBehind job samples ended m (at, phase))
StopOf held job goes many old new (failure.Stalled further) =
    AreFurtherLines further.items × StopKept held job goes old (λ k. (new k).written)
    (λ samples ended m. IsStandstill job samples ended m)
StopOf held job goes many old new (failure.Io found) =
    (found ≡ io_fault.WriteFault → HasFailed many new)
    × StopBehind held job goes old (λ k. (new k).written) (λ samples ended starts. ⊤)

-- why no file was made, or not all: memory ran out, or one could not be made, which may be that of
-- the graph, of a source or of another sink
abbrev pub IsUnmadeFile : Known → Stream → IoFault → Type 0
IsUnmadeFile known what found =
    ((found ≡ io_fault.OutOfMemory) × MayNeedMemory GRAPH_MAX (known what.graph))
    ⊎ ((found ≡ io_fault.WriteFault) × (what.files ≢ []))

-- why no graph was read
abbrev pub IsUnreadGraph : Known → List ℕ → Failure → Type 0
IsUnreadGraph known name (failure.Graph found text) =
    GivesNoRun known name found × (IsOfText found → IsTextOf known name text.items)
IsUnreadGraph known name found = ⊥

-- why it did not begin
abbrev pub IsUnbegunStream : Known → Stream → Failure → Type 0
IsUnbegunStream known what (failure.Graph found text) =
    GivesNoRun known what.graph found × (IsOfText found → IsTextOf known what.graph text.items)
IsUnbegunStream known what (failure.NoSink job wanted) =
    IsGraphOf known what.graph job.graph × LacksSink job what.sink what.files
IsUnbegunStream known what (failure.TooBig other at phase) = ⊥
IsUnbegunStream known what (failure.Stalled further) = ⊥
IsUnbegunStream known what (failure.Io found) = IsUnmadeFile known what found

-- ---- what a stream did

-- what the words ask for is there, and the values of the sinks were written, all of them
pub record StreamDoes (known : Known) (what : Stream) (old now : ℕ → Option (List ℕ)) : Type 0 where
  pub job : Job
  pub there : IsAsAsked known what job
  pub whole : WriteWhole known job (task_to job what.sink what.files) old now

-- it had begun: what the words ask for is there
pub record StreamStops (known : Known) (what : Stream) (old : ℕ → Option (List ℕ))
    (new : ℕ → WriterState) (found : Failure) : Type 0 where
  pub job : Job
  pub there : IsAsAsked known what job
  pub stops : StopOf known job (task_to job what.sink what.files) (length what.files + 1) old new
      found

-- it did not begin, nothing was written, and files were made only where what the words ask for is
-- there; or it stopped behind what was written
abbrev pub StreamFailsBy : {W V : Type 0} → Known → Stream → Bool → (W → Option (List ℕ))
    → (V → Option (List ℕ)) → Watched W → Watched W → List (Watched V) → Failure → Type 0
StreamFailsBy known what knows of_output of_file old new made found =
    (IsUnbegunStream known what found × (new ≡ old) × AreBare knows of_file made
    × AreMadeLast known what made)
    ⊎ StreamStops known what (bare_at knows what.files (of_output old.inner))
    (writers_at of_output of_file new made) found

-- how a stream of what the words ask for ends
pub record StreamEndsBy {W V : Type 0} (known : Known) (what : Stream) (knows : Bool)
    (of_output : W → Option (List ℕ)) (of_file : V → Option (List ℕ)) (status : Status)
    (old new : Watched W) (made : List (Watched V)) (before after : WriterState) : Type 0 where
  pub done : status ≡ Done
      → StreamDoes known what (bare_at knows what.files (of_output old.inner))
      (λ k. (writers_at of_output of_file new made k).written)
  pub stops : status ≢ Done
      → StopsTold what.explain known
      (StreamFailsBy known what knows of_output of_file old new made) status before after
