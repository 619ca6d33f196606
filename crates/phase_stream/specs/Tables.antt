-- The sinks of a stream as the columns of a table: what of it was written, and how that ends.
use Rattle.std.specs.Prelude.{◌≡◌, ◌≢◌, ◌⊎◌, ◌<◌, ℕ, ℤ, Bool, List, Option, None, length}
use Rattle.std.specs.Io.KnownBytes.{Appends}
use mathlib.Core.List.{IsPrefix}
use Rattle.graph_commands.specs.ColumnTexts.{columns_text}
use Rattle.graph_commands.specs.FileJobs.{IsGraphOf, Known}
use Rattle.graph_commands.specs.declared.failure.Failure.{Failure}
use Rattle.graph_commands.specs.declared.failure.Failure.TheVariants as failure
use Rattle.graph_commands.specs.declared.graph_file.TheConstants.{GRAPH_MAX}
use Rattle.watched_io.specs.Files.{MayNeedMemory}
use Rattle.watched_io.specs.Prefix.{AppendsPrefix}
use Rattle.watched_io.specs.States.{WriterState, writer_state}
use Rattle.watched_io.specs.declared.explain.Explain.{Explain}
use Rattle.watched_io.specs.declared.fault.IoFault.TheVariants as io_fault
use Rattle.watched_io.specs.declared.status.Status.{Status}
use Rattle.watched_io.specs.declared.status.Status.TheVariants.{Done}
use Rattle.watched_io.specs.declared.watched.Watched.{Watched}
use Rattle.graph_runs.specs.InTime.{BeginsInTime}
use Rattle.graph_runs.specs.Settled.{IsReady}
use Rattle.stream_lists.specs.Jobs.{Job, with_samples, with_starts}
use Rattle.stream_lists.specs.Lists.{lines_of}
use Rattle.phase_stream.specs.Outputs.{IsUnreadGraph, StopOf}
use Rattle.phase_stream.specs.Streams.{CameOf, GoesOnBehind, StopsTold}

-- ---- what is written

-- the table of a job, of the lists of its sinks
abbrev pub table_of : Job → List ℕ
table_of job = columns_text job (lines_of job)

-- what was written begins the table of every run whose samples go on behind those that came, with
-- these starts of its sinks that join now
pub record WritesTablePart (held : Known) (job : Job) (old now : Option (List ℕ)) : Type 0 where
  pub samples : List (List ℤ)
  pub ended : ℕ → Bool
  pub came : CameOf held job ended samples
  pub starts : List ℕ
  pub text : List ℕ
  pub right : (more : List (List ℤ)) → GoesOnBehind job ended samples more
      → IsPrefix text (table_of (with_starts starts (with_samples more job)))
  pub written : AppendsPrefix old now text

-- it is the whole table of every such run, in which each sink begins in time
pub record WritesTable (held : Known) (job : Job) (old now : Option (List ℕ)) : Type 0 where
  pub samples : List (List ℤ)
  pub ended : ℕ → Bool
  pub came : CameOf held job ended samples
  pub ready : IsReady (with_samples samples job)
  pub starts : List ℕ
  pub text : List ℕ
  pub whole : (more : List (List ℤ)) → GoesOnBehind job ended samples more
      → table_of (with_starts starts (with_samples more job)) ≡ text
  pub in_time : (t : ℕ) → t < length job.graph.tasks → (more : List (List ℤ))
      → GoesOnBehind job ended samples more
      → BeginsInTime (with_starts starts (with_samples more job)) t
  pub written : Appends old now text

-- nothing is known of what other writers got
abbrev pub unknown : ℕ → Option (List ℕ)
unknown k = None

-- a part of it was, and the run stopped of a cause, as where no sink goes anywhere
pub record StopsAtTable (held : Known) (job : Job) (old : Option (List ℕ)) (new : WriterState)
    (found : Failure) : Type 0 where
  pub part : WritesTablePart held job old new.written
  pub cause : StopOf held job (λ k. None) 1 unknown (λ k. new) found

-- ---- what a stream did

-- the file tells a graph, and the table of its sinks was written
pub record TableDoes (known : Known) (name : List ℕ) (old now : Option (List ℕ)) : Type 0 where
  pub job : Job
  pub graph_of : IsGraphOf known name job.graph
  pub whole : WritesTable known job old now

-- the file tells a graph, and a part of the table was written
pub record TableStops (known : Known) (name : List ℕ) (old : Option (List ℕ)) (new : WriterState)
    (found : Failure) : Type 0 where
  pub job : Job
  pub graph_of : IsGraphOf known name job.graph
  pub stops : StopsAtTable known job old new found

-- why it did not begin
abbrev pub IsUnbegunTable : Known → List ℕ → Failure → Type 0
IsUnbegunTable known name (failure.Io found) =
    (found ≡ io_fault.OutOfMemory) × MayNeedMemory GRAPH_MAX (known name)
IsUnbegunTable known name found = IsUnreadGraph known name found

-- it did not begin, and nothing was written, or it stopped behind a part of the table
abbrev pub TableFails : {W : Type 0} → Known → List ℕ → (W → Option (List ℕ)) → Watched W
    → Watched W → Failure → Type 0
TableFails known name contents old new found =
    (IsUnbegunTable known name found × (new ≡ old))
    ⊎ TableStops known name (contents old.inner) (writer_state contents new) found

-- how a stream ends whose sinks are the columns of a table
pub record TableEnds {W : Type 0} (explain : Explain) (known : Known) (name : List ℕ)
    (status : Status) (contents : W → Option (List ℕ)) (old new : Watched W)
    (before after : WriterState) : Type 0 where
  pub done : status ≡ Done → TableDoes known name (contents old.inner) (contents new.inner)
  pub stops : status ≢ Done
      → StopsTold explain known (TableFails known name contents old new) status before after
