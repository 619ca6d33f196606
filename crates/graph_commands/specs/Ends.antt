-- How a command on a graph ends, by its status, and what stands on its streams then.
use Rattle.std.specs.Prelude.{◌≡◌, ◌≢◌, ◌⊎◌, ◌++◌, ℕ, List, [], Option, None}
use Rattle.std.specs.Io.KnownBytes.{Appends}
use Rattle.graph_commands.specs.Explained.{AreFurtherLines, Tells, TellsRefusal, no_memory_line}
use Rattle.graph_commands.specs.Failures.{FailsBy, IsUnanswered, IsUndrawn, IsUnread, failure_line, failure_status}
use Rattle.graph_commands.specs.FileJobs.{IsJobOf, Known}
use Rattle.graph_commands.specs.GraphDrawings.{Draws, DrawsPrefix}
use Rattle.graph_commands.specs.GraphRuns.{Evaluates, EvaluatesColumns, EvaluatesColumnsPrefix, EvaluatesPrefix, check_line}
use Rattle.graph_commands.specs.declared.failure.Failure.{Failure}
use Rattle.graph_commands.specs.declared.failure.Failure.TheVariants as failure
use Rattle.graph_base.specs.Graphs.{Graph}
use Rattle.watched_io.specs.Prefix.{AppendsPrefix}
use Rattle.watched_io.specs.States.{WriterState, writer_state}
use Rattle.watched_io.specs.Statuses.{Says}
use Rattle.watched_io.specs.declared.explain.Explain.{Explain}
use Rattle.watched_io.specs.declared.explain.Explain.TheVariants.{No, Yes}
use Rattle.watched_io.specs.declared.status.Status.{Status}
use Rattle.watched_io.specs.declared.status.Status.TheVariants.{Done}
use Rattle.watched_io.specs.declared.watched.Watched.{Watched}
use Rattle.stream_lists.specs.Jobs.{Job}

-- ---- what is told of a failure

-- the text explains a failure to a person: of the files, by what they hold, or it says that memory
-- ran out over that; of a name that no sink has and of a value that is out of range, by lines for a
-- person or nothing; of a stall by what goes with it; of a failed write and want of memory it is
-- nothing
abbrev pub ExplainsFailure : Failure → List ℕ → Type 0
ExplainsFailure (failure.Graph fault text) more =
    Tells text.items fault more ⊎ (more ≡ no_memory_line)
ExplainsFailure (failure.NoSink job name) more = AreFurtherLines more
ExplainsFailure (failure.TooBig job place phase) more = AreFurtherLines more
ExplainsFailure (failure.Stalled further) more = more ≡ further.items
ExplainsFailure (failure.Io fault) more = more ≡ []

-- the text was said that explains it
pub record SaysMore (found : Failure) (before after : WriterState) : Type 0 where
  pub more : List ℕ
  pub explains : ExplainsFailure found more
  pub says : Says more before after

-- the name of a file was said and why it was refused, or that memory ran out over that
pub record SaysRefusal (before after : WriterState) : Type 0 where
  pub more : List ℕ
  pub tells : TellsRefusal more ⊎ (more ≡ no_memory_line)
  pub says : Says more before after

-- its line was said, and then that text
pub record IsExplained (found : Failure) (before after : WriterState) : Type 0 where
  pub told : WriterState
  pub line : Says (failure_line found) before told
  pub further : SaysMore found told after

-- a failure is told by its line, and explained where that is asked for
abbrev pub IsTold : Explain → Failure → WriterState → WriterState → Type 0
IsTold No found before after = Says (failure_line found) before after
IsTold Yes found before after = IsExplained found before after

-- ---- how a command ends

-- it failed of a cause, which was told
pub record Stops (explain : Explain) (Fails : Failure → Type 0) (status : Status)
    (before after : WriterState) : Type 0 where
  pub found : Failure
  pub fails : Fails found
  pub status_is : status ≡ failure_status found
  pub told : IsTold explain found before after

-- it did what it is for, or it stopped
pub record EndsBy (explain : Explain) (Does : Type 0) (Fails : Failure → Type 0)
    (status : Status) (before after : WriterState) : Type 0 where
  pub done : status ≡ Done → Does
  pub stops : status ≢ Done → Stops explain Fails status before after

-- ---- a check

-- behind the line of the graph's counts stands nothing, or stand lines for a person where these are
-- asked for
abbrev pub AreNotes : Explain → List ℕ → Type 0
AreNotes No more = more ≡ []
AreNotes Yes more = AreFurtherLines more

-- both were written
pub record WritesCheck (explain : Explain) (graph : Graph) (old new : Option (List ℕ))
    : Type 0 where
  pub more : List ℕ
  pub notes : AreNotes explain more
  pub written : Appends old new (check_line graph ++ more)

-- a prefix of both was
pub record WritesCheckPrefix (explain : Explain) (graph : Graph) (old new : Option (List ℕ))
    : Type 0 where
  pub more : List ℕ
  pub notes : AreNotes explain more
  pub written : AppendsPrefix old new (check_line graph ++ more)

-- the files tell a job, and its counts were written
pub record Checks (explain : Explain) (known : Known) (name : List ℕ) (old new : WriterState)
    : Type 0 where
  pub job : Job
  pub job_of : IsJobOf known name job
  pub writes : WritesCheck explain job.graph old.written new.written

-- the files tell a job, and a prefix of that was written
pub record ChecksPrefix (explain : Explain) (known : Known) (name : List ℕ) (old new : WriterState)
    : Type 0 where
  pub job : Job
  pub job_of : IsJobOf known name job
  pub writes : WritesCheckPrefix explain job.graph old.written new.written

-- why a check failed
abbrev pub CheckFails : {W : Type 0} → Explain → Known → List ℕ → (W → Option (List ℕ))
    → Watched W → Watched W → Failure → Type 0
CheckFails explain known name contents old new found =
    FailsBy (IsUnread known name)
    (ChecksPrefix explain known name (writer_state contents old) (writer_state contents new))
    contents old new found

-- how a check ends
abbrev pub CheckEnds : {W : Type 0} → Explain → Known → List ℕ → Status → (W → Option (List ℕ))
    → Watched W → Watched W → WriterState → WriterState → Type 0
CheckEnds explain known name status contents old new before after =
    EndsBy explain
    (Checks explain known name (writer_state contents old) (writer_state contents new))
    (CheckFails explain known name contents old new) status before after

-- ---- a drawing

-- why a drawing failed
abbrev pub DrawFails : {W : Type 0} → Known → List ℕ → (W → Option (List ℕ))
    → Watched W → Watched W → Failure → Type 0
DrawFails known name contents old new found =
    FailsBy (IsUndrawn known name)
    (DrawsPrefix known name (writer_state contents old) (writer_state contents new))
    contents old new found

-- how a drawing ends
abbrev pub DrawEnds : {W : Type 0} → Explain → Known → List ℕ → Status → (W → Option (List ℕ))
    → Watched W → Watched W → WriterState → WriterState → Type 0
DrawEnds explain known name status contents old new before after =
    EndsBy explain
    (Draws known name (writer_state contents old) (writer_state contents new))
    (DrawFails known name contents old new) status before after

-- ---- an evaluation, of all sinks or of the one of the name that was asked for

-- why an evaluation failed: it never stalls
abbrev pub EvalFails : {W : Type 0} → Known → List ℕ → Option (List ℕ) → (W → Option (List ℕ))
    → Watched W → Watched W → Failure → Type 0
EvalFails known name asked contents old new found =
    FailsBy (IsUnanswered ⊥ known name asked)
    (EvaluatesPrefix known name asked (writer_state contents old) (writer_state contents new))
    contents old new found

-- how an evaluation ends
abbrev pub EvalEnds : {W : Type 0} → Explain → Known → List ℕ → Option (List ℕ) → Status
    → (W → Option (List ℕ)) → Watched W → Watched W → WriterState → WriterState → Type 0
EvalEnds explain known name asked status contents old new before after =
    EndsBy explain
    (Evaluates known name asked (writer_state contents old) (writer_state contents new))
    (EvalFails known name asked contents old new) status before after

-- ---- an evaluation whose sinks are the columns of a table

-- why it failed
abbrev pub ColumnsFail : {W : Type 0} → Known → List ℕ → (W → Option (List ℕ))
    → Watched W → Watched W → Failure → Type 0
ColumnsFail known name contents old new found =
    FailsBy (IsUnanswered ⊥ known name None)
    (EvaluatesColumnsPrefix known name (writer_state contents old) (writer_state contents new))
    contents old new found

-- how it ends
abbrev pub ColumnsEnd : {W : Type 0} → Explain → Known → List ℕ → Status
    → (W → Option (List ℕ)) → Watched W → Watched W → WriterState → WriterState → Type 0
ColumnsEnd explain known name status contents old new before after =
    EndsBy explain
    (EvaluatesColumns known name (writer_state contents old) (writer_state contents new))
    (ColumnsFail known name contents old new) status before after
