-- Why a command on a graph failed, by its failure: the cause of that, its status and its line.
use Rattle.std.specs.Prelude.{◌≡◌, ◌⊎◌, ℕ, true, List, Option, Some, None, ⊤}
use Rattle.graph_commands.specs.Explained.{AreFurtherLines, IsOfText, IsTextOf}
use Rattle.graph_commands.specs.FileJobs.{Explains, IsJobOf, Known}
use Rattle.graph_commands.specs.GraphDrawings.{ExplainsNoGraph}
use Rattle.graph_commands.specs.GraphRuns.{job_line, job_status, no_sink_line, sink_named, stalled_line, too_big_line}
use Rattle.graph_commands.specs.declared.failure.Failure.{Failure}
use Rattle.graph_commands.specs.declared.failure.Failure.TheVariants as failure
use Rattle.graph_commands.specs.declared.fault.JobFault.{JobFault}
use Rattle.graph_commands.specs.declared.graph_file.TheConstants.{GRAPH_MAX}
use Rattle.graph_base.specs.Graphs.{IsPlace, name_at}
use Rattle.graph_base.specs.declared.place.Place.{Place}
use Rattle.watched_io.specs.Files.{MayNeedMemory}
use Rattle.watched_io.specs.States.{WriterState, writer_state}
use Rattle.watched_io.specs.Statuses.{fault_line}
use Rattle.watched_io.specs.declared.fault.IoFault.{IoFault}
use Rattle.watched_io.specs.declared.fault.IoFault.TheVariants.{OutOfMemory, WriteFault}
use Rattle.watched_io.specs.declared.status.Status.{Status}
use Rattle.watched_io.specs.declared.status.Status.TheVariants.{Failed, GraphRefused, Stalled, TooBig}
use Rattle.watched_io.specs.declared.watched.Watched.{Watched}
use Rattle.stream_lists.specs.Jobs.{Job}
use Rattle.stream_lists.specs.Ranges.{first_too_big}

-- the status after a failure
abbrev pub failure_status : Failure → Status
failure_status (failure.Graph fault text) = job_status fault
failure_status (failure.NoSink job name) = GraphRefused
failure_status (failure.TooBig job place phase) = TooBig
failure_status (failure.Stalled further) = Stalled
failure_status (failure.Io fault) = Failed

-- its line
abbrev pub failure_line : Failure → List ℕ
failure_line (failure.Graph fault text) = job_line fault
failure_line (failure.NoSink job name) = no_sink_line name.now
failure_line (failure.TooBig job place phase) = too_big_line (name_at job.graph place) phase
failure_line (failure.Stalled further) = stalled_line
failure_line (failure.Io fault) = fault_line fault

-- the place that it tells of is one of the graph
abbrev pub HasPlace : Failure → Type 0
HasPlace (failure.Graph fault text) = ⊤
HasPlace (failure.NoSink job name) = ⊤
HasPlace (failure.TooBig job place phase) = IsPlace job.graph place
HasPlace (failure.Stalled further) = ⊤
HasPlace (failure.Io fault) = ⊤

-- ---- causes

-- the files tell no job, or memory ran out; the text is that of the graph's file, where the fault
-- is explained by that
pub record IsNoJob (known : Known) (name : List ℕ) (fault : JobFault) (text : List ℕ) : Type 0 where
  pub explains : Explains known name fault
  pub text_of : IsOfText fault → IsTextOf known name text

-- the file tells no graph, or memory ran out; and so of the text
pub record IsNoGraph (known : Known) (name : List ℕ) (fault : JobFault) (text : List ℕ)
    : Type 0 where
  pub explains : ExplainsNoGraph known name fault
  pub text_of : IsOfText fault → IsTextOf known name text

-- the files tell this job, and no sink of it has the name that was asked for
pub record IsNoSink (known : Known) (name : List ℕ) (asked : Option (List ℕ)) (job : Job)
    (wanted : List ℕ) : Type 0 where
  pub job_of : IsJobOf known name job
  pub asked_is : asked ≡ Some wanted
  pub none : sink_named job wanted ≡ None

-- the files tell this job, and it is the first of its values that is out of range
pub record IsTooBig (known : Known) (name : List ℕ) (job : Job) (place : Place) (phase : ℕ)
    : Type 0 where
  pub job_of : IsJobOf known name job
  pub first : first_too_big job ≡ Some (place, phase)

-- memory ran out, over a graph that is not too long
abbrev pub IsNoMemory : Known → List ℕ → IoFault → Type 0
IsNoMemory known name fault = (fault ≡ OutOfMemory) × MayNeedMemory GRAPH_MAX (known name)

-- why no job was read
abbrev pub IsUnread : Known → List ℕ → Failure → Type 0
IsUnread known name (failure.Graph fault text) = IsNoJob known name fault text.items
IsUnread known name (failure.NoSink job wanted) = ⊥
IsUnread known name (failure.TooBig job place phase) = ⊥
IsUnread known name (failure.Stalled further) = ⊥
IsUnread known name (failure.Io fault) = ⊥

-- why no graph was drawn
abbrev pub IsUndrawn : Known → List ℕ → Failure → Type 0
IsUndrawn known name (failure.Graph fault text) = IsNoGraph known name fault text.items
IsUndrawn known name (failure.NoSink job wanted) = ⊥
IsUndrawn known name (failure.TooBig job place phase) = ⊥
IsUndrawn known name (failure.Stalled further) = ⊥
IsUndrawn known name (failure.Io fault) = IsNoMemory known name fault

-- why no job was read that has what was asked for, all sinks or the one of a name
abbrev pub IsUnasked : Known → List ℕ → Option (List ℕ) → Failure → Type 0
IsUnasked known name asked (failure.Graph fault text) = IsNoJob known name fault text.items
IsUnasked known name asked (failure.NoSink job wanted) = IsNoSink known name asked job wanted.now
IsUnasked known name asked (failure.TooBig job place phase) = ⊥
IsUnasked known name asked (failure.Stalled further) = ⊥
IsUnasked known name asked (failure.Io fault) = ⊥

-- why there are no lists of its sinks, where a stall is said only of what Stalls tells
abbrev pub IsUnanswered : Type 0 → Known → List ℕ → Option (List ℕ) → Failure → Type 0
IsUnanswered Stalls known name asked (failure.Graph fault text) =
    IsNoJob known name fault text.items
IsUnanswered Stalls known name asked (failure.NoSink job wanted) =
    IsNoSink known name asked job wanted.now
IsUnanswered Stalls known name asked (failure.TooBig job place phase) =
    IsTooBig known name job place phase
IsUnanswered Stalls known name asked (failure.Stalled further) =
    AreFurtherLines further.items × Stalls
IsUnanswered Stalls known name asked (failure.Io fault) = IsNoMemory known name fault

-- a write to the output failed, after what was written before it
pub record IsUnwritten (Written : Type 0) (new : WriterState) (found : Failure) : Type 0 where
  pub failure_is : found ≡ failure.Io WriteFault
  pub written : Written
  pub noted : new.failed ≡ true

-- the command failed of this cause before it wrote anything, or a write failed
abbrev pub FailsBy : {W : Type 0} → (Failure → Type 0) → Type 0 → (W → Option (List ℕ))
    → Watched W → Watched W → Failure → Type 0
FailsBy Cause Written contents old new found =
    (Cause found × (new ≡ old)) ⊎ IsUnwritten Written (writer_state contents new) found
