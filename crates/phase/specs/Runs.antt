-- How a run of a graph ends, by its status, and what stands on its streams then.
use Rattle.std.specs.Prelude.{◌≡◌, ◌≤◌, ℕ, List, get_or, Some}
use Rattle.std.specs.List.{All}
use Rattle.std.specs.declared.option.Option.{Option}
use Rattle.graph_commands.specs.Ends.{EndsBy}
use Rattle.graph_commands.specs.Failures.{FailsBy, IsUnanswered}
use Rattle.graph_commands.specs.FileJobs.{IsJobOf, Known}
use Rattle.graph_commands.specs.GraphRuns.{AsksSink, sinks_text}
use Rattle.graph_commands.specs.declared.failure.Failure.{Failure}
use Rattle.graph_base.specs.Graphs.{task_at}
use Rattle.stream_lists.specs.Jobs.{Job, with_starts}
use Rattle.stream_lists.specs.Lists.{lines_of, start_in}
use Rattle.stream_lists.specs.Ranges.{Fits}
use Rattle.stream_lists.specs.Spans.{lengths_of}
use Rattle.watched_io.specs.Prefix.{AppendsPrefix}
use Rattle.std.specs.Io.KnownBytes.{Appends}
use Rattle.watched_io.specs.States.{WriterState, writer_state}
use Rattle.watched_io.specs.declared.explain.Explain.{Explain}
use Rattle.watched_io.specs.declared.status.Status.{Status}
use Rattle.watched_io.specs.declared.watched.Watched.{Watched}

-- each sink that joins now begins at most one phase behind the last of its phaser's list
abbrev pub BeginInTime : List ℕ → Job → Type 0
BeginInTime starts job =
    All (λ line. (start : ℕ) → start_in (with_starts starts job) line.0 ≡ Some start
    → start ≤ get_or (lengths_of job) (get_or (task_at job.graph line.0).inputs 0 0) 0)
    (lines_of (with_starts starts job))

-- the files tell a job whose values fit for some starts of its sinks that join now, and the lists
-- of the sinks that were asked for were written, with these starts
pub record Runs (known : Known) (name : List ℕ) (asked : Option (List ℕ))
    (old new : WriterState) : Type 0 where
  pub job : Job
  pub job_of : IsJobOf known name job
  pub starts : List ℕ
  pub in_time : BeginInTime starts job
  pub fits : Fits (with_starts starts job)
  pub sink : Option ℕ
  pub asks : AsksSink job asked sink
  pub written : Appends old.written new.written (sinks_text (with_starts starts job) sink)

-- and a prefix of these lists was written
pub record RunsPrefix (known : Known) (name : List ℕ) (asked : Option (List ℕ))
    (old new : WriterState) : Type 0 where
  pub job : Job
  pub job_of : IsJobOf known name job
  pub starts : List ℕ
  pub in_time : BeginInTime starts job
  pub fits : Fits (with_starts starts job)
  pub sink : Option ℕ
  pub asks : AsksSink job asked sink
  pub written : AppendsPrefix old.written new.written (sinks_text (with_starts starts job) sink)

-- a run is told as stalled of a job that the files tell: how its tasks stood is not said
pub record Stalls (known : Known) (name : List ℕ) : Type 0 where
  pub job : Job
  pub job_of : IsJobOf known name job

-- why a run failed
abbrev pub RunFails : {W : Type 0} → Known → List ℕ → Option (List ℕ) → (W → Option (List ℕ))
    → Watched W → Watched W → Failure → Type 0
RunFails known name asked contents old new found =
    FailsBy (IsUnanswered (Stalls known name) known name asked)
    (RunsPrefix known name asked (writer_state contents old) (writer_state contents new))
    contents old new found

-- how a run ends
abbrev pub RunEnds : {W : Type 0} → Explain → Known → List ℕ → Option (List ℕ) → Status
    → (W → Option (List ℕ)) → Watched W → Watched W → WriterState → WriterState → Type 0
RunEnds explain known name asked status contents old new before after =
    EndsBy explain
    (Runs known name asked (writer_state contents old) (writer_state contents new))
    (RunFails known name asked contents old new) status before after
