-- What a job keeps.
use Rattle.std.specs.Prelude.{◌≡◌, ◌≤◌, ◌+◌, ℕ, ℤ, List, [], length, map, Vec, None}
use Rattle.std.specs.Global.{Global}
use Rattle.std.specs.List.{All}
use Rattle.phase_accum.specs.Sends.{AreSends}
use Rattle.graph_base.specs.Graphs.{Graph, sources_of}
use Rattle.graph_base.specs.TaskLines.{IsGraph}
use Rattle.graph_base.specs.declared.limits.TheConstants.{PHASERS_MAX}
use Rattle.stream_lists.specs.Jobs.{Job, counted}
use Rattle.stream_lists.specs.Spans.{spans_of, lengths_of, lengths_up_to}
use Rattle.stream_lists.specs.Meetings.{meeting_line}
use Rattle.stream_lists.specs.declared.span.Span.{Span}
use Rattle.stream_lists.specs.declared.span.TheConstants.{LENGTH_MAX}
use Rattle.stream_lists.specs.declared.sample_counts.TheConstants.{COUNT_MAX}
use Rattle.stream_lists.specs.declared.job.Job.TheInside.{Inside}

-- what a job stands for
abbrev pub JobValue : Type 0
JobValue = Job

-- the values of each list
abbrev pub items_of : List (Vec ℤ Global) → List (List ℤ)
items_of lists = map (λ list. list.items) lists

-- a graph with these samples, whose sinks that join now begin at the least phase that they may
abbrev pub given : Graph → List (Vec ℤ Global) → Job
given graph samples =
    record { graph = graph; samples = items_of samples; starts = [] }

-- the graph and the samples that a job keeps
abbrev pub job_view : Inside → JobValue
job_view job = given job.graph job.samples.items

-- the task ends within the phases that a list may have
abbrev pub IsShort : Span → Type 0
IsShort span = span.offset + span.steps ≤ LENGTH_MAX

-- a u64 counts the phases before the task begins
abbrev pub IsCounted : Span → Type 0
IsCounted span = span.offset ≤ 18446744073709551615

-- a graph that was read and no more samples of a source than there may be, with the lengths of the
-- lists of its first phasers
pub record IsStage (graph : Graph) (counts lengths : List ℕ) : Type 0 where
  pub read : IsGraph graph
  pub few : All (λ n. n ≤ COUNT_MAX) counts
  pub count : ℕ
  pub count_few : count ≤ PHASERS_MAX
  pub are : lengths ≡ lengths_up_to (counted graph counts) count

-- what holds of every job
pub record IsJob (job : Inside) : Type 0 where
  pub each : length job.samples.items ≡ sources_of job.graph
  pub spans_are : job.spans.items ≡ spans_of (job_view job)
  pub lengths_are : job.lengths.items ≡ lengths_of (job_view job)
  pub span_each : length job.spans.items ≡ length job.graph.tasks
  pub length_each : length job.lengths.items ≡ length job.graph.phasers
  pub short : All IsShort job.spans.items
  pub counted : All IsCounted job.spans.items
  pub length_short : All (λ n. n ≤ LENGTH_MAX) job.lengths.items
  pub sends : All (λ list. AreSends list.items) job.samples.items
  pub apart : meeting_line (job_view job) ≡ None
