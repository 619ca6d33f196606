-- What a run of a job has told.
use Rattle.std.specs.Prelude.{◌≡◌, ℕ, ◌≤◌, List, map, get_or, Some, Ok}
use Rattle.std.specs.List.{All}
use Rattle.graph_base.specs.Graphs.{task_at}
use Rattle.stream_eval.specs.Results.{sink_values}
use Rattle.stream_eval.specs.declared.whole.Lines.{Lines}
use Rattle.stream_lists.specs.Jobs.{Job, with_starts}
use Rattle.stream_lists.specs.Lists.{start_in}
use Rattle.stream_lists.specs.Ranges.{answer_of}
use Rattle.stream_lists.specs.Spans.{lengths_of}

-- the lines are the answer of a job for some starts of its sinks that join now, and each of these
-- tells where it began: at most one phase behind the last of its phaser's list
pub record AreLinesOf (job : Job) (lines : List Lines) : Type 0 where
  pub starts : List ℕ
  pub answer : answer_of (with_starts starts job) ≡ Ok (map sink_values lines)
  pub told : All (λ line. line.start ≡ start_in (with_starts starts job) line.task) lines
  pub in_time : All (λ line. (start : ℕ) → line.start ≡ Some start
      → start ≤ get_or (lengths_of job) (get_or (task_at job.graph line.task).inputs 0 0) 0) lines
