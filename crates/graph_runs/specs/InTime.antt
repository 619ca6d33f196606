-- Where a sink that joins now may begin.
use Rattle.std.specs.Prelude.{◌≡◌, ◌≤◌, ℕ, Some, get_or}
use Rattle.graph_base.specs.Graphs.{task_at}
use Rattle.stream_lists.specs.Jobs.{Job}
use Rattle.stream_lists.specs.Lists.{start_in}
use Rattle.stream_lists.specs.Spans.{lengths_of}
use Rattle.graph_runs.specs.Moments.{input_at}

-- task t, where it is a sink that joins now, begins at most one phase behind the last of its
-- phaser's list
abbrev pub BeginsInTime : Job → ℕ → Type 0
BeginsInTime job t = (start : ℕ) → start_in job t ≡ Some start
    → start ≤ get_or (lengths_of job) (input_at (task_at job.graph t) 0) 0
