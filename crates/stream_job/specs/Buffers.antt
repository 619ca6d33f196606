-- Places in which blocks are made.
use Rattle.std.specs.Prelude.{ℕ, ◌<◌, ◌≤◌, length, max}
use Rattle.graph_base.specs.Graphs.{task_at}
use Rattle.stream_lists.specs.Jobs.{Job}
use Rattle.stream_job.specs.declared.buffers.TheConstants.{OWN_STEPS}

-- how many steps a turn of task t makes at most, whether its line names a block or not
abbrev pub most_steps : Job → ℕ → ℕ
most_steps job t = max OWN_STEPS (task_at job.graph t).block

-- so many places are enough for a turn of each task
abbrev pub HasPlaces : Job → ℕ → Type 0
HasPlaces job room = (t : ℕ) → t < length job.graph.tasks → most_steps job t ≤ room
