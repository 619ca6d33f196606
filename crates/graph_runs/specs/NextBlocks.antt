-- How many steps the next block of a task has: at most so many as are allowed, or as its line
-- names, none past its `until`, and none past the boundary of a child that is still to come.
use Rattle.std.specs.Prelude.{◌≡◌, ℕ, ◌-◌, ◌<◌, ◌≤◌, ◌==◌, ◌&&◌, Option, Some, None, length, min, nat_lt, if◌then◌else◌}
use Rattle.std.specs.List.{range_with_len, fold}
use Rattle.graph_base.specs.declared.line.Kind.TheVariants.{Fir}
use Rattle.graph_base.specs.declared.line.Parent.{Parent}
use Rattle.graph_base.specs.Graphs.{Graph, Task, task_at}
use Rattle.graph_base.specs.TaskLines.{HasBlock}
use Rattle.stream_lists.specs.Jobs.{Job, samples_at}
use Rattle.graph_runs.specs.Moments.{Moment}

-- so many steps, of which `until` allows some after those that were begun
abbrev pub until_allows : Option ℕ → ℕ → ℕ → ℕ
until_allows None begun steps = steps
until_allows (Some until) begun steps = min steps (until - begun)

-- so many steps, but none past the boundary of this line's task, where it is a later child of task
-- t
abbrev pub child_allows : ℕ → ℕ → Option Parent → ℕ → ℕ
child_allows t begun None steps = steps
child_allows t begun (Some parent) steps =
    if parent.task == t && nat_lt begun parent.at then min steps (parent.at - begun) else steps

-- the steps of the next block of task t, at most so many
abbrev pub block_up_to : ℕ → Job → Moment → ℕ → ℕ
block_up_to most job m t =
    fold (λ steps c. child_allows t (m.begun t) (task_at job.graph c).parent steps)
    (until_allows (task_at job.graph t).until (m.begun t) most)
    (range_with_len 0 (length job.graph.tasks))

-- at most as many as its line names
abbrev pub block_of : Job → Moment → ℕ → ℕ
block_of job m t = block_up_to (task_at job.graph t).block job m t

-- of a source: at most the samples that are left
abbrev pub sample_block_up_to : ℕ → Job → Moment → ℕ → ℕ
sample_block_up_to most job m t =
    min (block_up_to most job m t) (length (samples_at job t) - m.begun t)

-- at most as many as its line names
abbrev pub sample_block_of : Job → Moment → ℕ → ℕ
sample_block_of job m t = sample_block_up_to (task_at job.graph t).block job m t

-- ---- the sizes of a turn

-- the task of a line, were this its block
abbrev pub with_block : ℕ → Task → Task
with_block many task = record task { block = many }

-- a turn of task t may make so many steps at most, and signal so many at most of the values that
-- the task owes: each a block that its line may name, and what the steps of a filter make is
-- signalled by one turn
pub record AreSizes (graph : Graph) (t steps most : ℕ) : Type 0 where
  pub block : HasBlock graph (with_block steps (task_at graph t))
  pub owed : HasBlock graph (with_block most (task_at graph t))
  pub few : (task_at graph t).kind ≡ Fir → steps ≤ most

-- the same, where there is such a task
abbrev pub MaySize : Graph → ℕ → ℕ → ℕ → Type 0
MaySize graph t steps most = t < length graph.tasks → AreSizes graph t steps most
