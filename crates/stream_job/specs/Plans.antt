-- What the turns of a task ask of the lines of its graph.
use Rattle.std.specs.Prelude.{◌≡◌, ℕ, ◌<◌, ◌≤◌, Bool, false, ◌==◌, List, Option, Some, None, length, slice_get}
use Rattle.std.specs.List.{filter, range_with_len}
use Rattle.graph_base.specs.declared.line.Parent.{Parent}
use Rattle.graph_base.specs.Graphs.{source_number, task_at}
use Rattle.stream_lists.specs.Jobs.{Job}
use Rattle.stream_job.specs.declared.plan.Plan.{Plan}
use Rattle.stream_job.specs.declared.plan.TaskPlan.{TaskPlan}

-- whether a line's parent is task t
abbrev pub is_child_of : ℕ → Option Parent → Bool
is_child_of t None = false
is_child_of t (Some parent) = parent.task == t

-- the children of task t, in the order of the lines
abbrev pub children_of : Job → ℕ → List ℕ
children_of job t =
    filter (λ c. is_child_of t (task_at job.graph c).parent)
    (range_with_len 0 (length job.graph.tasks))

-- from so many steps of task t on, and before `to`, no child of it comes
abbrev pub NoneComes : Job → ℕ → ℕ → ℕ → Type 0
NoneComes job t from to =
    (c : ℕ) → c < length job.graph.tasks → (parent : Parent)
    → (task_at job.graph c).parent ≡ Some parent → parent.task ≡ t → from ≤ parent.at
    → to ≤ parent.at

-- of task t
pub record IsTaskPlan (job : Job) (t : ℕ) (plan : TaskPlan) : Type 0 where
  pub children : plan.children.items ≡ children_of job t
  pub source : plan.source ≡ source_number job.graph.tasks t
  pub none : NoneComes job t plan.from plan.to

-- of each task of a job
pub record IsPlan (job : Job) (plan : Plan) : Type 0 where
  pub many : length plan.tasks.items ≡ length job.graph.tasks
  pub each : (t : ℕ) (one : TaskPlan) → slice_get plan.tasks.items t ≡ Some one
      → IsTaskPlan job t one
