use Rattle.std.proofs.Common.{◌≡◌, ℕ, Some, length}
use Rattle.std.specs.Prelude.{slice_get}
use Rattle.stream_job.specs.Plans.{IsTaskPlan}
use Rattle.stream_job.specs.declared.plan.TaskPlan.{TaskPlan}
use Rattle.stream_job.proofs.plan.Plan.new.Given as goal

-- the plans of the tasks before this one
abbrev pub invariant-loop-t : goal.invariant-loop-t
invariant-loop-t l =
    (length l.tasks.items ≡ l.t)
    × ((t : ℕ) (one : TaskPlan) → slice_get l.tasks.items t ≡ Some one → IsTaskPlan l.job t one)
