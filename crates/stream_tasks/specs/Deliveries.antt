-- A child whose registrations are all made goes on as a task of its own.
use Rattle.std.specs.Prelude.{◌≡◌, ℕ, ◌≤◌, ◌++◌, length, slice_get, Some}
use Rattle.stream_lists.specs.Jobs.{Job}
use Rattle.graph_runs.specs.Nexts.{registrations_at}
use Rattle.stream_tasks.specs.declared.child.Child.{Child}
use Rattle.stream_tasks.specs.declared.task_state.TaskState.{TaskState}

-- the child at this place is task c, and has all its registrations, which are at most nine
pub record IsRegisteredChild (job : Job) (s : TaskState) (i c : ℕ) : Type 0 where
  pub kid : Child
  pub found : slice_get s.children.items i ≡ Some kid
  pub task : kid.task ≡ c
  pub all : length (registrations_at job c) ≤ length kid.numbers.items
  pub few : length (registrations_at job c) ≤ 9

-- the child at this place goes on from its seed, with its numbers and with what it holds of its
-- phasers, and its parent has the seed's empty list for the next child
pub record HasDelivered (i : ℕ) (seed old new child : TaskState) : Type 0 where
  pub kid : Child
  pub found : slice_get old.children.items i ≡ Some kid
  pub numbers : child.numbers.items ≡ seed.numbers.items ++ kid.numbers.items
  pub child_is : child ≡ record seed {
    numbers = child.numbers;
    holds = old.child_holds;
    start = kid.start;
  }
  pub parent_is : new ≡ record old { child_holds = seed.holds }
