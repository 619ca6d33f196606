-- What the tasks of a run leave behind.
use Rattle.std.specs.Prelude.{ℕ, List, Option}
use Rattle.stream_lists.specs.Jobs.{Job}
use Rattle.stream_members.specs.Members.{Spot}
use Rattle.stream_tasks.specs.declared.ending.task_left.TaskLeft.{TaskLeft}
use Rattle.stream_tasks.specs.Joinings.{IsPlaced}
use Rattle.stream_tasks.specs.TaskLefts.{IsTaskLeft}

-- each of these that came has left all its phasers
abbrev pub AreTasksLeft : Job → (ℕ → Spot) → List (Option TaskLeft) → Type 0
AreTasksLeft job spots tasks = (t : ℕ) (left : TaskLeft) → IsPlaced tasks t left
    → IsTaskLeft job spots left
