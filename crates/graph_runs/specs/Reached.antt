-- What holds of each moment that turns alone lead to, from the opening on.
use Rattle.std.specs.Prelude.{◌≡◌, ℕ, ◌+◌, ◌<◌, ◌≤◌, Some, length}
use Rattle.std.specs.List.{All}
use Rattle.phase_base.specs.declared.entry.Entry.{Entry}
use Rattle.phase_history.specs.Histories.{members_of, start_of, IsAlive}
use Rattle.graph_base.specs.declared.line.Parent.{Parent}
use Rattle.graph_base.specs.declared.registration.Registration.{Registration}
use Rattle.graph_base.specs.Graphs.{task_at}
use Rattle.stream_lists.specs.Jobs.{Job}
use Rattle.graph_runs.specs.Moments.{Moment, HasRun, numbers_on}
use Rattle.graph_runs.specs.Openings.{HasOpened}
use Rattle.graph_runs.specs.Nexts.{HasChildrenToCome, registrations_at}

-- task t began on the phaser of this registration in its mode, where it is registered there
abbrev pub HasMode : Moment → ℕ → Registration → Type 0
HasMode m t r = (n : ℕ) (start : Entry) → m.number r.phaser t ≡ Some n
    → start_of (m.history r.phaser) n ≡ Some start → start.mode ≡ r.mode

-- each task began on each phaser in the mode that its line gives it there
abbrev pub HasModes : Job → Moment → Type 0
HasModes job m = (t : ℕ) → t < length job.graph.tasks → All (HasMode m t) (registrations_at job t)

-- a phaser has no more members than tasks have numbers there: its founder has left
abbrev pub HasOnlyTasks : Job → Moment → Type 0
HasOnlyTasks job m = (p : ℕ) → p < length job.graph.phasers
    → length (members_of (m.history p)) ≤ length (numbers_on job m p)

-- some task has this number on phaser p
abbrev pub IsOfTask : Job → Moment → ℕ → ℕ → Type 0
IsOfTask job m p n = (t : ℕ) × (t < length job.graph.tasks) × (m.number p t ≡ Some n)

-- each member of a phaser is a task
abbrev pub HasTaskMembers : Job → Moment → Type 0
HasTaskMembers job m = (p n : ℕ) → p < length job.graph.phasers → IsAlive (m.history p) n
    → IsOfTask job m p n

-- a run at its opening, whose founders have left, and whose tasks have the modes of their lines
pub record HasBegun (job : Job) (m : Moment) : Type 0 where
  pub opened : HasOpened job m
  pub modes : HasModes job m
  pub only_tasks : HasOnlyTasks job m
  pub members : HasTaskMembers job m
  pub offset : (c : ℕ) (u : Parent) → c < length job.graph.tasks
      → (task_at job.graph c).parent ≡ Some u → m.offset c ≡ m.offset u.task + u.at

-- what the opening has, and every turn keeps
pub record IsReachable (job : Job) (m : Moment) : Type 0 where
  pub ran : HasRun job m
  pub modes : HasModes job m
  pub only_tasks : HasOnlyTasks job m
  pub members : HasTaskMembers job m
  pub to_come : HasChildrenToCome job m
