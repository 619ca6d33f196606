-- What is compared of what the tasks and the founders know of one another.
use Rattle.std.specs.Prelude.{◌≡◌, ℕ, ◌<◌, ◌≤◌, List, [], length, slice_get, Option, Some, None, true, ◌⊎◌}
use Rattle.phase_base.specs.Lists.{is_in}
use Rattle.graph_base.specs.declared.line.Parent.{Parent}
use Rattle.graph_base.specs.Graphs.{task_at}
use Rattle.stream_lists.specs.Jobs.{Job}
use Rattle.graph_runs.specs.Nexts.{registrations_at}
use Rattle.graph_runs.specs.TaskPlaces.{registration_at}
use Rattle.stream_tasks.specs.declared.ending.task_left.TaskKnowledge.{TaskKnowledge}
use Rattle.stream_tasks.specs.Joinings.{IsPlaced}
use Rattle.stream_tasks.specs.TaskLefts.{given_to}

-- task c came where it has no parent; where it came, its parent did, and has begun the steps after
-- which it comes; and where its parent gave it numbers, it came with just these
pub record Agrees (job : Job) (parts : List (Option TaskKnowledge)) (c : ℕ) : Type 0 where
  pub root : (task_at job.graph c).parent ≡ None → (part : TaskKnowledge) × IsPlaced parts c part
  pub parent : (u : Parent) (part : TaskKnowledge) → IsPlaced parts c part
      → (task_at job.graph c).parent ≡ Some u
      → (other : TaskKnowledge) × IsPlaced parts u.task other × (u.at ≤ other.begun)
  pub given : (u : Parent) (part : TaskKnowledge) → (task_at job.graph c).parent ≡ Some u
      → IsPlaced parts u.task part
      → (given_to part.given.items c ≡ [])
      ⊎ ((other : TaskKnowledge) × IsPlaced parts c other
      × (other.numbers.items ≡ given_to part.given.items c))

-- task t, which knows this of itself, has number a on phaser p
pub record HasNumberOn (job : Job) (part : TaskKnowledge) (t p a : ℕ) : Type 0 where
  pub i : ℕ
  pub few : i < length (registrations_at job t)
  pub phaser : (registration_at job t i).phaser ≡ p
  pub number : slice_get part.numbers.items i ≡ Some a

-- some task that came has number a on phaser p
pub record IsNumberOfTask (job : Job) (parts : List (Option TaskKnowledge)) (p a : ℕ) : Type 0 where
  pub task : ℕ
  pub there : task < length job.graph.tasks
  pub part : TaskKnowledge
  pub came : IsPlaced parts task part
  pub has : HasNumberOn job part task p a

-- each of these numbers is a task's on phaser p
abbrev pub AreOfTasks : Job → List (Option TaskKnowledge) → ℕ → List ℕ → Type 0
AreOfTasks job parts p gave = (a : ℕ) → is_in a gave ≡ true → IsNumberOfTask job parts p a
