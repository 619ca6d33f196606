-- What a task leaves behind, and what the end of a run knows of it.
use Rattle.std.specs.Prelude.{◌≡◌, ℕ, ℤ, ◌<◌, ◌≤◌, get_or, List, [], ◌∷◌, length, map, slice_get, Option, Some, None, Bool, true, false, ◌==◌, if◌then◌else◌}
use Rattle.phase_history.specs.Legal.{IsLegal}
use Rattle.graph_base.specs.Graphs.{phaser_at}
use Rattle.stream_lists.specs.Jobs.{Job}
use Rattle.graph_runs.specs.Moments.{Moment, limits_at}
use Rattle.stream_members.specs.Members.{Spot, limits_on}
use Rattle.stream_members.specs.AnyMembers.{left_in, left_op}
use Rattle.stream_members.specs.declared.any_left.AnyLeft.{AnyLeft}
use Rattle.graph_runs.specs.TaskPlaces.{registration_at}
use Rattle.graph_runs.specs.TaskEnds.{TaskEnd, HasLeftAt, HasFoundedAndLeft}
use Rattle.stream_tasks.specs.Joinings.{IsPlaced}
use Rattle.stream_tasks.specs.declared.child.Child.{Child}
use Rattle.stream_tasks.specs.declared.ending.task_left.TaskKnowledge.{TaskKnowledge}
use Rattle.stream_tasks.specs.declared.ending.task_left.TaskLeft.{TaskLeft}
use Rattle.stream_tasks.specs.declared.task_state.TaskState.{TaskState}

-- a task that has left as many phasers as it has numbers, and met nothing that ends all
pub record IsGone (s : TaskState) : Type 0 where
  pub met : s.met ≡ false
  pub over : s.over ≡ true
  pub left : length s.numbers.items ≤ length s.lefts.items

-- what a task in this state leaves behind
abbrev pub left_by : TaskState → TaskLeft
left_by s = record {
  task = s.number;
  part = record {
    begun = s.begun;
    start = s.start;
    numbers = s.numbers;
    lines = s.lines;
    given = s.children;
  };
  lefts = s.lefts;
}

-- the numbers that were given to task c, and none where it stands nowhere
abbrev pub given_to : List Child → ℕ → List ℕ
given_to [] c = []
given_to (child ∷ more) c = if child.task == c then child.numbers.items else given_to more c

-- the end of a task that knows this of itself, and has seen this
abbrev pub task_end_of : ℕ → TaskKnowledge → List AnyLeft → TaskEnd
task_end_of t part lefts = record {
  task = t;
  begun = part.begun;
  start = part.start;
  numbers = part.numbers.items;
  seen = map (λ l. (left_in l).seen) lefts;
  lines = part.lines.items;
  given = given_to part.given.items;
}

-- one that left phaser p, whose place this is, as these numbers
pub record HasLeftAs (job : Job) (spots : ℕ → Spot) (p : ℕ) (numbers : List ℕ) (left : AnyLeft)
    : Type 0 where
  pub op : left_op left ≡ (phaser_at job.graph p).op
  pub at : (left_in left).at ≡ spots p
  pub limits : limits_on (spots p) ≡ limits_at job p
  pub numbers_are : (left_in left).numbers ≡ numbers

-- a task has left all its phasers, at a moment of its own
pub record IsTaskLeft (job : Job) (spots : ℕ → Spot) (left : TaskLeft) : Type 0 where
  pub there : left.task < length job.graph.tasks
  pub moment : Moment
  pub has_left : HasLeftAt job moment (task_end_of left.task left.part left.lefts.items)
  pub members : (i n : ℕ) (one : AnyLeft) → slice_get left.part.numbers.items i ≡ Some n
      → slice_get left.lefts.items i ≡ Some one
      → HasLeftAs job spots (registration_at job left.task i).phaser (n ∷ []) one

-- the founder of phaser p, number 0, gave these numbers and has left
pub record IsFounderLeft (job : Job) (spots : ℕ → Spot) (p : ℕ) (gave : List ℕ) (left : AnyLeft)
    : Type 0 where
  pub is_left : HasLeftAs job spots p (0 ∷ []) left
  pub legal : IsLegal (limits_at job p) (left_in left).seen
  pub founds : HasFoundedAndLeft (record { number = 0; gave = gave; seen = (left_in left).seen })

-- the founders of all phasers, which gave these numbers, have left
abbrev pub AreFoundersLeft : Job → (ℕ → Spot) → List (Option AnyLeft) → (ℕ → List ℕ) → Type 0
AreFoundersLeft job spots founders gave = (p : ℕ) → p < length job.graph.phasers
    → (founder : AnyLeft) × IsPlaced founders p founder × IsFounderLeft job spots p (gave p) founder

-- what a task has taken, and nothing where it never came
abbrev pub part_lines : Option TaskKnowledge → List ℤ
part_lines None = []
part_lines (Some part) = part.lines.items

-- the same of task t
abbrev pub lines_at : List (Option TaskKnowledge) → ℕ → List ℤ
lines_at parts t = part_lines (get_or parts t None)

-- where a task began that joins now and came
abbrev pub part_start : Bool → Option TaskKnowledge → Option ℕ
part_start true (Some part) = Some part.start
part_start joins_now part = None
