-- A task before it is registered, and what it has received of its founders.
use Rattle.std.specs.Prelude.{◌≡◌, ℕ, ◌<◌, ◌≤◌, List, [], length, slice_get, Some, false}
use Rattle.graph_base.specs.declared.line.Parent.{Parent}
use Rattle.graph_base.specs.Graphs.{task_at}
use Rattle.stream_lists.specs.Jobs.{Job, samples_at}
use Rattle.stream_members.specs.Members.{Spot}
use Rattle.stream_members.specs.AnyMembers.{member_in}
use Rattle.stream_members.specs.declared.any_member.AnyMember.{AnyMember}
use Rattle.graph_runs.specs.Steps.{HasFilter}
use Rattle.graph_runs.specs.declared.owed.Owed.TheVariants.{Nothing}
use Rattle.stream_tasks.specs.Openings.{IsRootMember}
use Rattle.stream_tasks.specs.Tasks.{AreDistinctChildren, DealsNothing, HasStepPlaces}
use Rattle.stream_tasks.specs.declared.child.Child.{Child}
use Rattle.stream_tasks.specs.declared.hold.Hold.{Hold}
use Rattle.stream_tasks.specs.declared.hold.Hold.TheVariants.{On}
use Rattle.stream_tasks.specs.declared.seed.Seed.{Seed}
use Rattle.stream_tasks.specs.declared.task_state.TaskState.{TaskState}

-- ---- children

-- a child of task t, none of whose registrations is made
pub record HasNoRegistration (job : Job) (t : ℕ) (child : Child) : Type 0 where
  pub there : child.task < length job.graph.tasks
  pub parent : Parent
  pub has : (task_at job.graph child.task).parent ≡ Some parent
  pub by : parent.task ≡ t
  pub at : child.at ≡ parent.at
  pub none : child.numbers.items ≡ []

-- the children of task t among the first n tasks
pub record AreChildrenBelow (job : Job) (t n : ℕ) (children : List Child) : Type 0 where
  pub each : (i : ℕ) (child : Child) → slice_get children i ≡ Some child
      → HasNoRegistration job t child
  pub all : (c : ℕ) (u : Parent) → c < n → (task_at job.graph c).parent ≡ Some u → u.task ≡ t
      → (i : ℕ) × ((child : Child) × (slice_get children i ≡ Some child) × (child.task ≡ c)
      × (child.at ≡ u.at))
  pub below : (i : ℕ) (child : Child) → slice_get children i ≡ Some child → child.task < n
  pub apart : AreDistinctChildren children

-- ---- seeds

-- what is in a seed
abbrev pub seed_state : Seed → TaskState
seed_state seed = seed.state

-- the state of a task that has done nothing, and knows its children
pub record IsSeed (job : Job) (s : TaskState) : Type 0 where
  pub there : s.number < length job.graph.tasks
  pub samples : s.samples.now ≡ samples_at job s.number
  pub begun : s.begun ≡ 0
  pub owed : s.owed ≡ Nothing
  pub made : s.made.items ≡ []
  pub dealt : DealsNothing s
  pub places : HasStepPlaces job s
  pub filter : HasFilter (task_at job.graph s.number) s.filter []
  pub lines : s.lines.items ≡ []
  pub lefts : s.lefts.items ≡ []
  pub staying : s.over ≡ false
  pub met_none : s.met ≡ false
  pub children : AreChildrenBelow job s.number (length job.graph.tasks) s.children.items

-- there is room for so many registrations
pub record HasRegistrationRoom (n : ℕ) (s : TaskState) : Type 0 where
  pub holds : n ≤ s.holds.cap
  pub numbers : n ≤ s.numbers.capacity
  pub lefts : n ≤ s.lefts.cap

-- registration i of a root, as its founder has made it
pub record HasRegistration (job : Job) (spots : ℕ → Spot) (t i : ℕ) (holds : List Hold)
    (numbers : List ℕ) : Type 0 where
  pub member : AnyMember
  pub hold : slice_get holds i ≡ Some (On member)
  pub number : slice_get numbers i ≡ Some (member_in member).number
  pub root : IsRootMember job spots t i member

-- a root has received the first of its registrations
pub record HasReceivedFirst (job : Job) (spots : ℕ → Spot) (s : TaskState) : Type 0 where
  pub long : length s.numbers.items ≡ length s.holds.items
  pub each : (i : ℕ) → i < length s.holds.items
      → HasRegistration job spots s.number i s.holds.items s.numbers.items

-- a root has received its first n registrations, and there is room for the others
pub record IsReadySeed (job : Job) (spots : ℕ → Spot) (n : ℕ) (s : TaskState) : Type 0 where
  pub seed : IsSeed job s
  pub room : HasRegistrationRoom 9 s
  pub received : HasReceivedFirst job spots s
  pub many : length s.holds.items ≡ n
