-- What the code keeps of a task between threads: its children, its seed, and what it holds.
use Rattle.std.specs.Prelude.{◌≡◌, ◌≢◌, ℕ, ◌+◌, ◌<◌, ◌≤◌, ℤ, List, [], ◌∷◌, ◌++◌, length, map, slice_get, slice_set, Option, Some, None, true, false}
use Rattle.std.specs.List.{All}
use Rattle.stream_lists.specs.Jobs.{Job}
use Rattle.graph_runs.specs.Moments.{Moment}
use Rattle.phase_accum.specs.declared.outcome.Outcome.{Outcome}
use Rattle.stream_filters.specs.Filter.{FirState}
use Rattle.stream_members.specs.Members.{Spot}
use Rattle.graph_runs.specs.TaskPlaces as turns
use Rattle.graph_runs.specs.TaskPlaces.{registration_at}
use Rattle.stream_lists.specs.Lists.{number}
use Rattle.stream_lists.specs.Ranges.{is_too_big}
use Rattle.stream_members.specs.AnyMembers.{member_in}
use Rattle.stream_members.specs.declared.any_member.AnyMember.{AnyMember}
use Rattle.graph_base.specs.declared.registration.Registration.{Registration}
use Rattle.graph_runs.specs.Nexts.{registrations_at, is_cut}
use Rattle.graph_runs.specs.declared.owed.Owed.{Owed}
use Rattle.graph_runs.specs.declared.owed.Owed.TheVariants.{Nothing}
use Rattle.graph_base.specs.declared.line.Kind.TheVariants.{Fir}
use Rattle.graph_base.specs.declared.line.Parent.{Parent}
use Rattle.graph_base.specs.Graphs.{task_at}
use Rattle.graph_runs.specs.Places.{HasChildrenBy}
use Rattle.graph_runs.specs.Steps.{HasFilter}
use Rattle.stream_tasks.specs.declared.child.Child.{Child}
use Rattle.stream_tasks.specs.declared.task_state.TaskState.{TaskState}
use Rattle.stream_tasks.specs.declared.hold.Hold.TheVariants.{On}
use Rattle.stream_tasks.specs.Registering.{IsRegistering}
use Rattle.stream_tasks.specs.Tasks.{IsOwnTaskAt, IsTask, OwesNothing, owed_by}

-- registration k of task t is on phaser p
pub record IsPlaceOn (job : Job) (t p k : ℕ) : Type 0 where
  pub few : k < length (registrations_at job t)
  pub here : (registration_at job t k).phaser ≡ p

-- there is room for another registration of the child at this place
pub record HasChildRoom (s : TaskState) (i : ℕ) : Type 0 where
  pub numbers : (kid : Child) → slice_get s.children.items i ≡ Some kid
      → length kid.numbers.items + 1 ≤ kid.numbers.capacity
  pub child_holds : length s.child_holds.items < s.child_holds.cap

-- another registration of the child at this place is kept, and where the child begins
pub record HasKept (i : ℕ) (child : AnyMember) (start : ℕ) (old new : TaskState) : Type 0 where
  pub before : Child
  pub kid : Child
  pub found : slice_get old.children.items i ≡ Some before
  pub kids : new.children.items ≡ slice_set old.children.items i kid
  pub task : kid.task ≡ before.task
  pub at : kid.at ≡ before.at
  pub numbers : kid.numbers.items ≡ before.numbers.items ++ (member_in child).number ∷ []
  pub start_is : kid.start ≡ start
  pub child_holds : new.child_holds.items ≡ old.child_holds.items ++ On child ∷ []
  pub rest : new ≡ record old { children = new.children; child_holds = new.child_holds }

-- the next registration of the child is this one, and registration k of the task is on its phaser
pub record IsNextOn (job : Job) (spots : ℕ → Spot) (s : TaskState) (i k : ℕ) (r : Registration)
    : Type 0 where
  pub registering : IsRegistering job spots s i
  pub room : length registering.kid.numbers.items
      < length (registrations_at job registering.kid.task)
  pub is : r ≡ registration_at job registering.kid.task (length registering.kid.numbers.items)
  pub on : IsPlaceOn job s.number r.phaser k

-- the child joins now and has no registration yet: its first is on phaser p, and registration k of
-- the task is there
pub record IsNextNow (job : Job) (spots : ℕ → Spot) (s : TaskState) (i k p : ℕ) : Type 0 where
  pub registering : IsRegistering job spots s i
  pub none : registering.kid.numbers.items ≡ []
  pub now : (task_at job.graph registering.kid.task).joins_now ≡ true
  pub first : (registration_at job registering.kid.task 0).phaser ≡ p
  pub on : IsPlaceOn job s.number p k

-- whether task c is a child of task t, and after how many steps it comes
abbrev pub TellsChild : Job → ℕ → ℕ → Option ℕ → Type 0
TellsChild job t c (Some at) =
    (u : Parent) × ((task_at job.graph c).parent ≡ Some u) × (u.task ≡ t) × (at ≡ u.at)
TellsChild job t c None = (u : Parent) → (task_at job.graph c).parent ≡ Some u → u.task ≢ t

-- the children of a task that come now are all there, whichever its moment
abbrev pub HasChildrenNow : Job → TaskState → Type 0
HasChildrenNow job s = (spots : ℕ → Spot) (m : Moment) → IsOwnTaskAt job spots m s
    → HasChildrenBy job m s.number s.begun

-- a task at a boundary where no child comes first, and `until` allows a step
pub record MayStep (job : Job) (s : TaskState) : Type 0 where
  pub spots : ℕ → Spot
  pub task : IsTask job spots s
  pub met : s.met ≡ false
  pub over : s.over ≡ false
  pub owed : OwesNothing s
  pub uncut : is_cut (task_at job.graph s.number).until s.begun ≡ false
  pub children : HasChildrenNow job s

-- none of these children that comes later does before the last of so many steps
abbrev pub ChildrenAllow : List Child → ℕ → ℕ → Type 0
ChildrenAllow children begun steps = (i : ℕ) (child : Child) → slice_get children i ≡ Some child
    → begun < child.at → begun + steps ≤ child.at

-- task t, which began so many steps before, has taken these outcomes of the first wait of as many
-- steps: none is out of range, and this is what the steps owe next
pub record HasTakenFirst (job : Job) (t begun : ℕ) (outcomes : List Outcome)
    (old new : Option FirState) (owed : Owed) (made : List ℤ) : Type 0 where
  pub fit : All (λ outcome. is_too_big outcome ≡ false) outcomes
  pub owes : (taken : List ℤ) → HasFilter (task_at job.graph t) old taken
      → owed_by owed made
      ≡ turns.owed_after_wait (task_at job.graph t) begun taken (map number outcomes)
  pub filter : (taken : List ℤ) → HasFilter (task_at job.graph t) old taken
      → HasFilter (task_at job.graph t) new (taken ++ map number outcomes)
  pub filters : (task_at job.graph t).kind ≡ Fir → owed ≡ Nothing
  pub others : (task_at job.graph t).kind ≢ Fir → made ≡ []
