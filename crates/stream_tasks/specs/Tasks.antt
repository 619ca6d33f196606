-- What the code of a task keeps: a moment of the task's own, at which each of its registrations has
-- just the history that it has seen.
use Rattle.std.specs.Prelude.{◌≡◌, ◌≢◌, ◌⊎◌, ℕ, ◌<◌, ◌≤◌, ℤ, List, [], ◌∷◌, length, map, get_or, slice_get, Some, Ok, true, false}
use Rattle.graph_base.specs.declared.line.Parent.{Parent}
use Rattle.graph_base.specs.declared.line.Kind.{Kind}
use Rattle.graph_base.specs.declared.line.Kind.TheVariants.{Decimate, Fir, Join, Sink, Source, Split}
use Rattle.graph_base.specs.Graphs.{task_at, phaser_at}
use Rattle.graph_base.specs.TaskLines.{IsGraph}
use Rattle.stream_lists.specs.Jobs.{Job, samples_at}
use Rattle.graph_runs.specs.Moments.{Moment, HasEnded, limits_at}
use Rattle.stream_members.specs.Members.{Spot, limits_on}
use Rattle.stream_members.specs.AnyMembers.{member_in, member_op, left_in, left_op, room_for}
use Rattle.stream_members.specs.declared.any_member.AnyMember.{AnyMember}
use Rattle.stream_members.specs.declared.any_left.AnyLeft.{AnyLeft}
use Rattle.stream_members.specs.declared.places.Places.{Places}
use Rattle.graph_runs.specs.Answers.{output_at}
use Rattle.graph_runs.specs.Nexts.{registrations_at}
use Rattle.graph_runs.specs.TaskPlaces as turns
use Rattle.graph_runs.specs.TaskPlaces.{TaskPlace, StandsUpTo, registration_at}
use Rattle.graph_runs.specs.TaskEnds.{HasOwnCalls, HasNumbers, IsChildOf}
use Rattle.graph_runs.specs.Steps.{owed_of, HasFilter}
use Rattle.graph_runs.specs.declared.owed.Owed.{Owed}
use Rattle.graph_runs.specs.declared.owed.Owed.TheVariants.{Nothing}
use Rattle.graph_runs.specs.Parts.{HasPart}
use Rattle.graph_runs.specs.Places.{HasChildrenBy, IsMost, KnowsOthers}
use Rattle.stream_tasks.specs.Deals.{HasDealRoom, IsDealing, ServesOutputs}
use Rattle.stream_tasks.specs.declared.child.Child.{Child}
use Rattle.stream_tasks.specs.declared.hold.Hold.{Hold}
use Rattle.stream_tasks.specs.declared.hold.Hold.TheVariants.{On, Gone}
use Rattle.stream_tasks.specs.declared.task_state.TaskState.{TaskState}

-- ---- registrations

-- at this moment a registration is that of task t on phaser p, and has seen the phaser's history
pub record IsOn (job : Job) (spots : ℕ → Spot) (m : Moment) (t p : ℕ) (x : AnyMember) : Type
    0 where
  pub op : member_op x ≡ (phaser_at job.graph p).op
  pub at : (member_in x).at ≡ spots p
  pub limits : limits_on (spots p) ≡ limits_at job p
  pub numbered : m.number p t ≡ Some (member_in x).number
  pub seen : (member_in x).seen ≡ m.history p

-- the same of a task that has left the phaser
pub record HasLeftOn (job : Job) (spots : ℕ → Spot) (m : Moment) (t p : ℕ) (l : AnyLeft) : Type
    0 where
  pub op : left_op l ≡ (phaser_at job.graph p).op
  pub at : (left_in l).at ≡ spots p
  pub limits : limits_on (spots p) ≡ limits_at job p
  pub number : ℕ
  pub numbered : m.number p t ≡ Some number
  pub numbers : (left_in l).numbers ≡ number ∷ []
  pub seen : (left_in l).seen ≡ m.history p

-- a hold has such a registration
abbrev pub IsHeldOn : Job → (ℕ → Spot) → Moment → ℕ → ℕ → Hold → Type 0
IsHeldOn job spots m t p (On x) = IsOn job spots m t p x
IsHeldOn job spots m t p Gone = ⊥

-- task t has these holds, and has left the first of its phasers
pub record HasHolds (job : Job) (spots : ℕ → Spot) (m : Moment) (t : ℕ) (holds : List Hold)
    (lefts : List AnyLeft) : Type 0 where
  pub on : (i : ℕ) → i < length (registrations_at job t) → length lefts ≤ i
      → IsHeldOn job spots m t (registration_at job t i).phaser (get_or holds i Gone)
  pub off : (i : ℕ) (left : AnyLeft) → slice_get lefts i ≡ Some left
      → HasLeftOn job spots m t (registration_at job t i).phaser left

-- ---- children

-- a child of task t, and after how many of its steps it comes
pub record IsTaskChild (job : Job) (t : ℕ) (child : Child) : Type 0 where
  pub of_task : IsChildOf job child.task t
  pub at : child.at ≡ of_task.parent.at

-- no two of these children are the same task
abbrev pub AreDistinctChildren : List Child → Type 0
AreDistinctChildren children = (i j : ℕ) (x y : Child) → slice_get children i ≡ Some x
    → slice_get children j ≡ Some y → x.task ≡ y.task → i ≡ j

-- these are the children of task t, each of them once
pub record KnowsChildren (job : Job) (t : ℕ) (children : List Child) : Type 0 where
  pub each : (i : ℕ) (child : Child) → slice_get children i ≡ Some child → IsTaskChild job t child
  pub all : (c : ℕ) (u : Parent) → c < length job.graph.tasks
      → (task_at job.graph c).parent ≡ Some u → u.task ≡ t
      → (i : ℕ) × ((child : Child) × (slice_get children i ≡ Some child) × (child.task ≡ c)
      × (child.at ≡ u.at))
  pub apart : AreDistinctChildren children

-- each of these children has the numbers that its parent gave it, and no others
abbrev pub HasGivenNumbers : Job → Moment → List Child → Type 0
HasGivenNumbers job m children = (i : ℕ) (child : Child) → slice_get children i ≡ Some child
    → HasNumbers job m child.task child.numbers.items

-- ---- what is owed

-- the kinds whose steps may owe several values on their one output: what a filter makes of a block,
-- what a decimator keeps of one, and what a joiner has taken value by value
abbrev pub MakesMany : Kind → Type 0
MakesMany Fir = Unit {0}
MakesMany Decimate = Unit {0}
MakesMany Join = Unit {0}
MakesMany kind = ⊥

-- what is owed of the steps of a task: what such a one has made, or else this
abbrev pub owed_by : Owed → List ℤ → turns.Owed
owed_by owed [] = owed_of owed
owed_by owed (v ∷ vs) = turns.values 0 (map (λ x. Ok x) (v ∷ vs))

-- it has nothing to deal
abbrev pub DealsNothing : TaskState → Type 0
DealsNothing s = s.deal.values.items ≡ []

-- it owes nothing
abbrev pub OwesNothing : TaskState → Type 0
OwesNothing s = (s.owed ≡ Nothing) × (s.made.items ≡ []) × DealsNothing s

-- ---- the whole

-- the place of a task in this state
abbrev pub place_of_state : TaskState → TaskPlace
place_of_state s = record {
  numbers = s.numbers.items;
  left = length s.lefts.items;
  begun = s.begun;
  owed = owed_by s.owed s.made.items;
}

-- a task in this state deals what it has taken
abbrev pub DealsAt : Job → Moment → TaskState → Type 0
DealsAt job m s =
    IsDealing job m s.number s.numbers.items s.begun s.deal.turn s.deal.values.items

-- a task that makes no further step has ended: it owes nothing, and its children that come now are
-- all there
pub record IsAtEnd (job : Job) (m : Moment) (s : TaskState) : Type 0 where
  pub ended : HasEnded job m s.number
  pub nothing_owed : owed_by s.owed s.made.items ≡ turns.nothing
  pub nothing_dealt : DealsNothing s
  pub children : HasChildrenBy job m s.number s.begun

-- a task in this state at a moment of its own
pub record IsOwnTaskAt (job : Job) (spots : ℕ → Spot) (m : Moment) (s : TaskState) : Type 0 where
  pub part : HasPart job m s.number
  pub own : HasOwnCalls job m s.number
  pub knows : KnowsOthers job m s.number
  pub place : DealsNothing s → StandsUpTo s.most job m s.number (place_of_state s)
  pub deals : (DealsNothing s → ⊥) → DealsAt job m s
  pub start : (task_at job.graph s.number).joins_now ≡ true → m.offset s.number ≡ s.start
  pub holds : HasHolds job spots m s.number s.holds.items s.lefts.items
  pub filter : HasFilter (task_at job.graph s.number) s.filter (m.taken s.number 0)
  pub lines : (task_at job.graph s.number).kind ≡ Sink → s.lines.items ≡ m.taken s.number 0
  pub given : HasGivenNumbers job m s.children.items
  pub at_end : s.over ≡ true → IsAtEnd job m s

-- whether task t signals blocks of phases
abbrev pub SignalsBlocks : Job → ℕ → Type 0
SignalsBlocks job t =
    ((task_at job.graph t).kind ≡ Source) ⊎ MakesMany (task_at job.graph t).kind

-- for how many sends these places are, on the phaser of the output of task t
abbrev pub sends_room : Job → ℕ → Places → ℕ
sends_room job t places = room_for (phaser_at job.graph (output_at job t 0)).op places

-- the places of a task for the steps of one event: for so many of its own accord, and for a block
-- of its line, or, of a joiner, for so many that it puts by one. Each step finds a place for the
-- outcome of a wait, and for the send of a signal
pub record HasStepPlaces (job : Job) (s : TaskState) : Type 0 where
  pub most : (task_at job.graph s.number).kind ≢ Split
      → (task_at job.graph s.number).kind ≢ Decimate
      → (task_at job.graph s.number).kind ≢ Join → IsMost job s.number s.most
  pub own : 1 ≤ s.own
  pub own_few : s.own ≤ s.most
  pub block : (task_at job.graph s.number).block ≤ s.most
  pub made : s.most ≤ s.made.cap
  pub few_made : length s.made.items ≤ s.most
  pub outcomes : s.most ≤ length s.outcomes.items
  pub sends : SignalsBlocks job s.number → s.most ≤ sends_room job s.number s.places
  -- a splitter finds one for each value that it deals, and, where it takes several, for their sends
  pub few_dealt : length s.deal.values.items ≤ s.most
  pub deal : (task_at job.graph s.number).kind ≡ Split → HasDealRoom s.most s.deal
  pub served : (task_at job.graph s.number).kind ≡ Split → 2 ≤ s.most
      → ServesOutputs job s.number s.most s.places

-- what holds of a task always, whatever it met
pub record IsWhole (job : Job) (s : TaskState) : Type 0 where
  pub graph : IsGraph job.graph
  pub there : s.number < length job.graph.tasks
  pub samples : s.samples.now ≡ samples_at job s.number
  pub numbers : length s.numbers.items ≡ length (registrations_at job s.number)
  pub holds : length s.holds.items ≡ length (registrations_at job s.number)
  pub children : KnowsChildren job s.number s.children.items
  pub staying : s.over ≡ false → length s.lefts.items ≡ 0
  -- what it has seen of each phaser finds room
  pub room : length (registrations_at job s.number) ≤ s.lefts.cap
  pub places : HasStepPlaces job s
  -- a filter, a decimator and a joiner owe what they have made, and other tasks make nothing
  pub makers : MakesMany (task_at job.graph s.number).kind → s.owed ≡ Nothing
  pub others : (MakesMany (task_at job.graph s.number).kind → ⊥) → s.made.items ≡ []
  -- a splitter owes what it deals, and other tasks deal nothing
  pub splitters : (task_at job.graph s.number).kind ≡ Split → s.owed ≡ Nothing
  pub dealers : (task_at job.graph s.number).kind ≢ Split → DealsNothing s

-- each child of a task that comes now has as many numbers as registrations
abbrev pub HasAllNow : Job → TaskState → Type 0
HasAllNow job s = (i : ℕ) (child : Child) → slice_get s.children.items i ≡ Some child
    → child.at ≡ s.begun
    → length (registrations_at job child.task) ≤ length child.numbers.items

-- no child of a task comes now, where it stands between two steps, that has not all its numbers
abbrev pub HasNoneDue : Job → TaskState → Type 0
HasNoneDue job s = s.over ≡ false → OwesNothing s → HasAllNow job s

-- the child at this place comes now, and has not all its numbers
pub record IsMissing (job : Job) (s : TaskState) (i : ℕ) : Type 0 where
  pub kid : Child
  pub found : slice_get s.children.items i ≡ Some kid
  pub now : kid.at ≡ s.begun
  pub few : length kid.numbers.items < length (registrations_at job kid.task)

-- the same where the task stands between two steps
pub record IsDue (job : Job) (s : TaskState) (i : ℕ) : Type 0 where
  pub going : s.over ≡ false
  pub owes : OwesNothing s
  pub missing : IsMissing job s i

-- a task of a run in this state: it stands at a moment, but where it met what ends all
pub record IsTask (job : Job) (spots : ℕ → Spot) (s : TaskState) : Type 0 where
  pub whole : IsWhole job s
  pub stands : s.met ≡ false → (m : Moment) × IsOwnTaskAt job spots m s

-- a call of its code keeps it one of its run
abbrev pub KeepsTask : Job → TaskState → TaskState → Type 0
KeepsTask job old new = (spots : ℕ → Spot) → IsTask job spots old → IsTask job spots new
