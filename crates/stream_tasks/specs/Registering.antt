-- A child while its parent registers it: the parent's moment serves both.
use Rattle.std.specs.Prelude.{◌≡◌, ℕ, ◌<◌, List, length, get_or, slice_get, Option, Some, None, true, false}
use Rattle.phase_base.specs.declared.mode.Mode.{Mode}
use Rattle.phase_history.specs.declared.event.Event.{Event}
use Rattle.phase_history.specs.declared.event.Event.TheVariants.{Registered, RegisteredNow}
use Rattle.phase_history.specs.Histories.{History, done_of}
use Rattle.stream_lists.specs.Jobs.{Job}
use Rattle.graph_runs.specs.Moments.{Moment}
use Rattle.stream_members.specs.Members.{Spot}
use Rattle.stream_members.specs.AnyMembers.{member_in, member_op}
use Rattle.stream_members.specs.declared.any_member.AnyMember.{AnyMember}
use Rattle.graph_runs.specs.TaskPlaces.{registration_at}
use Rattle.graph_runs.specs.Places.{IsJoining}
use Rattle.graph_runs.specs.TaskEnds.{HasOwnCalls, IsChildOf}
use Rattle.graph_base.specs.Graphs.{task_at}
use Rattle.stream_tasks.specs.Holds.{HasMade}
use Rattle.stream_tasks.specs.Tasks.{IsHeldOn, IsOwnTaskAt, OwesNothing}
use Rattle.stream_tasks.specs.declared.child.Child.{Child}
use Rattle.stream_tasks.specs.declared.task_state.TaskState.{TaskState}
use Rattle.stream_tasks.specs.declared.hold.Hold.{Hold}
use Rattle.stream_tasks.specs.declared.hold.Hold.TheVariants.{On, Gone}

-- the registration of a child as this number
abbrev pub registration_of : ℕ → Mode → ℕ → Event
registration_of child mode n = Registered n child mode

-- a registration has added a child on its phaser, which has seen what it has
pub record MemberHasAdded (mode : Mode) (old new child : AnyMember) : Type 0 where
  pub before : History
  pub made : HasMade (registration_of (member_in child).number mode) old new before
  pub op : member_op child ≡ member_op old
  pub at : (member_in child).at ≡ (member_in old).at
  pub seen : (member_in child).seen ≡ (member_in new).seen

-- the registration of a hold has added a child
abbrev pub AddsTo : Mode → Hold → Hold → AnyMember → Type 0
AddsTo mode (On old) (On new) child = MemberHasAdded mode old new child
AddsTo mode (On old) Gone child = ⊥
AddsTo mode Gone new child = ⊥

-- the registration of a child that joins now as this number
abbrev pub registration_now_of : ℕ → ℕ → Event
registration_now_of child n = RegisteredNow n child

-- a registration has added a child that joins now on its phaser, which has seen what it has, and
-- begins at the first phase that was not complete
pub record MemberHasAddedNow (old new child : AnyMember) (start : ℕ) : Type 0 where
  pub before : History
  pub made : HasMade (registration_now_of (member_in child).number) old new before
  pub start_is : start ≡ done_of before
  pub op : member_op child ≡ member_op old
  pub at : (member_in child).at ≡ (member_in old).at
  pub seen : (member_in child).seen ≡ (member_in new).seen

-- the registration of a hold has added such a child
abbrev pub AddsNowTo : Hold → Hold → AnyMember → ℕ → Type 0
AddsNowTo (On old) (On new) child start = MemberHasAddedNow old new child start
AddsNowTo (On old) Gone child start = ⊥
AddsNowTo Gone new child start = ⊥

-- at this moment, which is its parent's, task c has these numbers and these holds, on the first of
-- its phasers
pub record HasFirstHolds (job : Job) (spots : ℕ → Spot) (m : Moment) (c : ℕ) (numbers : List ℕ)
    (child_holds : List Hold) : Type 0 where
  pub joining : IsJoining job m c numbers
  pub own : HasOwnCalls job m c
  pub long : length child_holds ≡ length numbers
  pub on : (i : ℕ) → i < length numbers
      → IsHeldOn job spots m c (registration_at job c i).phaser (get_or child_holds i Gone)

-- a task in this state registers the child at place i among its children: it stands between two
-- steps, and its moment is the child's as well
pub record IsRegistering (job : Job) (spots : ℕ → Spot) (s : TaskState) (i : ℕ) : Type 0 where
  pub kid : Child
  pub found : slice_get s.children.items i ≡ Some kid
  pub child : IsChildOf job kid.task s.number
  pub boundary : s.begun ≡ child.parent.at
  pub going : s.over ≡ false
  pub owes : OwesNothing s
  pub moment : Moment
  pub at : IsOwnTaskAt job spots moment s
  pub first_holds : HasFirstHolds job spots moment kid.task kid.numbers.items s.child_holds.items
  -- a child that joins now and was registered knows where it begins
  pub start : (task_at job.graph kid.task).joins_now ≡ true → 0 < length kid.numbers.items
      → moment.offset kid.task ≡ kid.start

-- a task that registers the child at this place, where there is one
abbrev pub IsWith : Job → (ℕ → Spot) → TaskState → Option ℕ → Type 0
IsWith job spots s None = Unit {0}
IsWith job spots s (Some i) = s.met ≡ false → IsRegistering job spots s i
