-- The founder of a phaser, as contracts see it, the tasks that it registers, and what it leaves
-- behind.
use Rattle.std.specs.Prelude.{◌≡◌, ℕ, List, [], ◌∷◌, true}
use Rattle.phase_base.specs.declared.mode.Mode.{Mode}
use Rattle.phase_base.specs.declared.operation.Op.{Op}
use Rattle.phase_history.specs.declared.event.Event.TheVariants.{Made, Registered}
use Rattle.phase_history.specs.Histories.{History, IsBeginning}
use Rattle.phase_history.specs.Legal.{IsLegal}
use Rattle.phase_history.specs.Others.{events_of, children_in}
use Rattle.phase_base.specs.Lists.{is_in}
use Rattle.stream_members.specs.Members.{Spot, limits_on, MemberState}
use Rattle.stream_members.specs.AnyMembers.{member_in, member_op, left_in, left_op}
use Rattle.stream_members.specs.declared.any_member.AnyMember.{AnyMember}
use Rattle.stream_members.specs.declared.any_left.AnyLeft.{AnyLeft}
use Rattle.graph_runs.specs.Places.{AreRegistrations}
use Rattle.graph_runs.specs.TaskEnds.{HasFoundedAndLeft}

-- a founder: its phaser's operation and place, the numbers that it gave, and what it has seen
pub record FounderState : Type 0 where
  pub op : Op
  pub at : Spot
  pub gave : List ℕ
  pub seen : History

-- a member with the numbers that it gave, as a founder
abbrev pub founder_state : AnyMember → List ℕ → FounderState
founder_state member gave = record {
  op = member_op member;
  at = (member_in member).at;
  gave = gave;
  seen = (member_in member).seen;
}

-- for the code: a founder made its phaser, and has registered tasks alone, under these numbers
pub record OnlyFounds (gave : List ℕ) (h : History) : Type 0 where
  pub made : IsBeginning (Made 0 ∷ []) h
  pub registrations : AreRegistrations (events_of 0 h)
  pub gave_these : (a : ℕ) → is_in a (children_in (events_of 0 h)) ≡ true → is_in a gave ≡ true

-- for the code: what holds of a founder
pub record IsFounder (m : MemberState) (gave : List ℕ) : Type 0 where
  pub number : m.number ≡ 0
  pub founded : OnlyFounds gave m.seen

-- the last event that was seen is that the founder registered this number in this mode, and before
-- it had registered tasks alone
pub record HasJustRegistered (n : ℕ) (mode : Mode) (seen : History) : Type 0 where
  pub before : History
  pub is : seen ≡ Registered 0 n mode ∷ before
  pub made : IsBeginning (Made 0 ∷ []) before
  pub founder : AreRegistrations (events_of 0 before)

-- a task that a founder has just registered, and which holds nothing
pub record IsRoot (mode : Mode) (founder : FounderState) (member : AnyMember) : Type 0 where
  pub op : member_op member ≡ founder.op
  pub at : (member_in member).at ≡ founder.at
  pub mode_is : (member_in member).mode ≡ mode
  pub legal : IsLegal (limits_on founder.at) (member_in member).seen
  pub registered : HasJustRegistered (member_in member).number mode (member_in member).seen

-- what a founder that left has seen
pub record IsLeftOfFounder (founder : FounderState) (left : AnyLeft) : Type 0 where
  pub op : left_op left ≡ founder.op
  pub at : (left_in left).at ≡ founder.at
  pub numbers : (left_in left).numbers ≡ 0 ∷ []
  pub legal : IsLegal (limits_on founder.at) (left_in left).seen
  pub founded : HasFoundedAndLeft (record {
    number = 0;
    gave = founder.gave;
    seen = (left_in left).seen;
  })
