-- What the calls of a registration do to what it has seen.
use Rattle.std.specs.Prelude.{◌≡◌, ℕ, ◌≤◌, ⊤, ℤ, List, [], ◌∷◌, ◌++◌, length, map, take, Option, Result, Ok, Err}
use Rattle.phase_accum.specs.Values.{value_by}
use Rattle.phase_accum.specs.declared.outcome.Outcome.{Outcome}
use Rattle.phase_accum.specs.declared.single.Single.{Single}
use Rattle.phase_history.specs.declared.event.Event.{Event}
use Rattle.phase_history.specs.declared.event.Event.TheVariants.{Signalled, Waited, Dropped}
use Rattle.phase_history.specs.declared.got.Got.TheVariants as got
use Rattle.phase_history.specs.Histories.{History}
use Rattle.phase_history.specs.Phases.{received_by}
use Rattle.phase_history.specs.Legal.{IsLegal}
use Rattle.phase_history.specs.Others.{OthersCame}
use Rattle.phase_history.specs.Replies.{wait_reply}
use Rattle.graph_runs.specs.Moments.{one}
use Rattle.stream_members.specs.Members.{limits_on}
use Rattle.stream_members.specs.AnyMembers.{member_in, member_op, left_in, left_op, room_for}
use Rattle.stream_members.specs.declared.any_member.AnyMember.{AnyMember}
use Rattle.stream_members.specs.declared.any_left.AnyLeft.{AnyLeft}
use Rattle.stream_members.specs.declared.places.Places.{Places}
use Rattle.stream_tasks.specs.declared.held.Held.{Held}
use Rattle.stream_tasks.specs.declared.hold.Given.{Given}
use Rattle.stream_tasks.specs.declared.hold.Given.TheVariants as given
use Rattle.stream_tasks.specs.declared.hold.Hold.{Hold}
use Rattle.stream_tasks.specs.declared.hold.Hold.TheVariants.{On, Gone}

-- the same registration of the same phaser
pub record IsSameRegistration (old new : AnyMember) : Type 0 where
  pub op : member_op new ≡ member_op old
  pub at : (member_in new).at ≡ (member_in old).at
  pub number : (member_in new).number ≡ (member_in old).number
  pub legal : IsLegal (limits_on (member_in old).at) (member_in new).seen

-- it has seen others' events
pub record HasSeenOthers (old new : AnyMember) : Type 0 where
  pub same : IsSameRegistration old new
  pub others : OthersCame ((member_in old).number ∷ []) (member_in old).seen (member_in new).seen

-- it has seen others' events up to this history, and then its own event
pub record HasMade (event : ℕ → Event) (old new : AnyMember) (before : History) : Type 0 where
  pub same : IsSameRegistration old new
  pub others : OthersCame ((member_in old).number ∷ []) (member_in old).seen before
  pub seen : (member_in new).seen ≡ event (member_in old).number ∷ before

-- ---- values

-- its signal with these values, one a phase
abbrev pub signal_event : List ℤ → Option Single → ℕ → Event
signal_event values single n = Signalled n (map one values) single

-- it has signalled with these values
abbrev pub MemberHasSignalled : List ℤ → Option Single → AnyMember → AnyMember → Type 0
MemberHasSignalled values single old new =
    (before : History) × HasMade (signal_event values single) old new before

-- there are places for so many sends on the phaser of a hold
abbrev pub HasSendPlaces : Hold → ℕ → Places → Type 0
HasSendPlaces (On member) count places = count ≤ room_for (member_op member) places
HasSendPlaces Gone count places = ⊤

-- its wait for so many phases
abbrev pub wait_event : ℕ → ℕ → Event
wait_event phases n = Waited n phases

-- it has waited, and was answered these outcomes
pub record MemberHasWaited (outcomes : List Outcome) (old new : AnyMember) : Type 0 where
  pub before : History
  pub made : HasMade (wait_event (length outcomes)) old new before
  pub answered : received_by (value_by (member_op old))
      (Waited (member_in old).number (length outcomes) ∷ before) (member_in old).number
      ≡ received_by (value_by (member_op old)) before (member_in old).number ++ outcomes

-- it was answered that no more will come
pub record HasRunOut (old new : AnyMember) : Type 0 where
  pub seen : HasSeenOthers old new
  pub ended : wait_reply (value_by (member_op old)) (limits_on (member_in old).at)
      (member_in new).seen (member_in old).number ≡ Ok got.Ended

-- what a wait gave, whose places have this now
abbrev pub WaitGave : Result Given Held → List Outcome → AnyMember → AnyMember → Type 0
WaitGave (Ok (given.Values count)) out old new = MemberHasWaited (take count out) old new
WaitGave (Ok given.Ended) out old new = HasRunOut old new
WaitGave (Err held) out old new = HasSeenOthers old new

-- so many values at most, and one at least, or the end
abbrev pub IsAtMost : ℕ → Given → Type 0
IsAtMost most (given.Values count) = (1 ≤ count) × (count ≤ most)
IsAtMost most given.Ended = Unit {0}

-- ---- holds

-- the registration of a hold has gone on like this
abbrev pub HoldGoesOn : (AnyMember → AnyMember → Type 0) → Hold → Hold → Type 0
HoldGoesOn P (On old) (On new) = P old new
HoldGoesOn P (On old) Gone = ⊥
HoldGoesOn P Gone new = new ≡ Gone

-- what it has seen of a phaser that it has left
pub record LeavesHold (old : AnyMember) (left : AnyLeft) : Type 0 where
  pub op : left_op left ≡ member_op old
  pub at : (left_in left).at ≡ (member_in old).at
  pub numbers : (left_in left).numbers ≡ (member_in old).number ∷ []
  pub legal : IsLegal (limits_on (member_in old).at) (left_in left).seen
  pub before : History
  pub others : OthersCame ((member_in old).number ∷ []) (member_in old).seen before
  pub seen : (left_in left).seen ≡ Dropped (member_in old).number ∷ before

-- a hold that has left
abbrev pub HoldLeaves : Hold → Hold → AnyLeft → Type 0
HoldLeaves (On old) new left = (new ≡ Gone) × LeavesHold old left
HoldLeaves Gone new left = ⊥
