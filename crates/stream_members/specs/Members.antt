-- What contracts see of a registration with its phaser, and what its calls do to the history that
-- it has seen.
use Rattle.std.specs.Prelude.{◌≡◌, ℕ, ◌+◌, ℤ, List, [], ◌∷◌, ◌++◌, Option, Some, None, Result, Ok, Err, true}
use Rattle.turn_lock.specs.Seats.{Place}
use Rattle.phase_base.specs.Limits.{Limits, limits}
use Rattle.phase_base.specs.Members.{entry_of}
use Rattle.phase_base.specs.declared.entry.Entry.{Entry}
use Rattle.phase_base.specs.declared.mode.Mode.{Mode}
use Rattle.phase_base.specs.declared.mode.Mode.TheVariants.{Wait}
use Rattle.phase_accum.specs.declared.single.Single.{Single}
use Rattle.phase_history.specs.declared.refusal.RegisterRefusal.{RegisterRefusal}
use Rattle.phase_history.specs.declared.event.Event.TheVariants.{RegisteredNow}
use Rattle.phase_history.specs.Histories.{History, members_of, greatest_used, done_of}
use Rattle.phase_history.specs.declared.refusal.SignalRefusal.{SignalRefusal}
use Rattle.phase_history.specs.Refusals.{register_now_refusal}
use Rattle.phase_history.specs.Legal.{IsLegal}
use Rattle.phase_history.specs.Others.{OthersCame, OnlyUsed}
use Rattle.phase_base.specs.Lists.{is_distinct}
use Rattle.phase_shared.specs.declared.rule.Terms.{Terms}
use Rattle.phase_shared.specs.declared.tried.Tried.{Tried}
use Rattle.phase_shared.specs.declared.tried.Tried.TheVariants as tried
use Rattle.phase_shared.specs.declared.rule.NoRule.{NoRule}
use Rattle.phase_shared.specs.Blocks.{SignalsValues}
use Rattle.phase_shared.specs.Calls.{HasRegistered, RefusesRegister, Leaves}
use Rattle.phase_shared.specs.Regs.{RegState, PastState}
use Rattle.stream_members.specs.declared.refusal.PutRefusal.{PutRefusal}
use Rattle.stream_members.specs.declared.refusal.PutRefusal.TheVariants.{Busy, Refused}

-- which phaser it is
abbrev pub Spot : Type 0
Spot = Place (Terms NoRule)

-- the limits of the phaser at a spot
abbrev pub spot_limits : Option (Terms NoRule) → Limits
spot_limits None = limits 1 1
spot_limits (Some terms) = terms.limits

-- the limits of the phaser that a spot is on
abbrev pub limits_on : Spot → Limits
limits_on at = spot_limits at.1

-- a member: its phaser, its number, its mode, and the history that it has seen
pub record MemberState : Type 0 where
  pub at : Spot
  pub number : ℕ
  pub mode : Mode
  pub seen : History

-- what a member that left has seen
abbrev pub LeftState : Type 0
LeftState = PastState NoRule

-- a registration as a member
abbrev pub member_state : {A : Type 0} → RegState A NoRule → MemberState
member_state reg = record {
  at = reg.at;
  number = reg.number;
  mode = reg.entry.mode;
  seen = reg.seen;
}

-- it is registered, in its mode, and what it has seen is legal
pub record IsMember (m : MemberState) : Type 0 where
  pub legal : IsLegal (limits_on m.at) m.seen
  pub entry : Entry
  pub member : entry_of (members_of m.seen) m.number ≡ Some entry
  pub mode : entry.mode ≡ m.mode

-- after a call it is the same member of the same phaser, and what it has seen is legal
pub record Stays (old new : MemberState) : Type 0 where
  pub at : new.at ≡ old.at
  pub number : new.number ≡ old.number
  pub mode : new.mode ≡ old.mode
  pub legal : IsLegal (limits_on old.at) new.seen

-- it is the only one on its phaser that it has seen
pub record IsAlone (m : MemberState) : Type 0 where
  pub only : OnlyUsed (m.number ∷ []) m.seen

-- ---- values that are put

-- values that are put by a signal, or the refusal: where the phaser was not asked, all stayed as it
-- was
abbrev pub Puts : List ℤ → Option Single → MemberState → MemberState → Result ℕ PutRefusal → Type 0
Puts values single old new (Ok phase) =
    SignalsValues (limits_on old.at) old.number values single old.seen new.seen (Ok phase)
Puts values single old new (Err (Refused refusal)) =
    SignalsValues (limits_on old.at) old.number values single old.seen new.seen (Err refusal)
Puts values single old new (Err refusal) = new ≡ old

-- for the code: what a try of a signal answers, as it is told of values
abbrev pub IsPutAnswer : Result ℕ (Tried SignalRefusal) → Result ℕ PutRefusal → Type 0
IsPutAnswer (Ok phase) answer = answer ≡ Ok phase
IsPutAnswer (Err tried.Busy) answer = answer ≡ Err Busy
IsPutAnswer (Err (tried.Refused refusal)) answer = answer ≡ Err (Refused refusal)

-- ---- members that come and go

-- a child: it is on its parent's phaser, and has seen what its parent has
pub record HasAdded (mode : Mode) (old new child : MemberState) : Type 0 where
  pub registered : HasRegistered old.number child.number mode old.seen new.seen
  pub at : child.at ≡ old.at
  pub mode_is : child.mode ≡ mode
  pub seen : child.seen ≡ new.seen

-- a child, or the refusal
abbrev pub Adds : Mode → MemberState → MemberState → Result MemberState RegisterRefusal → Type 0
Adds mode old new (Ok child) = HasAdded mode old new child
Adds mode old new (Err refusal) = RefusesRegister old.number mode old.seen new.seen refusal

-- a child that waits from the first phase on that is not complete: others' events, then the
-- registration, which answers that phase
pub record HasAddedNow (old new child : MemberState) (start : ℕ) : Type 0 where
  pub before : History
  pub others : OthersCame (old.number ∷ []) old.seen before
  pub now : new.seen ≡ RegisteredNow old.number child.number ∷ before
  pub reply : register_now_refusal before old.number child.number ≡ None
  pub next : child.number ≡ greatest_used before + 1
  pub start_is : start ≡ done_of before
  pub at : child.at ≡ old.at
  pub mode_is : child.mode ≡ Wait
  pub seen : child.seen ≡ new.seen

-- such a child, or the refusal
abbrev pub AddsNow : MemberState → MemberState → Result (MemberState × ℕ) RegisterRefusal → Type 0
AddsNow old new (Ok child) = HasAddedNow old new child.0 child.1
AddsNow old new (Err refusal) = RefusesRegister old.number Wait old.seen new.seen refusal

-- what a member that left has seen: its own drop last
pub record HasLeftPhaser (old : MemberState) (left : LeftState) : Type 0 where
  pub at : left.at ≡ old.at
  pub numbers : left.numbers ≡ old.number ∷ []
  pub leaves : Leaves old.number old.seen left.seen
  pub legal : IsLegal (limits_on old.at) left.seen

-- two that left as one: its history begins with what each has seen, and has no later event of
-- theirs
pub record HasJoined (first second both : LeftState) : Type 0 where
  pub at : both.at ≡ first.at
  pub numbers : both.numbers ≡ first.numbers ++ second.numbers
  pub distinct : is_distinct both.numbers ≡ true
  pub first_came : OthersCame first.numbers first.seen both.seen
  pub second_came : OthersCame second.numbers second.seen both.seen
  pub legal : IsLegal (limits_on first.at) both.seen
