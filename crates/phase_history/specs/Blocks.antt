-- Blocks of phases: the signals of one as plain signals, and what a wait for one is answered. Which
-- calls can be made.
use Rattle.std.specs.Prelude.{◌≡◌, ℕ, ◌+◌, ◌-◌, ◌≤◌, ℤ, min, List, [], ◌∷◌, ◌++◌, Option, None, slice_range}
use Rattle.std.specs.Option.{option_or}
use Rattle.phase_base.specs.Limits.{Limits}
use Rattle.phase_accum.specs.Singles.{CanBeNamed}
use Rattle.phase_accum.specs.declared.outcome.Outcome.{Outcome}
use Rattle.phase_accum.specs.declared.single.Single.{Single}
use Rattle.phase_history.specs.declared.call.Call.{Call}
use Rattle.phase_history.specs.declared.call.Call.TheVariants.{Signal}
use Rattle.phase_history.specs.declared.event.Event.TheVariants.{Signalled, Waited}
use Rattle.phase_history.specs.declared.refusal.SignalRefusal.{SignalRefusal}
use Rattle.phase_history.specs.Histories.{History, members_of, top_of, wait_phase, done_of}
use Rattle.phase_history.specs.Phases.{sends_of_phase, named_in_phase, stream_of, received_by}
use Rattle.phase_history.specs.Refusals.{signal_refusal}
use Rattle.phase_history.specs.Legal.{AreLists}

-- the first refusal of plain signals one by one, each after the ones before it
abbrev pub one_by_one_refusal : Limits → History → ℕ → List (List ℤ) → Option Single
    → Option SignalRefusal
one_by_one_refusal limits h task [] single = None
one_by_one_refusal limits h task (sends ∷ lists) single =
    option_or (signal_refusal limits h task (sends ∷ []) single)
    (one_by_one_refusal limits (Signalled task (sends ∷ []) single ∷ h) task lists single)

-- the history after plain signals one by one
abbrev pub one_by_one : History → ℕ → List (List ℤ) → Option Single → History
one_by_one h task [] single = h
one_by_one h task (sends ∷ lists) single =
    one_by_one (Signalled task (sends ∷ []) single ∷ h) task lists single

-- two histories leave the same: the same members and top, and in each phase the same sends and the
-- same name of the first signal
pub record LeavesSame (one other : History) : Type 0 where
  pub members : members_of one ≡ members_of other
  pub top : top_of one ≡ top_of other
  pub sends : (p : ℕ) → sends_of_phase one p ≡ sends_of_phase other p
  pub named : (p : ℕ) → named_in_phase one p ≡ named_in_phase other p

-- a wait for at most n phases that is answered by this phase and count adds the values of these
-- phases to what the task has received: at least one, and all that are complete or all n
pub record IsAnsweredBlock (value : List ℤ → Outcome) (h : History) (task n phase count : ℕ)
    : Type 0 where
  pub phase_is : phase ≡ wait_phase h task
  pub count_is : count ≡ min n (done_of h - phase)
  pub some : 1 ≤ count
  pub complete : phase + count ≤ done_of h
  pub received : received_by value (Waited task count ∷ h) task
      ≡ received_by value h task ++ slice_range (stream_of value h) phase (phase + count)

-- the call can be made: what it sends can be sent, and what it names can be named
abbrev pub CanBeMade : Call → Type 0
CanBeMade (Signal task lists single) = AreLists lists × CanBeNamed single
CanBeMade call = Unit {0}
