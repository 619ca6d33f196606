-- What the laws of histories say.
use Rattle.std.specs.Prelude.{◌≡◌, ℕ, ◌+◌, ◌<◌, ◌≤◌, ℤ, List, [], ◌∷◌, ◌++◌, ◌⊎◌, ◌≢◌, Option, None, Some, false, slice_range}
use Rattle.phase_base.specs.declared.entry.Entry.{Entry}
use Rattle.phase_accum.specs.declared.outcome.Outcome.{Outcome}
use Rattle.phase_base.specs.Limits.{Limits}
use Rattle.phase_accum.specs.declared.single.Single.{Single}
use Rattle.phase_history.specs.declared.event.Event.TheVariants.{Waited}
use Rattle.phase_history.specs.declared.refusal.SignalRefusal.TheVariants as signal
use Rattle.phase_history.specs.declared.refusal.WaitRefusal.TheVariants as wait
use Rattle.phase_history.specs.Refusals.{signal_refusal, wait_refusal}
use Rattle.phase_base.specs.Members.{entry_of}
use Rattle.phase_history.specs.Histories.{History, IsSignaller, IsWaiter, members_of, wait_phase, done_of, start_of, phases_signalled, phases_waited, has_dropped}
use Rattle.phase_history.specs.Phases.{stream_of, received_by}

-- a task with this entry has received the stream from its start to its wait phase
pub record HasReceived (value : List ℤ → Outcome) (h : History) (task : ℕ) (entry : Entry)
    : Type 0 where
  pub start : Entry
  pub start_is : start_of h task ≡ Some start
  pub from_start : start.wait_phase ≤ entry.wait_phase
  pub complete : entry.wait_phase ≤ done_of h
  pub received : received_by value h task
      ≡ slice_range (stream_of value h) start.wait_phase entry.wait_phase

-- a task's phases are its start and the number of phases in its events
pub record HasCounted (h : History) (task : ℕ) (entry : Entry) : Type 0 where
  pub start : Entry
  pub start_is : start_of h task ≡ Some start
  pub signals : start.signal_phase + phases_signalled h task ≡ entry.signal_phase
  pub waits : start.wait_phase + phases_waited h task ≡ entry.wait_phase

-- a task with this start, registered or gone, has received the stream from its start over as many
-- phases as it waited for, all of them complete
pub record HasReceivedFrom (value : List ℤ → Outcome) (h : History) (task : ℕ) (start : Entry)
    : Type 0 where
  pub complete : start.wait_phase + phases_waited h task ≤ done_of h
  pub received : received_by value h task
      ≡ slice_range (stream_of value h) start.wait_phase
      (start.wait_phase + phases_waited h task)

-- a number that was never given to a task has no events: it did not begin and is not registered,
-- signalled no phase, waited for none, received nothing and did not drop
pub record HasNoEvents (value : List ℤ → Outcome) (h : History) (task : ℕ) : Type 0 where
  pub start : start_of h task ≡ None
  pub no_member : entry_of (members_of h) task ≡ None
  pub signals : phases_signalled h task ≡ 0
  pub waits : phases_waited h task ≡ 0
  pub received : received_by value h task ≡ []
  pub stays : has_dropped h task ≡ false

-- an entry that is at most one signal ahead of its waits
pub record IsInTurn (entry : Entry) : Type 0 where
  pub low : entry.wait_phase ≤ entry.signal_phase
  pub high : entry.signal_phase ≤ entry.wait_phase + 1

-- a wait that is answered by this phase and outcome adds the outcome to what the task has received
pub record IsAnswered (value : List ℤ → Outcome) (h : History) (task phase : ℕ) (outcome : Outcome)
    : Type 0 where
  pub phase_is : phase ≡ wait_phase h task
  pub complete : phase < done_of h
  pub received : received_by value (Waited task 1 ∷ h) task
      ≡ received_by value h task ++ outcome ∷ []

-- whatever it sends and names, the task's signal is not refused as ahead or as a second one
pub record MaySignal (limits : Limits) (h : History) (task : ℕ) : Type 0 where
  pub entry : Entry
  pub is_signaller : IsSignaller h task entry
  pub not_ahead : (sends : List ℤ) (single : Option Single)
      → signal_refusal limits h task (sends ∷ []) single ≢ Some signal.Ahead
  pub not_twice : (sends : List ℤ) (single : Option Single)
      → signal_refusal limits h task (sends ∷ []) single ≢ Some signal.SignalTwice

-- the task's wait is not refused as too early, before its phase is complete or before its signal
pub record MayWait (limits : Limits) (h : History) (task : ℕ) : Type 0 where
  pub entry : Entry
  pub is_waiter : IsWaiter h task entry
  pub complete : wait_refusal limits h task 1 ≢ Some wait.NotYet
  pub signalled : wait_refusal limits h task 1 ≢ Some wait.SignalFirst

-- some task may go on
abbrev pub GoesOn : Limits → History → Type 0
GoesOn limits h = (task : ℕ) × (MaySignal limits h task ⊎ MayWait limits h task)

-- some task may wait, or its signal with no send and no single is accepted
abbrev pub GoesOnPlainly : Limits → History → Type 0
GoesOnPlainly limits h =
    (task : ℕ) × ((signal_refusal limits h task ([] ∷ []) None ≡ None) ⊎ MayWait limits h task)
