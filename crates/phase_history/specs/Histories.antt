-- A history is the list of the events on a phaser, the newest first: `event ∷ before` is a
-- history whose last event came after those of `before`, and `more ++ before` a longer one.
use Rattle.std.specs.Prelude.{◌≡◌, ℕ, ◌+◌, List, [], ◌∷◌, ◌++◌, Option, Some, None, IsSome, length, max, unwrap_or, Bool, true, false, if◌then◌else◌, ◌==◌}
use Rattle.phase_base.specs.Modes.{mode_signals, mode_waits}
use Rattle.phase_base.specs.declared.mode.Mode.{Mode}
use Rattle.phase_base.specs.declared.mode.Mode.TheVariants.{Wait, Single}
use Rattle.phase_base.specs.declared.entry.Entry.{Entry}
use Rattle.phase_history.specs.declared.event.Event.{Event}
use Rattle.phase_history.specs.declared.event.Event.TheVariants.{Made, Registered, RegisteredNow, Signalled, Waited, Dropped}
use Rattle.phase_base.specs.Members.{Members, member, entry_of, changed_at, without, signal_phases, least, signalled, waited}

-- a list of events, the newest first
abbrev pub History : Type 0
History = List Event

-- an entry in a mode, at a signal phase and a wait phase
abbrev pub entry_at : Mode → ℕ → ℕ → Entry
entry_at mode s w = record { mode = mode; signal_phase = s; wait_phase = w }

-- the old history is a beginning of the new one: the later events came after it, or none came
pub record IsBeginning (old new : History) : Type 0 where
  pub later : History
  pub is : new ≡ later ++ old

-- what the task that makes a phaser starts with
abbrev pub founder : Entry
founder = entry_at Single 0 0

-- where the tasks stand: the members, and one more than the greatest phase ever signalled, or 0
pub record Positions : Type 0 where
  pub members : Members
  pub top : ℕ

-- the entry of a member. Of no member it is the founder's, which no reply shows
abbrev pub member_entry : Members → ℕ → Entry
member_entry members task = unwrap_or (entry_of members task) founder

-- the phases below this one are complete: the least signal phase of the signallers, or the top
abbrev pub done_at : Positions → ℕ
done_at now = unwrap_or (least (signal_phases now.members)) now.top

-- what one event makes of the positions. A child stands at both phases of its parent; one that
-- was registered now stands at the first phase that is not complete
abbrev pub after_event : Event → Positions → Positions
after_event (Made task) now = record { members = member task founder ∷ []; top = 0 }
after_event (Registered parent child mode) now =
    let entry = member_entry now.members parent in
    let start = entry_at mode entry.signal_phase entry.wait_phase in
    record now { members = now.members ++ member child start ∷ [] }
after_event (RegisteredNow parent child) now =
    let start = entry_at Wait (member_entry now.members parent).signal_phase (done_at now) in
    record now { members = now.members ++ member child start ∷ [] }
after_event (Signalled task lists single) now =
    let entry = member_entry now.members task in
    record {
      members = changed_at task (signalled (length lists)) now.members;
      top = max now.top (entry.signal_phase + length lists);
    }
after_event (Waited task phases) now =
    record now { members = changed_at task (waited phases) now.members }
after_event (Dropped task) now = record now { members = without task now.members }

-- where the tasks stand after a history
abbrev pub positions_of : History → Positions
positions_of [] = record { members = []; top = 0 }
positions_of (event ∷ before) = after_event event (positions_of before)

-- the registered tasks with their entries
abbrev pub members_of : History → Members
members_of h = (positions_of h).members

-- one more than the greatest phase that was ever signalled, or 0
abbrev pub top_of : History → ℕ
top_of h = (positions_of h).top

-- the phases below this one are complete, and never change
abbrev pub done_of : History → ℕ
done_of h = done_at (positions_of h)

-- the phase that the task's next signal joins
abbrev pub signal_phase : History → ℕ → ℕ
signal_phase h task = (member_entry (members_of h) task).signal_phase

-- the phase that the task's next wait asks for
abbrev pub wait_phase : History → ℕ → ℕ
wait_phase h task = (member_entry (members_of h) task).wait_phase

-- the task is registered
abbrev pub IsAlive : History → ℕ → Type 0
IsAlive h task = IsSome (entry_of (members_of h) task)

-- the task is registered with this entry, in a mode that waits
pub record IsWaiter (h : History) (task : ℕ) (entry : Entry) : Type 0 where
  pub is_member : entry_of (members_of h) task ≡ Some entry
  pub waits : mode_waits entry.mode ≡ true

-- the task is registered with this entry, in a mode that signals
pub record IsSignaller (h : History) (task : ℕ) (entry : Entry) : Type 0 where
  pub is_member : entry_of (members_of h) task ≡ Some entry
  pub signals : mode_signals entry.mode ≡ true

-- no registered task signals
abbrev pub HasNoSignaller : History → Type 0
HasNoSignaller h = signal_phases (members_of h) ≡ []

-- the entry with which the task began
abbrev pub start_of : History → ℕ → Option Entry
start_of [] task = None
start_of (Made founding ∷ before) task = if founding == task then Some founder else None
start_of (Registered parent child mode ∷ before) task =
    if child == task
    then Some (entry_at mode (signal_phase before parent) (wait_phase before parent))
    else start_of before task
start_of (RegisteredNow parent child ∷ before) task =
    if child == task
    then Some (entry_at Wait (signal_phase before parent) (done_of before))
    else start_of before task
start_of (event ∷ before) task = start_of before task

-- the greatest task number ever used, or 0
abbrev pub greatest_used : History → ℕ
greatest_used [] = 0
greatest_used (Made task ∷ before) = task
greatest_used (Registered parent child mode ∷ before) = max child (greatest_used before)
greatest_used (RegisteredNow parent child ∷ before) = max child (greatest_used before)
greatest_used (event ∷ before) = greatest_used before

-- how many phases the task signalled, by its events alone
abbrev pub phases_signalled : History → ℕ → ℕ
phases_signalled [] task = 0
phases_signalled (Signalled signaller lists single ∷ before) task =
    if signaller == task
    then phases_signalled before task + length lists
    else phases_signalled before task
phases_signalled (event ∷ before) task = phases_signalled before task

-- how many phases the task waited for, by its events alone
abbrev pub phases_waited : History → ℕ → ℕ
phases_waited [] task = 0
phases_waited (Waited waiter phases ∷ before) task =
    if waiter == task then phases_waited before task + phases else phases_waited before task
phases_waited (event ∷ before) task = phases_waited before task

-- whether the task has dropped its registration, by its events alone
abbrev pub has_dropped : History → ℕ → Bool
has_dropped [] task = false
has_dropped (Dropped gone ∷ before) task = if gone == task then true else has_dropped before task
has_dropped (event ∷ before) task = has_dropped before task
